-- Recordings as a relation, and as they are read.
use Rattle.std.proofs.Common.{◌≡◌, ℕ, zero, suc, ◌+◌, ◌≤◌, Bool, true, false, cond, ltb, ◌||◌, List, [], ◌∷◌, length, get_or, map, Option, Some, None, Result, Ok, Err, refl, sym, ap, subst, ◌∙◌, arith}
use Rattle.std.specs.Prelude.{All}
use Rattle.std.specs.List.{cons_option, filter_map}
use Rattle.std.specs.List.Sorted.{IsNonDecreasing}
use Rattle.std.specs.Cmp.Lexicographic.{bytes_decides}
use Rattle.std.specs.Option.{option_map_or}
use Rattle.std.proofs.lemmas.Bool.{le-ltb, ltb-false}
use Rattle.std.proofs.lemmas.List.Elements.{All-nil, All-cons, All-head, All-tail}
use Rattle.mt_model.specs.declared.limits.TheConstants.{LINE_BYTES, RECORDING_BYTES, RECORDING_LINES}
use Rattle.mt_model.specs.declared.texts.recording.Event.{Event}
use Rattle.mt_model.specs.declared.texts.line_fault.LineFault.{LineFault}
use Rattle.mt_model.specs.declared.texts.line_fault.LineFault.TheVariants.{Line, TooLong}
use Rattle.mt_model.specs.declared.texts.line_fault.LineKind.{LineKind}
use Rattle.mt_model.specs.declared.texts.line_fault.LineKind.TheVariants.{Head, Time}
use Rattle.mt_files.specs.Event.{line_event}
use Rattle.mt_files.specs.Form.{HasForm}
use Rattle.mt_files.specs.Lines.{lines_of, text_is}
use Rattle.mt_model.specs.texts.Events.{event_time}
use Rattle.mt_files.specs.Recording.{events_behind_head, events_from, head, in_time, line_told, recording_of, time_at, IsRecording}
use Rattle.mt_files.specs.Told.{at_line, followed, onto}
use Rattle.mt_files.proofs.Readings.{followed-some}
use Rattle.mt_files.proofs.Shapes.{line_event-form}

abbrev told_as : Event → Result Event LineKind
told_as e = Ok e

abbrev all_told : List Event → Result (List Event) LineFault
all_told events = Ok events

abbrev one_told : Event → Result Event LineFault
one_told e = Ok e

-- times that do not fall, from a time on

abbrev times : List Event → List ℕ
times events = filter_map event_time events

abbrev Climbs : ℕ → List Event → Type 0
Climbs before [] = Unit {0}
Climbs before (e ∷ es) = (before ≤ time_at before e) × Climbs (time_at before e) es

pub rises-cons : (x : ℕ) (xs : List ℕ) → All (λ y. x ≤ y) xs → IsNonDecreasing xs → IsNonDecreasing (x ∷ xs)
rises-cons x xs all rest zero zero d le lt = omega arith
rises-cons x xs all rest zero (suc j) d le lt = all j d (omega arith)
rises-cons x xs all rest (suc i) (suc j) d le lt = rest i j d (omega arith) (omega arith)
rises-cons x xs all rest (suc i) zero d le lt = absurd (omega arith)

pub rises-tail : (x : ℕ) (xs : List ℕ) → IsNonDecreasing (x ∷ xs) → IsNonDecreasing xs
rises-tail x xs h i j d le lt = h (suc i) (suc j) d (omega arith) (omega arith)

rises-below : (x y : ℕ) (ys : List ℕ) → x ≤ y → IsNonDecreasing (y ∷ ys) → IsNonDecreasing (x ∷ y ∷ ys)
rises-below x y ys le h = rises-cons x (y ∷ ys) (λ k d lt. let here : y ≤ get_or (y ∷ ys) k d = h 0 k d (omega arith) lt in omega arith) h

abbrev then_at : ℕ → Option ℕ → ℕ
then_at before o = option_map_or (λ ms. ms) o before

climbs-step : (o : Option ℕ) (before : ℕ) (ts : List ℕ) → before ≤ then_at before o → IsNonDecreasing (then_at before o ∷ ts) → IsNonDecreasing (before ∷ cons_option o ts)
climbs-step None before ts le h = h
climbs-step (Some ms) before ts le h = rises-below before ms ts le h

climbs-back : (o : Option ℕ) (before : ℕ) (ts : List ℕ) → IsNonDecreasing (before ∷ cons_option o ts) → (before ≤ then_at before o) × IsNonDecreasing (then_at before o ∷ ts)
climbs-back None before ts h = (omega arith, h)
climbs-back (Some ms) before ts h = (h 0 1 0 (omega arith) (omega arith), rises-tail before (ms ∷ ts) h)

rises-from_climbs : (es : List Event) (before : ℕ) → Climbs before es → IsNonDecreasing (before ∷ times es)
rises-from_climbs [] before h = rises-cons before [] (All-nil (λ y. before ≤ y)) (λ i j d le lt. absurd (omega arith))
rises-from_climbs (e ∷ es) before h = climbs-step (event_time e) before (times es) h.0 (rises-from_climbs es (time_at before e) h.1)

climbs-from_rises : (es : List Event) (before : ℕ) → IsNonDecreasing (before ∷ times es) → Climbs before es
climbs-from_rises [] before h = tt
climbs-from_rises (e ∷ es) before h = let p = climbs-back (event_time e) before (times es) h in (p.0, climbs-from_rises es (time_at before e) p.1)

-- one line

record LineTold (number before : ℕ) (line : List ℕ) (e : Event) : Type 0 where
  short : length line ≤ LINE_BYTES
  counted : number ≤ RECORDING_LINES + 1
  told : line_event line ≡ told_as e
  later : before ≤ time_at before e

in_time-some : (before : ℕ) (r : Result Event LineKind) (e : Event) (number : ℕ) → at_line number (in_time before r) ≡ one_told e → (r ≡ told_as e) × (before ≤ time_at before e)
in_time-some before (Err kind) e number h = absurd (cc)
in_time-some before (Ok x) e number h = by_time (ltb (time_at before x) before) refl h
  where
    by_time : (t : Bool) → ltb (time_at before x) before ≡ t → at_line number (cond t (Err Time) (Ok x)) ≡ one_told e → (told_as x ≡ told_as e) × (before ≤ time_at before e)
    by_time true is h = absurd (cc)
    by_time false is h =
        let same : x ≡ e = cc in
        (ap told_as same, subst (λ (y : Event). before ≤ time_at before y) same (ltb-false (time_at before x) before is))

line-some : (number before : ℕ) (line : List ℕ) (e : Event) → line_told number before line ≡ one_told e → LineTold number before line e
line-some number before line e h = by_tests (ltb LINE_BYTES (length line)) (ltb (RECORDING_LINES + 1) number) refl refl h
  where
    by_tests : (s t : Bool) → ltb LINE_BYTES (length line) ≡ s → ltb (RECORDING_LINES + 1) number ≡ t → cond (s || t) (Err TooLong) (at_line number (in_time before (line_event line))) ≡ one_told e → LineTold number before line e
    by_tests true t long many h = absurd (cc)
    by_tests false true long many h = absurd (cc)
    by_tests false false long many h =
        let p = in_time-some before (line_event line) e number h in record {
          short = ltb-false LINE_BYTES (length line) long;
          counted = ltb-false (RECORDING_LINES + 1) number many;
          told = p.0;
          later = p.1;
        }

line-from : (number before : ℕ) (line : List ℕ) (e : Event) → LineTold number before line e → line_told number before line ≡ one_told e
line-from number before line e p =
    let long : ltb LINE_BYTES (length line) ≡ false = le-ltb LINE_BYTES (length line) p.short in
    let many : ltb (RECORDING_LINES + 1) number ≡ false = le-ltb (RECORDING_LINES + 1) number p.counted in
    let time : ltb (time_at before e) before ≡ false = le-ltb (time_at before e) before p.later in
    (λ i. cond (long i || many i) (Err TooLong) (at_line number (in_time before (p.told i))))
    ∙ ap (λ t. at_line number (cond t (Err Time) (Ok e))) time

-- lines behind the head

record LinesTold (number before : ℕ) (lines : List (List ℕ)) (events : List Event) : Type 0 where
  told : map line_event lines ≡ map told_as events
  times : Climbs before events
  short : All (λ line. length line ≤ LINE_BYTES) lines
  few : number + length lines ≤ RECORDING_LINES + 2

abbrev IsShort : List ℕ → Type 0
IsShort line = length line ≤ LINE_BYTES

lines-some : (lines : List (List ℕ)) (number before : ℕ) (events : List Event) → number ≤ RECORDING_LINES + 2 → events_from number before lines ≡ all_told events → LinesTold number before lines events
lines-some [] number before events le h =
    let none : [] ≡ events = cc in subst (LinesTold number before []) none (record { told = refl; times = tt; short = All-nil IsShort; few = omega arith })
lines-some (line ∷ lines) number before events le h =
    let f = followed-some (line_told number before line) (λ event. events_from (number + 1) (time_at before event) lines) events h in
    let p = line-some number before line f.item f.first in
    let rest = lines-some lines (number + 1) (time_at before f.item) f.others (let counted = p.counted in omega arith) f.then in
    let few = rest.few in
    subst (LinesTold number before (line ∷ lines)) (sym f.all) (record {
      told = λ i. p.told i ∷ rest.told i;
      times = (p.later, rest.times);
      short = All-cons IsShort line lines p.short rest.short;
      few = omega arith;
    })

lines-from : (lines : List (List ℕ)) (number before : ℕ) (events : List Event) → LinesTold number before lines events → events_from number before lines ≡ all_told events
lines-from [] number before [] p = refl
lines-from [] number before (e ∷ es) p = absurd (let h = p.told in cc)
lines-from (line ∷ lines) number before [] p = absurd (let h = p.told in cc)
lines-from (line ∷ lines) number before (e ∷ es) p =
    let h = p.told in
    let few = p.few in
    let told : line_event line ≡ told_as e = cc in
    let rest : map line_event lines ≡ map told_as es = cc in
    let first = line-from number before line e (record { short = All-head IsShort line lines p.short; counted = omega arith; told = told; later = p.times.0 }) in
    ap (λ r. followed r (λ event. events_from (number + 1) (time_at before event) lines)) first
    ∙ ap (onto e) (lines-from lines (number + 1) (time_at before e) es (record { told = rest; times = p.times.1; short = All-tail IsShort line lines p.short; few = omega arith }))

-- the whole recording

-- what was read from all lines
record Behind (all : List (List ℕ)) (events : List Event) : Type 0 where
  lines : List (List ℕ)
  is : all ≡ head ∷ lines
  behind : LinesTold 2 0 lines events

head_is : (first : List ℕ) → text_is first head ≡ true → first ≡ head
head_is first h = (bytes_decides first head).0 h

behind-some : (all : List (List ℕ)) (events : List Event) → events_behind_head all ≡ all_told events → Behind all events
behind-some [] events h = absurd (cc)
behind-some (first ∷ lines) events h = by_tests (ltb LINE_BYTES (length first)) (text_is first head) refl h
  where
    by_tests : (s t : Bool) → text_is first head ≡ t → cond s (Err TooLong) (cond t (events_from 2 0 lines) (Err (Line 1 Head))) ≡ all_told events → Behind (first ∷ lines) events
    by_tests true t is h = absurd (cc)
    by_tests false false is h = absurd (cc)
    by_tests false true is h = record { lines = lines; is = ap (λ (f : List ℕ). f ∷ lines) (head_is first is); behind = lines-some lines 2 0 events (omega arith) h }

pub IsRecording-from_read : (bytes : List ℕ) (events : List Event) → recording_of bytes ≡ all_told events → IsRecording bytes events
IsRecording-from_read bytes events h = by_length (ltb RECORDING_BYTES (length bytes)) refl h
  where
    by_length : (t : Bool) → ltb RECORDING_BYTES (length bytes) ≡ t → cond t (Err TooLong) (events_behind_head (lines_of bytes)) ≡ all_told events → IsRecording bytes events
    by_length true long h = absurd (cc)
    by_length false long h =
        let p = behind-some (lines_of bytes) events h in
        let few = p.behind.few in record {
          lines = p.lines;
          text = p.is;
          told = p.behind.told;
          times = rises-tail 0 (times events) (rises-from_climbs events 0 p.behind.times);
          short = ltb-false RECORDING_BYTES (length bytes) long;
          short_lines = p.behind.short;
          few_lines = omega arith;
        }

pub read-IsRecording : (bytes : List ℕ) (events : List Event) → IsRecording bytes events → recording_of bytes ≡ all_told events
read-IsRecording bytes events p =
    let few = p.few_lines in
    let long : ltb RECORDING_BYTES (length bytes) ≡ false = le-ltb RECORDING_BYTES (length bytes) p.short in
    let rises : IsNonDecreasing (0 ∷ times events) = rises-cons 0 (times events) (λ k d lt. omega arith) p.times in
    (λ i. cond (long i) (Err TooLong) (events_behind_head (p.text i)))
    ∙ lines-from p.lines 2 0 events (record { told = p.told; times = climbs-from_rises events 0 rises; short = p.short_lines; few = omega arith })

-- the events of a recording are within the ranges of the format

lines-form : (lines : List (List ℕ)) (events : List Event) → map line_event lines ≡ map told_as events → All HasForm events
lines-form lines [] h = All-nil HasForm
lines-form [] (e ∷ es) h = absurd (cc)
lines-form (line ∷ lines) (e ∷ es) h =
    let told : line_event line ≡ told_as e = cc in
    let rest : map line_event lines ≡ map told_as es = cc in
    All-cons HasForm e es (line_event-form line e told) (lines-form lines es rest)

pub read-form : (bytes : List ℕ) (events : List Event) → recording_of bytes ≡ all_told events → All HasForm events
read-form bytes events h = let p = IsRecording-from_read bytes events h in lines-form p.lines events p.told
