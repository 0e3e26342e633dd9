-- What is asked for a script is within the ranges of a recording.
use Rattle.std.proofs.Common.{◌≡◌, ℕ, zero, suc, ◌+◌, ◌*◌, ◌≤◌, Bool, true, false, cond, ltb, ◌||◌, List, [], ◌∷◌, length, Result, Ok, Err, refl, sym, ap, subst, arith, ◌++◌, map}
use Rattle.std.specs.Prelude.{All}
use Rattle.std.specs.List.{filter_map}
use Rattle.std.specs.List.Sorted.{IsNonDecreasing}
use Rattle.std.specs.Fmt.{decimal}
use Rattle.std.specs.Int.{w16, to_be_bytes}
use Rattle.std.proofs.lemmas.Bool.{ltb-false}
use Rattle.std.proofs.lemmas.Fmt.{length-decimal-le}
use Rattle.std.proofs.lemmas.List.{length-append}
use Rattle.std.proofs.lemmas.List.Elements.{All-nil, All-cons}
use Rattle.hex.specs.Hex.{encode_lower, lower_digits}
use Rattle.hex.proofs.HexLemmas.{length-encode_with}
use Rattle.mt_model.specs.declared.texts.line_fault.LineFault.{LineFault}
use Rattle.mt_model.specs.declared.texts.line_fault.LineFault.TheVariants.{Line, TooLong}
use Rattle.mt_model.specs.declared.texts.line_fault.LineKind.{LineKind}
use Rattle.mt_model.specs.declared.texts.line_fault.LineKind.TheVariants.{Head, Time}
use Rattle.mt_files.specs.Event.{event_line}
use Rattle.mt_files.specs.Field.{payload_text, peer_text}
use Rattle.mt_files.specs.Form.{HasForm}
use Rattle.mt_files.specs.Lines.{ended, lines_of, text_is, text_of}
use Rattle.mt_files.specs.Recording.{head as record_head, recording_text}
use Rattle.mt_frame.specs.declared.header.ProtocolHeader.{ProtocolHeader}
use Rattle.mt_model.specs.declared.texts.config.SessionRow.{SessionRow}
use Rattle.mt_model.specs.declared.texts.recording.Event.TheVariants.{Datagram}
use Rattle.mt_model.specs.texts.Events.{event_time}
use Rattle.mt_session.specs.Datagrams.{datagram, datagram_length}
use Rattle.mt_ctl.specs.declared.steps.Step.{Step}
use Rattle.mt_ctl.specs.Asking.{controller, event_of, events_from}
use Rattle.mt_files.specs.Told.{at_line, followed, onto}
use Rattle.mt_ctl.specs.Script.{head, in_time, line_step, line_told, script_of, steps_behind_head, steps_from}
use Rattle.mt_ctl.specs.Steps.{header_of, next_behind}
use Rattle.mt_ctl.proofs.Askings.{length-payload, length-short}
use Rattle.mt_ctl.proofs.Readings.{IsFormed, line_step-form, total, total-lines}

abbrev sends : Step → Result Step LineKind
sends step = Ok step

abbrev told_as : Step → Result Step LineFault
told_as step = Ok step

abbrev all_told : List Step → Result (List Step) LineFault
all_told steps = Ok steps

-- One line.

record LineTold (number before : ℕ) (line : List ℕ) (s : Step) : Type 0 where
  counted : number ≤ 65536
  later : before ≤ s.ms
  formed : IsFormed (length line) s

in_time-some : (before : ℕ) (r : Result Step LineKind) (s : Step) (number : ℕ) → at_line number (in_time before r) ≡ told_as s → (r ≡ sends s) × (before ≤ s.ms)
in_time-some before (Err kind) s number h = absurd (cc)
in_time-some before (Ok x) s number h = by_time (ltb x.ms before) refl h
  where
    by_time : (t : Bool) → ltb x.ms before ≡ t → at_line number (cond t (Err Time) (Ok x)) ≡ told_as s → (sends x ≡ sends s) × (before ≤ s.ms)
    by_time true is h = absurd (cc)
    by_time false is h =
        let same : x ≡ s = cc in
        (ap sends same, subst (λ (y : Step). before ≤ y.ms) same (ltb-false x.ms before is))

line-some : (number before : ℕ) (line : List ℕ) (s : Step) → line_told number before line ≡ told_as s → LineTold number before line s
line-some number before line s h = by_tests (ltb 4096 (length line)) (ltb 65536 number) refl h
  where
    by_tests : (long many : Bool) → ltb 65536 number ≡ many → cond (long || many) (Err TooLong) (at_line number (in_time before (line_step line))) ≡ told_as s → LineTold number before line s
    by_tests true many is h = absurd (cc)
    by_tests false true is h = absurd (cc)
    by_tests false false is h =
        let p = in_time-some before (line_step line) s number h in record {
          counted = ltb-false 65536 number is;
          later = p.1;
          formed = line_step-form line s p.0;
        }

-- A line and the rest.

record Followed (told : Result Step LineFault) (rest : Step → Result (List Step) LineFault) (steps : List Step) : Type 0 where
  step : Step
  others : List Step
  first : told ≡ told_as step
  then : rest step ≡ all_told others
  all : steps ≡ step ∷ others

followed-some : (told : Result Step LineFault) (rest : Step → Result (List Step) LineFault) (steps : List Step) → followed told rest ≡ all_told steps → Followed told rest steps
followed-some (Err fault) rest steps h = absurd (cc)
followed-some (Ok s) rest steps h = by_rest (rest s) refl h
  where
    by_rest : (r : Result (List Step) LineFault) → rest s ≡ r → onto s r ≡ all_told steps → Followed (Ok s) rest steps
    by_rest (Err fault) is h = absurd (cc)
    by_rest (Ok others) is h = let same : s ∷ others ≡ steps = cc in record { step = s; others = others; first = refl; then = is; all = sym same }

-- Lines behind the head.

-- a step within the ranges
abbrev pub IsInRange : Step → Type 0
IsInRange s = (s.ms ≤ 281474976710655) × (length s.payload ≤ 1198)

-- the bytes that the payloads take in hex
abbrev pub weight : List Step → ℕ
weight [] = 0
weight (s ∷ ss) = 2 * length s.payload + weight ss

-- steps within the ranges, whose times do not fall from this time on
abbrev pub Climbs : ℕ → List Step → Type 0
Climbs before [] = Unit {0}
Climbs before (s ∷ ss) = (before ≤ s.ms) × IsInRange s × Climbs s.ms ss

pub record StepsTold (number before most : ℕ) (steps : List Step) : Type 0 where
  pub climbs : Climbs before steps
  pub few : number + length steps ≤ 65537
  pub light : weight steps ≤ most

lines-some : (lines : List (List ℕ)) (number before : ℕ) (steps : List Step) → number ≤ 65537 → steps_from number before lines ≡ all_told steps → StepsTold number before (total lines) steps
lines-some [] number before steps le h =
    let none : [] ≡ steps = cc in subst (StepsTold number before 0) none (record { climbs = tt; few = omega arith; light = omega arith })
lines-some (line ∷ lines) number before steps le h =
    let f = followed-some (line_told number before line) (λ step. steps_from (number + 1) step.ms lines) steps h in
    let p = line-some number before line f.step f.first in
    let rest = lines-some lines (number + 1) f.step.ms f.others (let counted = p.counted in omega arith) f.then in
    let few = rest.few in
    let light = p.formed.2 in
    let others = rest.light in
    subst (StepsTold number before (total (line ∷ lines))) (sym f.all) (record {
      climbs = (p.later, (p.formed.0, p.formed.1), rest.climbs);
      few = omega arith;
      light = omega arith;
    })

behind-some : (all : List (List ℕ)) (steps : List Step) → steps_behind_head all ≡ all_told steps → StepsTold 2 0 (total all) steps
behind-some [] steps h = absurd (cc)
behind-some (first ∷ lines) steps h = by_tests (ltb 4096 (length first)) (text_is first head) h
  where
    by_tests : (long is : Bool) → cond long (Err TooLong) (cond is (steps_from 2 0 lines) (Err (Line 1 Head))) ≡ all_told steps → StepsTold 2 0 (length first + total lines) steps
    by_tests true is h = absurd (cc)
    by_tests false false h = absurd (cc)
    by_tests false true h =
        let told = lines-some lines 2 0 steps (omega arith) h in
        let light = told.light in
        record { climbs = told.climbs; few = told.few; light = omega arith }

pub script-some : (bytes : List ℕ) (steps : List Step) → script_of bytes ≡ all_told steps → StepsTold 2 0 16777216 steps
script-some bytes steps h = by_length (ltb 16777216 (length bytes)) refl h
  where
    by_length : (long : Bool) → ltb 16777216 (length bytes) ≡ long → cond long (Err TooLong) (steps_behind_head (lines_of bytes)) ≡ all_told steps → StepsTold 2 0 16777216 steps
    by_length true is h = absurd (cc)
    by_length false is h =
        let told = behind-some (lines_of bytes) steps h in
        let light = told.light in
        let lines = total-lines bytes in
        let short = ltb-false 16777216 (length bytes) is in
        record { climbs = told.climbs; few = told.few; light = omega arith }

-- What is asked.

rises-cons : (x : ℕ) (xs : List ℕ) → All (λ y. x ≤ y) xs → IsNonDecreasing xs → IsNonDecreasing (x ∷ xs)
rises-cons x xs all rest zero zero d le lt = omega arith
rises-cons x xs all rest zero (suc j) d le lt = all j d (omega arith)
rises-cons x xs all rest (suc i) (suc j) d le lt = rest i j d (omega arith) (omega arith)
rises-cons x xs all rest (suc i) zero d le lt = absurd (omega arith)

all-later : (steps : List Step) (before : ℕ) (row : SessionRow) (counter next : ℕ) → Climbs before steps
    → All (λ y. before ≤ y) (filter_map event_time (events_from row counter next steps))
all-later [] before row counter next climbs = All-nil (λ y. before ≤ y)
all-later (s ∷ ss) before row counter next climbs =
    All-cons (λ y. before ≤ y) s.ms _ climbs.0 (all-later ss before row (counter + 1) (next_behind next s.kind) (lower ss climbs.2))
  where
    lower : (ss : List Step) → Climbs s.ms ss → Climbs before ss
    lower [] h = tt
    lower (t ∷ ts) h = (let first = climbs.0 in let then = h.0 in omega arith, h.1, h.2)

pub times-asked : (steps : List Step) (before : ℕ) (row : SessionRow) (counter next : ℕ) → Climbs before steps
    → IsNonDecreasing (filter_map event_time (events_from row counter next steps))
times-asked [] before row counter next climbs = λ i j d le lt. absurd (omega arith)
times-asked (s ∷ ss) before row counter next climbs =
    rises-cons s.ms _ (all-later ss s.ms row (counter + 1) (next_behind next s.kind) climbs.2)
    (times-asked ss s.ms row (counter + 1) (next_behind next s.kind) climbs.2)

-- what a law of sessions says of the length of a datagram
abbrev pub LengthLaw : Type 0
LengthLaw = (row : SessionRow) (counter : ℕ) (header : ProtocolHeader) (payload : List ℕ) → length (datagram row counter header payload) ≡ datagram_length header payload

pub forms-asked : (law : LengthLaw) (steps : List Step) (before : ℕ) (row : SessionRow) (counter next : ℕ) → Climbs before steps
    → All HasForm (events_from row counter next steps)
forms-asked law [] before row counter next climbs = All-nil HasForm
forms-asked law (s ∷ ss) before row counter next climbs =
    let size = length-short next s climbs.1.1 in
    let is = law row counter (header_of next s) s.payload in
    All-cons HasForm (event_of row counter next s) _ (climbs.1.0, omega arith)
    (forms-asked law ss s.ms row (counter + 1) (next_behind next s.kind) climbs.2)

pub length-asked : (steps : List Step) (row : SessionRow) (counter next : ℕ) → length (events_from row counter next steps) ≡ length steps
length-asked [] row counter next = refl
length-asked (s ∷ ss) row counter next = ap (λ n. suc n) (length-asked ss row (counter + 1) (next_behind next s.kind))

-- The text of what is asked.

peer-length : length (peer_text controller) ≡ 36
peer-length =
    let ip : List ℕ = controller.ip in
    let port : List ℕ = to_be_bytes w16 5540 in
    let two : length port ≡ 2 = refl in
    omega (
      arith,
      length-append (encode_lower ip) (encode_lower port),
      length-encode_with lower_digits ip,
      length-encode_with lower_digits port,
    )

payload-length : (bytes : List ℕ) → length (payload_text bytes) ≤ 2 * length bytes + 1
payload-length [] = omega arith
payload-length (b ∷ bytes) = omega (arith, length-encode_with lower_digits (b ∷ bytes))

line-length : (ms : ℕ) (bytes : List ℕ) → ms ≤ 281474976710655 → length (event_line (Datagram ms controller bytes)) ≤ 56 + 2 * length bytes
line-length ms bytes le =
    let digits = length-decimal-le 15 ms (omega arith) (omega arith) (omega arith) in
    let last : List ℕ = 32 ∷ payload_text bytes in
    let behind : List ℕ = 32 ∷ (peer_text controller ++ last) in
    omega (arith, digits, length-append (decimal ms) behind, length-append (peer_text controller) last, peer-length, payload-length bytes)

text-length : (law : LengthLaw) (steps : List Step) (before : ℕ) (row : SessionRow) (counter next : ℕ) → Climbs before steps
    → length (text_of (map event_line (events_from row counter next steps))) ≤ 125 * length steps + weight steps
text-length law [] before row counter next climbs = omega arith
text-length law (s ∷ ss) before row counter next climbs =
    let bytes : List ℕ = datagram row counter (header_of next s) s.payload in
    let line : List ℕ = event_line (Datagram s.ms controller bytes) in
    let rest : List ℕ = text_of (map event_line (events_from row (counter + 1) (next_behind next s.kind) ss)) in
    let size : length bytes ≡ datagram_length (header_of next s) s.payload = law row counter (header_of next s) s.payload in
    let most : datagram_length (header_of next s) s.payload ≤ length s.payload + 34 = length-payload next s in
    let more : length rest ≤ 125 * length ss + weight ss = text-length law ss s.ms row (counter + 1) (next_behind next s.kind) climbs.2 in
    omega (arith, size, most, more, line-length s.ms bytes climbs.1.0, length-append (line ++ 10 ∷ []) rest, length-append line (10 ∷ []))

pub text-short : (law : LengthLaw) (steps : List Step) (row : SessionRow) (counter next : ℕ) → StepsTold 2 0 16777216 steps
    → length (recording_text (events_from row counter next steps)) ≤ 67108864
text-short law steps row counter next told =
    let few = told.few in
    let light = told.light in
    let body : List ℕ = text_of (map event_line (events_from row counter next steps)) in
    let first : length (ended record_head) ≡ 16 = refl in
    omega (arith, first, text-length law steps 0 row counter next told.climbs, length-append (ended record_head) body)
