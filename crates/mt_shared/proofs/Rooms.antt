-- The recording of a book that is one entry longer.
use Rattle.std.proofs.Common.{◌≡◌, ◌∙◌, refl, sym, ap, ℕ, ◌+◌, ◌≤◌, ◌<◌, ◌⊎◌, inl, inr, max, min, subst, Bool, true, false, true≢false, List, [], ◌∷◌, ◌++◌, length, map, Option, Some, None, arith, length-append}
use Rattle.std.specs.Prelude.{◌||◌, nat_le, nat_lt, is_some}
use Rattle.std.proofs.lemmas.Bool.{leb-false, le-leb, le-ltb, lt-leb, lt-ltb, ltb-false}
use Rattle.mt_files.specs.Event.{at_time, event_line, line_size}
use Rattle.mt_files.specs.Lines.{ended, text_of}
use Rattle.mt_files.specs.Recording.{head, recording_text}
use Rattle.mt_model.specs.declared.limits.TheConstants.{RECORDING_BYTES, RECORDING_LINES}
use Rattle.mt_model.specs.declared.texts.recording.Event.{Event}
use Rattle.mt_shared.specs.Book.{asked, done, failed, first_of, is_full, last_time, lines_in, onto_lines, record_size, stop_in, time_for}
use Rattle.mt_shared.specs.declared.entry.Call.{Call}
use Rattle.mt_shared.specs.declared.entry.Entry.{Entry}
use Rattle.mt_shared.specs.declared.entry.Stop.{Stop}

-- a line more
pub lines-done : (book : List Entry) (call : Call) (ms : ℕ) → lines_in (book ++ done call ms ∷ []) ≡ lines_in book ++ at_time ms call.event ∷ []
lines-done [] call ms = refl
lines-done (e ∷ book) call ms =
    let Goal : Option Stop → Type 0 = λ o. onto_lines o (at_time e.ms e.call.event) (lines_in (book ++ done call ms ∷ [])) ≡ onto_lines o (at_time e.ms e.call.event) (lines_in book) ++ at_time ms call.event ∷ [] in
    let rest = lines-done book call ms in
    let both : (o : Option Stop) → Goal o = elim [ None ↦ ap (λ (events : List Event). at_time e.ms e.call.event ∷ events) rest | Some stop ↦ rest ] in
    both e.stop

-- a stop is none
pub lines-failed : (book : List Entry) (call : Call) (ms : ℕ) (stop : Stop) → lines_in (book ++ failed call ms stop ∷ []) ≡ lines_in book
lines-failed [] call ms stop = refl
lines-failed (e ∷ book) call ms stop = ap (onto_lines e.stop (at_time e.ms e.call.event)) (lines-failed book call ms stop)

-- without a stop each entry is a line
pub lines-all : (book : List Entry) → stop_in book ≡ None → length (lines_in book) ≡ length book
lines-all [] none = refl
lines-all (e ∷ book) none =
    let Goal : Option Stop → Type 0 = λ o. first_of o (stop_in book) ≡ None → length (onto_lines o (at_time e.ms e.call.event) (lines_in book)) ≡ length (e ∷ book) in
    let both : (o : Option Stop) → Goal o = elim [ None ↦ λ h. (let rest = lines-all book h in omega (arith, rest)) | Some other ↦ λ h. absurd (true≢false (ap is_some h)) ] in
    both e.stop none

text-size : (lines : List (List ℕ)) (line : List ℕ) → length (text_of (lines ++ line ∷ [])) ≡ length (text_of lines) + length (ended line)
text-size [] line = omega (arith, length-append (ended line) [])
text-size (first ∷ lines) line =
    let rest = text-size lines line in
    omega (arith, rest, length-append (ended first) (text_of (lines ++ line ∷ [])), length-append (ended first) (text_of lines))

map-push : (events : List Event) (event : Event) → map event_line (events ++ event ∷ []) ≡ map event_line events ++ event_line event ∷ []
map-push [] event = refl
map-push (e ∷ events) event = ap (λ (lines : List (List ℕ)). event_line e ∷ lines) (map-push events event)

recording-size : (events : List Event) (event : Event) → length (recording_text (events ++ event ∷ [])) ≡ length (recording_text events) + line_size event
recording-size events event = ap (λ (lines : List (List ℕ)). length (text_of (head ∷ lines))) (map-push events event) ∙ text-size (head ∷ map event_line events) (event_line event)

-- how long the recording is then
pub size-done : (book : List Entry) (call : Call) (ms : ℕ) → record_size (book ++ done call ms ∷ []) ≡ record_size book + line_size (at_time ms call.event)
size-done book call ms = ap (λ (events : List Event). length (recording_text events)) (lines-done book call ms) ∙ recording-size (lines_in book) (at_time ms call.event)

pub size-failed : (book : List Entry) (call : Call) (ms : ℕ) (stop : Stop) → record_size (book ++ failed call ms stop ∷ []) ≡ record_size book
size-failed book call ms stop = ap (λ (events : List Event). length (recording_text events)) (lines-failed book call ms stop)

-- WHETHER THE RECORD IS FULL.

or_no : (a b : Bool) → a || b ≡ false → (a ≡ false) × (b ≡ false)
or_no = elim [ true ↦ λ b is. absurd (true≢false is) | false ↦ λ b is. (refl, is) ]

-- with room the recording keeps to its limit
pub still_short : (book longer : List Entry) (call : Call) (ms : ℕ) → longer ≡ book ++ done call ms ∷ [] → ms ≡ time_for book call → is_full book call ≡ false → record_size longer ≤ RECORDING_BYTES
still_short book longer call ms is time full =
    let both = or_no (nat_le RECORDING_LINES (length (lines_in book))) (nat_lt RECORDING_BYTES (record_size (book ++ done call (time_for book call) ∷ []))) full in
    let size : record_size longer ≡ record_size (book ++ done call (time_for book call) ∷ []) = ap record_size is ∙ ap (λ (t : ℕ). record_size (book ++ done call t ∷ [])) time in
    let within : record_size (book ++ done call (time_for book call) ∷ []) ≤ RECORDING_BYTES = ltb-false RECORDING_BYTES (record_size (book ++ done call (time_for book call) ∷ [])) both.1 in
    subst (λ (n : ℕ). n ≤ RECORDING_BYTES) (sym size) within

pub still_few : (book longer : List Entry) (call : Call) (ms : ℕ) → longer ≡ book ++ done call ms ∷ [] → is_full book call ≡ false → length (lines_in longer) ≤ RECORDING_LINES
still_few book longer call ms is full =
    let both = or_no (nat_le RECORDING_LINES (length (lines_in book))) (nat_lt RECORDING_BYTES (record_size (book ++ done call (time_for book call) ∷ []))) full in
    let under : length (lines_in book) < RECORDING_LINES = leb-false RECORDING_LINES (length (lines_in book)) both.0 in
    let size : length (lines_in longer) ≡ length (lines_in book) + 1 =
    ap (λ (b : List Entry). length (lines_in b)) is ∙ ap length (lines-done book call ms) ∙ length-append (lines_in book) (at_time ms call.event ∷ []) in
    omega (arith, under, size)

-- how the code tells it, where the book has no stop
pub full_is : (book : List Entry) (call : Call) → stop_in book ≡ None
    → is_full book call ≡ (nat_le RECORDING_LINES (length book) || nat_lt RECORDING_BYTES (record_size book + line_size (at_time (time_for book call) call.event)))
full_is book call none =
    let lines = lines-all book none in
    let size = size-done book call (time_for book call) in
    λ i. nat_le RECORDING_LINES (lines i) || nat_lt RECORDING_BYTES (size i)

or_left : (a b : Bool) → a ≡ true → a || b ≡ true
or_left = elim [ true ↦ λ b is. refl | false ↦ λ b is. absurd (true≢false (sym is)) ]

or_right : (a b : Bool) → b ≡ true → a || b ≡ true
or_right = elim [ true ↦ λ b is. refl | false ↦ λ b is. is ]

or_none : (a b : Bool) → a ≡ false → b ≡ false → a || b ≡ false
or_none = elim [ true ↦ λ b is too. absurd (true≢false is) | false ↦ λ b is too. too ]

-- what the code counts: the entries, the bytes of the record, those of this line, and their sum as far as a word goes
pub record Counted (book : List Entry) (call : Call) (entries bytes line sum : ℕ) : Type 0 where
  pub none : stop_in book ≡ None
  pub entries_are : entries ≡ length book
  pub bytes_are : record_size book ≡ bytes
  pub line_is : line ≡ line_size (at_time (time_for book call) call.event)
  pub sum_is : sum ≡ min (bytes + line) 18446744073709551615

pub full_by : (book : List Entry) (call : Call) (entries bytes line sum : ℕ) → Counted book call entries bytes line sum → (1048576 ≤ entries) ⊎ ((entries < 1048576) × (67108864 < sum)) → is_full book call ≡ true
full_by book call entries bytes line sum counted either =
    let all = record_size book + line_size (at_time (time_for book call) call.event) in
    let few = nat_le RECORDING_LINES (length book) in
    let much = nat_lt RECORDING_BYTES all in
    full_is book call counted.none ∙ elim either [
      | inl many ↦ or_left few much (le-leb RECORDING_LINES (length book) (omega (arith, many, counted.entries_are)))
      | inr long ↦ or_right few much (lt-ltb RECORDING_BYTES all (omega (arith, long.1, counted.bytes_are, counted.line_is, counted.sum_is)))
    ]

pub room_by : (book : List Entry) (call : Call) (entries bytes line sum : ℕ) → Counted book call entries bytes line sum → entries < 1048576 → sum ≤ 67108864 → is_full book call ≡ false
room_by book call entries bytes line sum counted few short =
    let all = record_size book + line_size (at_time (time_for book call) call.event) in
    full_is book call counted.none
    ∙ or_none (nat_le RECORDING_LINES (length book)) (nat_lt RECORDING_BYTES all) (lt-leb RECORDING_LINES (length book) (omega (arith, few, counted.entries_are)))
    (le-ltb RECORDING_BYTES all (omega (arith, short, counted.bytes_are, counted.line_is, counted.sum_is)))

pub sum_by : (book : List Entry) (call : Call) (entries bytes line sum : ℕ) → Counted book call entries bytes line sum → sum ≤ 67108864 → sum ≡ record_size (book ++ done call (time_for book call) ∷ [])
sum_by book call entries bytes line sum counted short =
    let size = size-done book call (time_for book call) in
    omega (arith, size, short, counted.bytes_are, counted.line_is, counted.sum_is)

-- the time at which the call is done
pub time_by : (book : List Entry) (call : Call) (asks last later : ℕ) → asks ≡ asked call → last_time 0 book ≡ last → later ≡ max asks last → later ≡ time_for book call
time_by book call asks last later asks_is last_is is = is ∙ (λ i. max (asks_is i) (sym last_is i))
