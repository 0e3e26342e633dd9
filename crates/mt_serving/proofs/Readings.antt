-- The lines of a book are a recording: each is one that a line can tell, and their times do not fall.
use Rattle.std.proofs.Common.{◌≡◌, refl, sym, subst, ℕ, zero, suc, ◌≤◌, Bool, true, false, cond, true≢false, List, [], ◌∷◌, length, take, Option, Some, None, arith}
use Rattle.std.specs.Prelude.{◌==◌, All, Result, max, nat_le, ⊤}
use Rattle.std.specs.Coded.{codes}
use Rattle.std.specs.List.{cons_option, filter_map}
use Rattle.std.specs.List.Sorted.{IsNonDecreasing}
use Rattle.std.proofs.lemmas.Bool.{eqb-true, leb-true}
use Rattle.std.proofs.lemmas.List.{take_all}
use Rattle.std.proofs.lemmas.List.Elements.{All-cons, All-head, All-nil, All-tail, All-weaker}
use Rattle.std.proofs.lemmas.List.Sums.{AllPass-from_list_all}
use Rattle.mt_files.specs.Event.{at_time}
use Rattle.mt_files.specs.Form.{HasForm, IsEvent}
use Rattle.mt_model.specs.declared.limits.TheConstants.{LAST_TIME}
use Rattle.mt_model.specs.declared.texts.line_fault.LineFault.{LineFault}
use Rattle.mt_model.specs.declared.texts.recording.Event.{Event}
use Rattle.mt_model.specs.declared.texts.recording.Event.TheVariants as events
use Rattle.mt_model.specs.texts.Events.{event_time}
use Rattle.mt_sizes.specs.Laws.{LinesAreShort}
use Rattle.mt_starting.specs.mt_shared.Book.{AreFormed, are_in_time, asked, is_timed, lines_in, onto_lines}
use Rattle.mt_starting.specs.mt_shared.Entry.{Entry}
use Rattle.mt_starting.specs.mt_shared.Stop.{Stop}

-- EACH LINE is that of an entry, at its time.

line_onto : (P : Event → Type 0) (stop : Option Stop) (event : Event) (events : List Event) → P event → All P events → All P (onto_lines stop event events)
line_onto P None event events here each = All-cons P event events here each
line_onto P (Some stop) event events here each = each

abbrev line_at : Entry → Event
line_at entry = at_time entry.ms entry.call.event

-- what holds of the lines of all entries holds of those of the book, which lack a stop's
pub of_lines : (P : Event → Type 0) (book : List Entry) → All (λ (entry : Entry). P (line_at entry)) book → All P (lines_in book)
of_lines P [] each = All-nil P
of_lines P (entry ∷ book) each =
    line_onto P entry.stop (line_at entry) (lines_in book) (All-head (λ (one : Entry). P (line_at one)) entry book each) (of_lines P book (All-tail (λ (one : Entry). P (line_at one)) entry book each))

pub each_in_time : (book : List Entry) → are_in_time book ≡ true → All (λ (entry : Entry). entry.ms ≤ LAST_TIME) book
each_in_time book in_time k d less = leb-true _ LAST_TIME (AllPass-from_list_all (λ (entry : Entry). nat_le entry.ms LAST_TIME) book in_time k d less)

-- what was gone over is all of it
pub typed_to_end : (book : List Entry) (i : ℕ) → length book ≤ i → All (λ (entry : Entry). IsEvent entry.call.event) (take i book) → All (λ (entry : Entry). IsEvent entry.call.event) book
typed_to_end book i end so_far = subst (All (λ (entry : Entry). IsEvent entry.call.event)) (take_all i book end) so_far

abbrev pub IsLine : Event → Type 0
IsLine event = IsEvent event × HasForm event

-- each line is within its types and the ranges of the format
pub lines_are_told : LinesAreShort → (book : List Entry) → are_in_time book ≡ true → All (λ (entry : Entry). IsEvent entry.call.event) book → AreFormed book → All IsLine (lines_in book)
lines_are_told law book in_time typed formed =
    let early = each_in_time book in_time in
    of_lines IsLine book (λ k d less. law.moved _ _ (early k d less) (typed k d less) (formed k d less))

-- THE TIMES of the lines.

abbrev times_in : List Entry → List ℕ
times_in book = filter_map event_time (lines_in book)

-- a line has this time, or none
abbrev IsAt : ℕ → Option ℕ → Type 0
IsAt ms None = ⊤
IsAt ms (Some time) = time ≡ ms

time_is : (ms : ℕ) (event : Event) → IsAt ms (event_time (at_time ms event))
time_is ms (events.Ask before fabric node cats opcode payload) = refl
time_is ms (events.Datagram before peer bytes) = refl
time_is ms (events.Tick before) = refl
time_is ms (events.Report before fabric subscription) = refl
time_is ms (events.Resend before session) = refl
time_is ms (events.Stop calls fate) = tt

both_parts : (x y : Bool) → cond x y false ≡ true → (x ≡ true) × (y ≡ true)
both_parts true y holds = (refl, holds)
both_parts false y holds = absurd (true≢false (sym holds))

-- an entry is no earlier than the time before it, and those behind it are timed behind it
later : (before : ℕ) (entry : Entry) (book : List Entry) → is_timed before (entry ∷ book) ≡ true → (before ≤ entry.ms) × (is_timed entry.ms book ≡ true)
later before entry book timed =
    let parts = both_parts (entry.ms == max (asked entry.call) before) (is_timed entry.ms book) timed in
    let is : entry.ms ≡ max (asked entry.call) before = eqb-true entry.ms (max (asked entry.call) before) parts.0 in
    (omega (arith, is), parts.1)

abbrev AllFrom : ℕ → List ℕ → Type 0
AllFrom low times = All (λ (time : ℕ). low ≤ time) times

from_lower : (low high : ℕ) (times : List ℕ) → low ≤ high → AllFrom high times → AllFrom low times
from_lower low high times below each = All-weaker (λ (time : ℕ). high ≤ time) (λ (time : ℕ). low ≤ time) (λ time above. omega (arith, below, above)) times each

onto_from : (ms : ℕ) (time : Option ℕ) (times : List ℕ) → IsAt ms time → AllFrom ms times → AllFrom ms (cons_option time times)
onto_from ms None times at each = each
onto_from ms (Some time) times at each = All-cons (λ (one : ℕ). ms ≤ one) time times (omega (arith, at)) each

lines_from : (ms : ℕ) (stop : Option Stop) (event : Event) (events : List Event) → IsAt ms (event_time event) → AllFrom ms (filter_map event_time events) → AllFrom ms (filter_map event_time (onto_lines stop event events))
lines_from ms None event events at each = onto_from ms (event_time event) (filter_map event_time events) at each
lines_from ms (Some stop) event events at each = each

-- each line of a book is no earlier than the time before it
times_from : (before : ℕ) (book : List Entry) → is_timed before book ≡ true → AllFrom before (times_in book)
times_from before [] timed = All-nil (λ (time : ℕ). before ≤ time)
times_from before (entry ∷ book) timed =
    let parts = later before entry book timed in
    from_lower before entry.ms (times_in (entry ∷ book)) parts.0
    (lines_from entry.ms entry.stop (line_at entry) (lines_in book) (time_is entry.ms entry.call.event) (times_from entry.ms book parts.1))

rises-cons : (x : ℕ) (xs : List ℕ) → AllFrom x xs → IsNonDecreasing xs → IsNonDecreasing (x ∷ xs)
rises-cons x xs each rest zero zero d le lt = omega arith
rises-cons x xs each rest zero (suc j) d le lt = each j d (omega arith)
rises-cons x xs each rest (suc i) (suc j) d le lt = rest i j d (omega arith) (omega arith)
rises-cons x xs each rest (suc i) zero d le lt = absurd (omega arith)

onto_rise : (ms : ℕ) (time : Option ℕ) (times : List ℕ) → IsAt ms time → AllFrom ms times → IsNonDecreasing times → IsNonDecreasing (cons_option time times)
onto_rise ms None times at each rise = rise
onto_rise ms (Some time) times at each rise = rises-cons time times (subst (λ (low : ℕ). AllFrom low times) (sym at) each) rise

lines_rise : (ms : ℕ) (stop : Option Stop) (event : Event) (events : List Event) → IsAt ms (event_time event) → AllFrom ms (filter_map event_time events) → IsNonDecreasing (filter_map event_time events)
    → IsNonDecreasing (filter_map event_time (onto_lines stop event events))
lines_rise ms None event events at each rise = onto_rise ms (event_time event) (filter_map event_time events) at each rise
lines_rise ms (Some stop) event events at each rise = rise

-- THEY DO NOT FALL.
pub times_rise : (before : ℕ) (book : List Entry) → is_timed before book ≡ true → IsNonDecreasing (times_in book)
times_rise before [] timed = λ i j d le lt. absurd (omega arith)
times_rise before (entry ∷ book) timed =
    let parts = later before entry book timed in
    lines_rise entry.ms entry.stop (line_at entry) (lines_in book) (time_is entry.ms entry.call.event) (times_from entry.ms book parts.1) (times_rise entry.ms book parts.1)

-- What a recording is read as is known or not, and in one way only.
pub readings_are_a_set : IsSet (Result (List Event) LineFault)
readings_are_a_set = hlevel codes
