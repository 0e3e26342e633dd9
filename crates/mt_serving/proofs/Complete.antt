-- Where few answers came the record was never full.
use Rattle.std.proofs.Common.{◌≡◌, ◌∙◌, refl, sym, ap, inl, inr, ℕ, ◌+◌, ◌*◌, ◌≤◌, Bool, true, false, cond, List, [], ◌∷◌, ◌++◌, length, length-append, Option, Some, None, arith}
use Rattle.std.specs.Prelude.{All, filter, nat_le, nat_lt, unwrap_or}
use Rattle.std.specs.List.{sum_by}
use Rattle.std.proofs.lemmas.Bool.{leb-true, ltb-true, or_cases}
use Rattle.std.proofs.lemmas.List.Elements.{All-cons, All-head, All-nil, All-tail, All-weaker}
use Rattle.std.proofs.lemmas.List.Sums.{sum_by-append, sum_by-cons, sum_by_push}
use Rattle.mt_crew.specs.mt_served.Few.{HasFewLines, IsServedLine}
use Rattle.mt_crew.specs.mt_worker.Few.{is_datagram}
use Rattle.mt_files.specs.Event.{at_time, line_size}
use Rattle.mt_files.specs.Form.{HasForm, IsEvent}
use Rattle.mt_model.specs.declared.limits.TheConstants.{LAST_TIME, RECORDING_BYTES, RECORDING_LINES}
use Rattle.mt_model.specs.declared.texts.recording.Event.{Event}
use Rattle.mt_model.specs.declared.texts.recording.Event.TheVariants as events
use Rattle.mt_model.specs.texts.Events.{event_time}
use Rattle.mt_outside.specs.declared.network.Arrival.{Arrival}
use Rattle.mt_sizes.specs.Laws.{LinesAreShort, most_bytes}
use Rattle.mt_starting.specs.mt_shared.Book.{are_in_time, asked, done, is_full, last_time, lines_in, onto_lines, record_size, time_for}
use Rattle.mt_starting.specs.mt_shared.Call.{Call}
use Rattle.mt_starting.specs.mt_shared.Entry.{Entry}
use Rattle.mt_starting.specs.mt_shared.Stop.{Stop}
use Rattle.mt_serving.proofs.Readings.{IsLine, each_in_time}

-- THE LINES of two books one behind the other.

onto-append : (stop : Option Stop) (event : Event) (events more : List Event) → onto_lines stop event (events ++ more) ≡ onto_lines stop event events ++ more
onto-append None event events more = refl
onto-append (Some stop) event events more = refl

lines_in-append : (book more : List Entry) → lines_in (book ++ more) ≡ lines_in book ++ lines_in more
lines_in-append [] more = refl
lines_in-append (entry ∷ book) more =
    ap (onto_lines entry.stop (at_time entry.ms entry.call.event)) (lines_in-append book more)
    ∙ onto-append entry.stop (at_time entry.ms entry.call.event) (lines_in book) (lines_in more)

-- HOW LONG lines are that are no requests of plain actors.

abbrev of_datagram : Bool → ℕ
of_datagram is = cond is 1 0

-- a datagram's line has at most 2,620 bytes, and every other 40
abbrev IsLight : Event → Type 0
IsLight event = most_bytes event ≤ 40 + 2580 * of_datagram (is_datagram event)

served_light : (event : Event) → IsServedLine event → IsLight event
served_light (events.Ask ms fabric node cats opcode payload) is = absurd is
served_light (events.Datagram ms peer bytes) is = omega arith
served_light (events.Tick ms) is = omega arith
served_light (events.Report ms fabric subscription) is = omega arith
served_light (events.Resend ms session) is = omega arith
served_light (events.Stop calls fate) is = absurd is

counted : (is : Bool) (event : Event) (events : List Event) → length (cond is (event ∷ events) events) ≡ of_datagram is + length events
counted true event events = omega arith
counted false event events = omega arith

lines_are_light : LinesAreShort → (lines : List Event) → All IsLine lines → All IsLight lines → sum_by line_size lines ≤ 40 * length lines + 2580 * length (filter is_datagram lines)
lines_are_light law [] told light = omega arith
lines_are_light law (event ∷ lines) told light =
    let is = All-head IsLine event lines told in
    let size = law.short event is.0 is.1 in
    let most = All-head IsLight event lines light in
    let rest = lines_are_light law lines (All-tail IsLine event lines told) (All-tail IsLight event lines light) in
    let all = sum_by-cons line_size event lines in
    let datagrams = counted (is_datagram event) event (filter is_datagram lines) in
    omega (arith, size, most, rest, all, datagrams)

most_of_all : (event : Event) → most_bytes event ≤ 2640
most_of_all (events.Ask ms fabric node cats opcode payload) = omega arith
most_of_all (events.Datagram ms peer bytes) = omega arith
most_of_all (events.Tick ms) = omega arith
most_of_all (events.Report ms fabric subscription) = omega arith
most_of_all (events.Resend ms session) = omega arith
most_of_all (events.Stop calls fate) = omega arith

-- THE TIME of a call that was refused is one that a recording can have.

told_in_time : (event : Event) → HasForm event → unwrap_or (event_time event) 0 ≤ LAST_TIME
told_in_time (events.Ask ms fabric node cats opcode payload) form = form.time
told_in_time (events.Datagram ms peer bytes) form = form.0
told_in_time (events.Tick ms) form = form
told_in_time (events.Report ms fabric subscription) form = form.0
told_in_time (events.Resend ms session) form = form.0
told_in_time (events.Stop calls fate) form = omega arith

abbrev IsInTime : Entry → Type 0
IsInTime entry = entry.ms ≤ LAST_TIME

front_in_time : (seen rest : List Entry) → All IsInTime (seen ++ rest) → All IsInTime seen
front_in_time [] rest each = All-nil IsInTime
front_in_time (entry ∷ seen) rest each = All-cons IsInTime entry seen (All-head IsInTime entry (seen ++ rest) each) (front_in_time seen rest (All-tail IsInTime entry (seen ++ rest) each))

last_in_time : (before : ℕ) (book : List Entry) → before ≤ LAST_TIME → All IsInTime book → last_time before book ≤ LAST_TIME
last_in_time before [] low each = low
last_in_time before (entry ∷ book) low each = last_in_time entry.ms book (All-head IsInTime entry book each) (All-tail IsInTime entry book each)

call_in_time : (seen rest : List Entry) (call : Call) → HasForm call.event → are_in_time (seen ++ rest) ≡ true → time_for seen call ≤ LAST_TIME
call_in_time seen rest call form in_time =
    let told : asked call ≤ LAST_TIME = told_in_time call.event form in
    let last : last_time 0 seen ≤ LAST_TIME = last_in_time 0 seen (omega arith) (front_in_time seen rest (each_in_time (seen ++ rest) in_time)) in
    omega (arith, told, last)

-- THE BOOK of few answers, of which this was seen and that was not.
module _ (law : LinesAreShort) (seen rest book : List Entry) (call : Call) (arrivals : List Arrival) (is : seen ++ rest ≡ book) (lines : HasFewLines book arrivals) (told : All IsLine (lines_in book)) where
  abbrev here : List Event
  here = lines_in seen

  parts : lines_in book ≡ here ++ lines_in rest
  parts = ap lines_in (sym is) ∙ lines_in-append seen rest

  -- the lines that were seen are some of all
  some_lines : length here ≤ length (lines_in book)
  some_lines = omega (arith, ap length parts ∙ length-append here (lines_in rest))

  some_bytes : sum_by line_size here ≤ sum_by line_size (lines_in book)
  some_bytes = omega (arith, ap (sum_by line_size) parts ∙ sum_by-append line_size here (lines_in rest))

  -- and the call would be one more
  with_call : (ms : ℕ) → record_size (seen ++ done call ms ∷ []) ≡ 16 + (sum_by line_size here + line_size (at_time ms call.event))
  with_call ms =
      law.whole (lines_in (seen ++ done call ms ∷ []))
      ∙ ap (λ (all : List Event). 16 + sum_by line_size all) (lines_in-append seen (done call ms ∷ []))
      ∙ ap (λ (size : ℕ). 16 + size) (sum_by_push line_size here (at_time ms call.event))

  -- SO IT WAS NOT FULL for that call.
  pub never_full : length arrivals ≤ 4000 → are_in_time book ≡ true → HasForm call.event → IsEvent call.event → is_full seen call ≡ true → ⊥
  never_full few in_time form typed full =
      let ms : ℕ = time_for seen call in
      let moved = law.moved ms call.event (call_in_time seen rest call form (ap are_in_time is ∙ in_time)) typed form in
      let last = law.short (at_time ms call.event) moved.0 moved.1 in
      let most = most_of_all (at_time ms call.event) in
      let all = lines.all in
      let datagrams = lines.datagrams in
      let bytes = lines_are_light law (lines_in book) told (All-weaker IsServedLine IsLight served_light (lines_in book) lines.kinds) in
      let size = with_call ms in
      elim (or_cases (nat_le RECORDING_LINES (length here)) (nat_lt RECORDING_BYTES (record_size (seen ++ done call ms ∷ []))) full) [
        | inl many ↦ let reached = leb-true RECORDING_LINES (length here) many in omega (arith, reached, some_lines, all, few)
        | inr long ↦ let over = ltb-true RECORDING_BYTES (record_size (seen ++ done call ms ∷ [])) long in omega (arith, over, size, last, most, bytes, some_bytes, all, datagrams, few)
      ]
