-- The entries of a book, their times, the stop that ends it, and the recording of its lines.
use Rattle.std.specs.Prelude.{ℕ, ◌==◌, ◌||◌, nat_le, nat_lt, Bool, true, false, cond, List, [], ◌∷◌, ◌++◌, Option, Some, None, All, length, max, unwrap_or}
use Rattle.std.specs.List.{list_all}
use Rattle.mt_files.specs.Event.{at_time}
use Rattle.mt_files.specs.Form.{HasForm}
use Rattle.mt_files.specs.Recording.{recording_text}
use Rattle.mt_model.specs.declared.limits.TheConstants.{LAST_TIME, RECORDING_BYTES, RECORDING_LINES}
use Rattle.mt_model.specs.declared.texts.recording.Event.{Event}
use Rattle.mt_model.specs.texts.Events.{event_time}
use Rattle.mt_shared.specs.declared.entry.Call.{Call}
use Rattle.mt_shared.specs.declared.entry.Entry.{Entry}
use Rattle.mt_shared.specs.declared.entry.Stop.{Stop}

-- the time that a caller told
abbrev pub asked : Call → ℕ
asked call = unwrap_or (event_time call.event) 0

-- a call that was done at this time
abbrev pub done : Call → ℕ → Entry
done call ms = record { call = call; ms = ms; stop = None }

-- one whose commit failed
abbrev pub failed : Call → ℕ → Stop → Entry
failed call ms stop = record { call = call; ms = ms; stop = Some stop }

-- The stop of a book: the first one that an entry has.

abbrev pub first_of : Option Stop → Option Stop → Option Stop
first_of None later = later
first_of (Some stop) later = Some stop

abbrev pub stop_in : List Entry → Option Stop
stop_in [] = None
stop_in (entry ∷ entries) = first_of entry.stop (stop_in entries)

-- TIMES.

-- the time of the last entry, this one where there is none
abbrev pub last_time : ℕ → List Entry → ℕ
last_time before [] = before
last_time before (entry ∷ entries) = last_time entry.ms entries

-- the time at which a call is done behind a book
abbrev pub time_for : List Entry → Call → ℕ
time_for book call = max (asked call) (last_time 0 book)

-- Each entry has the later of the time that was told and that of the entry before it.
abbrev pub is_timed : ℕ → List Entry → Bool
is_timed before [] = true
is_timed before (entry ∷ entries) = cond (entry.ms == max (asked entry.call) before) (is_timed entry.ms entries) false

-- Each entry was made at a time that a recording can have.
abbrev pub are_in_time : List Entry → Bool
are_in_time book = list_all (λ (entry : Entry). nat_le entry.ms LAST_TIME) book

-- THE RECORDING. An entry is the line that was asked, at the time at which it was done. A stop is no line.

abbrev pub onto_lines : Option Stop → Event → List Event → List Event
onto_lines None event events = event ∷ events
onto_lines (Some stop) event events = events

abbrev pub lines_in : List Entry → List Event
lines_in [] = []
lines_in (entry ∷ entries) = onto_lines entry.stop (at_time entry.ms entry.call.event) (lines_in entries)

-- Each call is one that a line can tell.
abbrev pub AreFormed : List Entry → Type 0
AreFormed book = All (λ (entry : Entry). HasForm entry.call.event) book

-- how many bytes it has
abbrev pub record_size : List Entry → ℕ
record_size book = length (recording_text (lines_in book))

-- It has as many lines as a recording may have, or would have too many bytes with this call.
abbrev pub is_full : List Entry → Call → Bool
is_full book call = nat_le RECORDING_LINES (length (lines_in book)) || nat_lt RECORDING_BYTES (record_size (book ++ done call (time_for book call) ∷ []))
