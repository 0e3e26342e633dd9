-- What a note adds to what is remembered.
use Rattle.std.specs.Prelude.{◌==◌, List, [], ◌∷◌, ◌++◌, Option, Some, None, map, if◌then◌else◌}
use Rattle.mt_session.specs.Opening.{Arrival}
use Rattle.mt_exchange.specs.Parts.{outgoing_in}
use Rattle.mt_exchange.specs.Shown.{Shown, again, closed, heard, sent, told}
use Rattle.mt_marks.specs.Remembered.{ToldTalk}
use Rattle.mt_marks.specs.declared.shown.Arrived.{Arrived}
use Rattle.mt_marks.specs.declared.shown.Note.{Note}
use Rattle.mt_marks.specs.declared.shown.Shown as code
use Rattle.mt_marks.specs.declared.shown.Shown.TheVariants as codes

-- the message that was let in
abbrev pub arrival_in : Arrived → Arrival
arrival_in a = record { counter = a.counter; header = a.header; payload = a.payload }

-- what is shown, as it is written
abbrev pub shown_in : code.Shown → Shown
shown_in (codes.Heard live arrival) = heard live (arrival_in arrival)
shown_in (codes.Sent outgoing now) = sent (outgoing_in outgoing) now
shown_in (codes.Told subscription outgoing now) = told subscription (outgoing_in outgoing) now
shown_in (codes.Again now) = again now
shown_in codes.Closed = closed

-- what is remembered of a session behind a note
abbrev pub noted_talk : Note → ToldTalk → ToldTalk
noted_talk note t = record t { shown = t.shown ++ map shown_in note.shown }

-- what is remembered of all of them behind it: of the session that it names more is shown
abbrev pub noted : Note → List ToldTalk → List ToldTalk
noted note [] = []
noted note (t ∷ talks) = if t.row.session == note.session then noted_talk note t ∷ talks else t ∷ noted note talks

-- and where there is no note, all stays
abbrev pub noted_if : Option Note → List ToldTalk → List ToldTalk
noted_if None talks = talks
noted_if (Some note) talks = noted note talks
