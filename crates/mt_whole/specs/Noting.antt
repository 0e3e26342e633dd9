-- What a line adds to what is shown of a session.
use Rattle.std.specs.Prelude.{◌≡◌, ℕ, List, [], ◌∷◌, ◌++◌, Option, Some, None, map}
use Rattle.mt_exchange.specs.declared.telling.Outgoing.{Outgoing}
use Rattle.mt_interactions.specs.mt_runs.Whole.{SessionTalk}
use Rattle.mt_talk.specs.Talks.{Talk}
use Rattle.mt_marks.specs.Noted.{shown_in}
use Rattle.mt_marks.specs.declared.shown.Note.{Note}
use Rattle.mt_marks.specs.declared.shown.Shown.{Shown}
use Rattle.mt_marks.specs.declared.shown.Shown.TheVariants as codes

-- of this session, whose talk becomes this one, what is noted is shown; where nothing is, nothing more is shown
abbrev pub IsNoteOf : Option Note → SessionTalk → Talk → Type 0
IsNoteOf None t talk = talk.shown ≡ t.talk.shown
IsNoteOf (Some note) t talk = (note.session ≡ t.row.session) × (t.talk.shown ++ map shown_in note.shown ≡ talk.shown)

-- what is shown, where something is
abbrev pub listed : Option Shown → List Shown
listed None = []
listed (Some one) = one ∷ []

-- of a talk that becomes this one, this is shown
abbrev pub IsShownBehind : Option Shown → Talk → Talk → Type 0
IsShownBehind more t talk = t.shown ++ map shown_in (listed more) ≡ talk.shown

-- what is sent as an answer, where something is, and what is reported
abbrev pub sent_if : Option Outgoing → ℕ → Option Shown
sent_if None now = None
sent_if (Some outgoing) now = Some (codes.Sent outgoing now)

abbrev pub told_if : ℕ → Option Outgoing → ℕ → Option Shown
told_if subscription None now = None
told_if subscription (Some outgoing) now = Some (codes.Told subscription outgoing now)
