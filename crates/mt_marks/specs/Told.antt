-- What the code remembers.
use Rattle.std.specs.Prelude.{ℕ, ◌==◌, Bool, List, map}
use Rattle.mt_marks.specs.Noted.{shown_in}
use Rattle.mt_marks.specs.Remembered.{ToldTalk}
use Rattle.mt_marks.specs.declared.told.Told.{Told}

-- what is shown of a session, with its row
abbrev pub talk_in : Told → ToldTalk
talk_in t = record { row = t.row; shown = map shown_in t.shown.items }

abbrev pub talks_in : List Told → List ToldTalk
talks_in ts = map talk_in ts

-- that of the session of this id
abbrev pub is_told_of : ℕ → Told → Bool
is_told_of id t = t.row.session == id
