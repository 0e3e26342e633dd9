-- How it is told where two runs differ: in one line where they don't, in three where they do.
use Rattle.std.specs.Prelude.{ℕ, List, [], ◌∷◌, ◌++◌, Option, Some, None, codes}
use Rattle.std.specs.Fmt.{decimal}
use Rattle.mt_files.specs.Event.{event_line}
use Rattle.mt_model.specs.declared.texts.recording.Event.{Event}
use Rattle.mt_play.specs.mt_marks.Parts.{word_of}
use Rattle.mt_play.specs.mt_marks.Difference.{Difference}

-- the line at which a mark stands, or that there is none
abbrev pub line_at : Option Event → List ℕ
line_at None = codes "end"
line_at (Some event) = event_line event

abbrev pub head_line : Difference → List ℕ
head_line d = codes "differ " ++ (decimal d.number ++ (codes " " ++ word_of d.part))

-- the lines, without their ends
abbrev pub comparison_lines : Option Difference → List (List ℕ)
comparison_lines None = codes "alike" ∷ []
comparison_lines (Some d) = head_line d ∷ (codes "first " ++ line_at d.first) ∷ (codes "second " ++ line_at d.second) ∷ []
