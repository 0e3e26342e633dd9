-- What a comparison tells is what the marks say.
use Rattle.std.specs.Prelude.{◌≡◌, ◌↔◌, ℕ, List, [], ◌∷◌, Some, None, Ok, codes}
use Rattle.mt_config.specs.Configuration.{IsConfiguration}
use Rattle.mt_files.specs.Recording.{recording_of}
use Rattle.mt_model.specs.declared.texts.config.Config.{Config}
use Rattle.mt_model.specs.declared.texts.recording.Event.{Event}
use Rattle.mt_model.specs.texts.Contents.{contents_of}
use Rattle.mt_compare.specs.mt_runs.Marks.{marks}
use Rattle.mt_compare.specs.mt_marks.Difference.{Difference}
use Rattle.mt_compare.specs.mt_marks.Laws.{IsFirst}
use Rattle.mt_compare.specs.mt_marks.Marked.{marked}
use Rattle.mt_compare.specs.Text.{comparison_lines}
use Rattle.mt_endings.specs.Endings.{Ending, Recordings, of_files}
use Rattle.mt_endings.specs.declared.fault.Fault.TheVariants.{Differ}
use Rattle.mt_top.specs.Asked.{compared}
use Rattle.mt_top.specs.Begun.{Begun, begun_with}

-- Where the marks of the fabric are not equal: its first difference is told, in three lines.
abbrev pub TellsFirst : ℕ → Begun → List Event → List Event → Ending → Type 0
TellsFirst fabric begun first second ending =
    (d : Difference) × IsFirst (marked begun.given begun.sessions fabric begun.going first) (marked begun.given begun.sessions fabric begun.going second) d
    × (ending.lines ≡ comparison_lines (Some d)) × (ending.fault ≡ Some Differ)

-- `alike` is all that is told exactly where the marks of the fabric are equal; else the first that differs is.
pub record IsCompared (fabric : ℕ) (begun : Begun) (first second : List Event) (ending : Ending) : Type 0 where
  pub alike : (ending.fault ≡ None) ↔ (marks begun.given begun.sessions fabric begun.going first ≡ marks begun.given begun.sessions fabric begun.going second)
  pub told : ending.fault ≡ None → ending.lines ≡ codes "alike" ∷ []
  pub first_told : ¬ (marks begun.given begun.sessions fabric begun.going first ≡ marks begun.given begun.sessions fabric begun.going second) → TellsFirst fabric begun first second ending

-- So it is with every configuration and every two recordings.
abbrev pub ComparisonsAreExact : Type 0
ComparisonsAreExact = (fabric : ℕ) (config : Config) (bytes : List ℕ) (recordings : Recordings) (first second : List Event)
    → IsConfiguration bytes config → recording_of recordings.first ≡ Ok first → recording_of recordings.second ≡ Ok second
    → IsCompared fabric (begun_with (contents_of config)) first second (of_files (compared fabric) bytes recordings)
