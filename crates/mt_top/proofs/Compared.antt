-- What a comparison tells is what the marks say.
use Rattle.std.proofs.Common.{◌≡◌, ℕ, List, Option, Some, None, Ok, refl, sym, ap, ap₂, subst, ◌∙◌}
use Rattle.mt_config.specs.Configuration.{IsConfiguration}
use Rattle.mt_files.specs.Recording.{recording_of}
use Rattle.mt_model.specs.declared.texts.config.Config.{Config}
use Rattle.mt_model.specs.declared.texts.recording.Event.{Event}
use Rattle.mt_model.specs.texts.Contents.{Contents, contents_of}
use Rattle.mt_compare.specs.mt_marks.Difference.{Difference, difference}
use Rattle.mt_compare.specs.mt_marks.Laws.{DifferencesAreFirst, EqualMarksDoNotDiffer}
use Rattle.mt_compare.specs.mt_marks.Marked.{marked}
use Rattle.mt_endings.specs.Endings.{Recordings, configured, of_files, recorded_both, with_recordings}
use Rattle.mt_top.specs.Asked.{compared, compared_by, told_difference}
use Rattle.mt_top.specs.Begun.{Begun, begun_with}
use Rattle.mt_top.specs.Compared.{IsCompared}

module _ (alike : EqualMarksDoNotDiffer) (firsts : DifferencesAreFirst) where
  by_found : (fabric : ℕ) (begun : Begun) (first second : List Event) (found : Option Difference) → difference begun.given begun.sessions fabric begun.going first second ≡ found
      → IsCompared fabric begun first second (with_recordings (told_difference found))
  by_found fabric begun first second None is =
      let same = (alike begun.given begun.sessions fabric begun.going first second).0 is in record {
        alike = (λ none. same, λ equal. refl);
        told = λ none. refl;
        first_told = λ other. absurd (other same);
      }
  by_found fabric begun first second (Some d) is = record {
    alike = (λ none. absurd (cc), λ equal. absurd (let clash = sym is ∙ (alike begun.given begun.sessions fabric begun.going first second).1 equal in cc));
    told = λ none. absurd (cc);
    first_told = λ other. (d, firsts (marked begun.given begun.sessions fabric begun.going first) (marked begun.given begun.sessions fabric begun.going second) d is, refl, refl);
  }

  pub compared_exactly : (fabric : ℕ) (config : Config) (bytes : List ℕ) (recordings : Recordings) (first second : List Event)
      → IsConfiguration bytes config → recording_of recordings.first ≡ Ok first → recording_of recordings.second ≡ Ok second
      → IsCompared fabric (begun_with (contents_of config)) first second (of_files (compared fabric) bytes recordings)
  compared_exactly fabric config bytes recordings first second is reads reads_too =
      let begun = begun_with (contents_of config) in
      let found = difference begun.given begun.sessions fabric begun.going first second in
      let ending : of_files (compared fabric) bytes recordings ≡ with_recordings (told_difference found) =
      ap (configured (λ (contents : Contents). compared fabric contents recordings)) is
      ∙ ap₂ (recorded_both (compared_by fabric begun)) reads reads_too in
      subst (IsCompared fabric begun first second) (sym ending) (by_found fabric begun first second found refl)
