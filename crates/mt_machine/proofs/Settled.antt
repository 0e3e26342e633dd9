-- Where nothing differs, no version and no change number moves.
use Rattle.std.proofs.Common.{◌≡◌, ◌↔◌, not, true, false, List, [], ◌∷◌, refl, ap, ◌∙◌, filter, map}
use Rattle.mt_meta.specs.Places.{all_places}
use Rattle.mt_model.specs.rows.Same.{are_same_rows}
use Rattle.mt_model.specs.declared.node.state.NodeState.{NodeState}
use Rattle.mt_model.specs.declared.node.state.Version.{Version}
use Rattle.mt_model.specs.declared.rows.place.Place.{Place}
use Rattle.mt_model.specs.declared.rows.place.Row.{Row}
use Rattle.mt_machine.specs.Changes.{changed_at, differs, settled, version_after}
use Rattle.mt_machine.specs.State.{rows_of}

versions_stay : (versions : List Version) → map (version_after []) versions ≡ versions
versions_stay [] = refl
versions_stay (version ∷ versions) = ap (λ (rest : List Version). version ∷ rest) (versions_stay versions)

pub nowhere-same : (s : NodeState) → changed_at [] s s ≡ s
nowhere-same s = λ i. record s { versions = versions_stay s.versions i }

-- By the law of the model on rows that are told to be the same.
module _ (same : (rows others : List Row) → (are_same_rows rows others ≡ true) ↔ (rows ≡ others)) where
  never_differs : (s : NodeState) (place : Place) → differs s s place ≡ false
  never_differs s place = ap not ((same (rows_of s place) (rows_of s place)).1 refl)

  none_differs : (s : NodeState) (places : List Place) → filter (differs s s) places ≡ []
  none_differs s [] = refl
  none_differs s (place ∷ places) = rw (never_differs s place) (none_differs s places)

  pub settled-same : (s : NodeState) → settled s s ≡ s
  settled-same s =
      ap (λ (places : List Place). changed_at places s s) (none_differs s all_places) ∙ nowhere-same s
