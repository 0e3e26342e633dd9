-- A pass between two calls.
use Rattle.std.specs.Prelude.{◌≡◌, ◌≤◌, ◌<◌, ◌∷◌, nat_eq, List, [], None}
use Rattle.atomic_table.specs.Seated.{TableId}
use Rattle.mt_turn.specs.declared.rule.Notes.{Notes}
use Rattle.mt_turn.specs.Known.{Known}

module _ {E O : Type 0} where
  -- It waits for nothing. Inside, the slot is back, so that the pass holds none. What it was told it has compared.
  pub record IsResting (v : Notes E O) : Type 0 where
    pub queued : v.queued ≡ v.inside
    pub emptied : v.emptied ≡ v.inside
    pub inside : v.inside ≤ 1
    pub told : v.told ≡ []
    pub share : 0 < v.share
    pub found : v.inside ≡ 0 → v.found ≡ []

  -- a pass has one view, and it rests
  abbrev pub IsAtRest : List (Notes E O) → Type 0
  IsAtRest views = (v : Notes E O) × (views ≡ v ∷ []) × IsResting v

  -- what contracts see of the notes
  abbrev pub known_of : TableId → Notes E O → Known E O
  known_of lock v = record { lock = lock; inside = nat_eq v.inside 1; found = v.found; seen = v.seen; places = v.places; share = v.share; origin = v.origin }

  -- a pass with no view has nothing
  abbrev pub known : TableId → List (Notes E O) → Known E O
  known lock [] = record { lock = lock; inside = nat_eq 0 1; found = []; seen = []; places = []; share = 0; origin = None }
  known lock (v ∷ views) = known_of lock v
