-- Where the fabric with an index stands in the table, and what follows for what is found and changed there.
use Rattle.std.specs.Prelude.{◌≡◌, ℕ, ◌<◌, true, false, List, length, get_or, slice_set, find, remove, Option, Some, None}
use Rattle.mt_model.specs.declared.tables.fabric.Fabric.{Fabric}
use Rattle.mt_fabrics.specs.Table.{changed, has_index, is_used, removed}

-- The fabric with this index stands at this place.
pub record IsAt (index : ℕ) (fabrics : List Fabric) (place : ℕ) : Type 0 where
  pub within : place < length fabrics
  pub used : is_used index fabrics ≡ true
  pub found : (d : Fabric) → find (has_index index) fabrics ≡ Some (get_or fabrics place d)
  pub changes : (change : Fabric → Fabric) (d : Fabric) → slice_set fabrics place (change (get_or fabrics place d)) ≡ changed index change fabrics
  pub removes : remove fabrics place ≡ removed index fabrics

-- It stands there, or no fabric has the index.
abbrev pub IsPlace : ℕ → List Fabric → Option ℕ → Type 0
IsPlace index fabrics (Some place) = IsAt index fabrics place
IsPlace index fabrics None = is_used index fabrics ≡ false
