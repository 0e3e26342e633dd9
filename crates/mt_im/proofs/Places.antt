-- The first of some fields that is missing.
use Rattle.std.proofs.Common.{◌≡◌, ℕ, ◌+◌, ◌<◌, List, Err, is_some, length, drop, get_or, refl, add-one, drop-cons, if◌then◌else◌}
use Rattle.mt_tlv.specs.Tree.{Elements}
use Rattle.mt_model.specs.Trees.{field_in}
use Rattle.mt_im.specs.declared.fault.ImFault.TheVariants.{Missing}
use Rattle.mt_im.specs.Reading.{require}

-- the first of the fields from here on that is missing
pub require_step : (ns : List ℕ) (es : Elements) (i : ℕ) → i < length ns
    → require (drop i ns) es ≡ (if is_some (field_in (get_or ns i 0) es) then require (drop (i + 1) ns) es else Err (Missing (get_or ns i 0)))
unfolding require
require_step ns es i h = rw (add-one, drop-cons ns i 0) refl
