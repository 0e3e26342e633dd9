-- The change that leads from the map of one image to that of another.
use Rattle.std.proofs.Common.{◌≡◌, ◌≤◌, ℕ, true, List, length, take, ap, sym, subst, ◌∙◌, arith}
use Rattle.std.proofs.lemmas.List.{length-take}
use Rattle.std.specs.Prelude.{Some}
use Rattle.mt_tlv.specs.Limits.{longest}
use Rattle.mt_durable.specs.Differences.{difference_bytes, differences}
use Rattle.mt_durable.specs.Images.{IsImage}
use Rattle.mt_durable.specs.Keeping.{IsChange}
use Rattle.mt_durable.specs.Maps.{have_values}
use Rattle.mt_durable.specs.Reading.{Says, change_at, said}
use Rattle.mt_durable.specs.Setting.{with_all}
use Rattle.mt_durable.specs.declared.durable.Entry.{Entry}
use Rattle.mt_store.proofs.Leads.{image_said, said_is}

-- These bytes are a change that leads from the one map to the other.
pub record LeadsOver (change : List ℕ) (from to : List Entry) : Type 0 where
  pub is : IsChange change
  pub leads : with_all (said change) from ≡ to

module _ (read : (entries : List Entry) (bytes : List ℕ) → Says entries bytes → change_at bytes ≡ Some entries)
    (lead : (a b : List ℕ) → IsImage a → IsImage b → with_all (differences (said a) (said b)) (said a) ≡ said b)
    (say : (a b : List ℕ) → IsImage a → IsImage b → length (difference_bytes a b) ≤ longest → Says (differences (said a) (said b)) (difference_bytes a b)) where
  pub leads_over : (a b change : List ℕ) (from to : List Entry) → Says from a → have_values from ≡ true → Says to b → have_values to ≡ true
      → change ≡ difference_bytes a b → length (difference_bytes a b) ≤ 65535 → LeadsOver change from to
  leads_over a b change from to says_from whole_from says_to whole_to is short =
      let one = image_said read from a says_from whole_from in
      let other = image_said read to b says_to whole_to in
      let says : Says (differences (said a) (said b)) change = subst (λ (bytes : List ℕ). Says (differences (said a) (said b)) bytes) (sym is) (say a b one other short) in
      record {
        is = (differences (said a) (said b), says);
        leads =
            ap (λ (entries : List Entry). with_all entries from) (said_is read (differences (said a) (said b)) change says)
            ∙ ap (λ (map : List Entry). with_all (differences (said a) (said b)) map) (sym (said_is read from a says_from))
            ∙ lead a b one other
            ∙ said_is read to b says_to;
      }

  -- so it is with what was written in front of some room, which is no longer than an element may be
  pub written_leads : (a b old new : List ℕ) (count : ℕ) (from to : List Entry) → Says from a → have_values from ≡ true → Says to b → have_values to ≡ true
      → take count new ≡ difference_bytes a b → length new ≡ length old → length old ≤ 65535 → LeadsOver (take count new) from to
  written_leads a b old new count from to says_from whole_from says_to whole_to is size fits =
      let short : length (difference_bytes a b) ≤ 65535 = omega (arith, length-take count new, ap length is, size, fits) in
      leads_over a b (take count new) from to says_from whole_from says_to whole_to is short
