-- What a refused deed leaves of a keeper.
use Rattle.std.specs.Prelude.{◌≡◌, ◌⊎◌, ℕ, Bool, true, false, List, Option, Some}
use Rattle.mt_durable.specs.declared.durable.Entry as kept
use Rattle.mt_outside.specs.Stream.{one_more}
use Rattle.mt_shared.specs.declared.acting.Refusal.{Refusal}
use Rattle.mt_shared.specs.declared.acting.Refusal.TheVariants.{Memory, Faults}

-- Behind a commit that failed: the keeper does no more, the count of its faults rose from the first number to the second, it has the map that it
-- had or the next one, and what is found of it stands between the two.
pub record HasFailed (counted counts : ℕ) (is_failed : Bool) (faults : ℕ) (before now : Option (List kept.Entry)) (next : List kept.Entry) (Between : Type 0) : Type 0 where
  pub failed : is_failed ≡ true
  pub rose : counts ≡ one_more counted
  pub count : faults ≡ counts
  pub either : (now ≡ before) ⊎ (now ≡ Some next)
  pub between : Between

-- Where memory is wanting the keeper goes on and has the map that it had.
abbrev pub Leaves : Refusal → Bool → ℕ → Option (List kept.Entry) → Option (List kept.Entry) → List kept.Entry → Type 0 → Type 0
Leaves Memory is_failed faults before now next Between = (is_failed ≡ false) × (now ≡ before)
Leaves (Faults counted counts) is_failed faults before now next Between = HasFailed counted counts is_failed faults before now next Between
