-- What can be recorded, one event after the other.
use Rattle.std.proofs.Common.{◌≡◌, ◌∙◌, refl, ap, ℕ, ◌+◌, ◌*◌, ◌^◌, ◌≤◌, ◌&&◌, nat_le, nat_lt, Bool, true, false, List, [], ◌∷◌, Option, Some, None, length, arith, if◌then◌else◌}
use Rattle.std.specs.List.{list_all}
use Rattle.std.proofs.lemmas.Bool.{and_from, and_parts, le-leb, leb-true}
use Rattle.mt_tlv.specs.declared.value.Value.{Value}
use Rattle.mt_model.specs.declared.node.action.NodeStep.{NodeStep}
use Rattle.mt_model.specs.declared.node.action.NodeStep.TheVariants.{SetRow, SetEntries, PutNetwork, RemoveNetwork, ConnectNetwork, MoveNetwork, Arm, Renew, Expire, Complete, AddRoot, Csr, AddFabric, UpdateFabric, RemoveFabric, Label, Emit}
use Rattle.mt_model.specs.declared.rows.place.Place.{Place}
use Rattle.mt_events.specs.declared.numbers.Numbers.{Numbers}
use Rattle.mt_runs.specs.mt_ledger.History.{History, begun_at, recorded, recorded_all, without_left}
use Rattle.mt_interactions.specs.Recording.{StartsMayRecord, is_of_a_fabric, last_ceiling, may_record, numbers_after, numbers_behind}

pub of_a_fabric : (place : Place) (priority fabric : ℕ) (value : Value) → is_of_a_fabric (Emit place priority fabric value) ≡ true → fabric ≤ 16
of_a_fabric place priority fabric value is = leb-true fabric 16 is

module _ (told : List NodeStep) (h : History) (may : may_record told h ≡ true) where
  low : nat_le h.numbers.ceiling last_ceiling ≡ true
  low = (and_parts (nat_le h.numbers.ceiling last_ceiling) (nat_le (length told) (2 ^ 50) && list_all is_of_a_fabric told) may).0

  few : (nat_le (length told) (2 ^ 50) && list_all is_of_a_fabric told) ≡ true
  few = (and_parts (nat_le h.numbers.ceiling last_ceiling) (nat_le (length told) (2 ^ 50) && list_all is_of_a_fabric told) may).1

  pub are_of_fabrics : list_all is_of_a_fabric told ≡ true
  are_of_fabrics = (and_parts (nat_le (length told) (2 ^ 50)) (list_all is_of_a_fabric told) few).1

  pub have_numbers : h.numbers.ceiling + 1024 * length told ≤ 2 ^ 62
  have_numbers =
      let most : length told ≤ 2 ^ 50 = leb-true (length told) (2 ^ 50) (and_parts (nat_le (length told) (2 ^ 50)) (list_all is_of_a_fabric told) few).0 in
      omega (arith, most, leb-true h.numbers.ceiling last_ceiling low)

-- Behind a start there is room.

started : (ceiling : ℕ) → ceiling ≤ 2 ^ 61 → (below : Bool) → (if below then ceiling + 1024 else ceiling + 1024 + 1024) ≤ 2 ^ 61 + 2 ^ 60
started ceiling low true = omega (arith, low)
started ceiling low false = omega (arith, low)

pub starts_may_record : StartsMayRecord
starts_may_record ceiling told low few fabrics =
    and_from _ _ (le-leb (begun_at ceiling).numbers.ceiling last_ceiling (started ceiling low (nat_lt ceiling (ceiling + 1024)))) (and_from _ _ (le-leb (length told) (2 ^ 50) few) fabrics)

-- The numbers behind what is told, whatever is remembered.

numbers_of : (ms : ℕ) (step : NodeStep) (h : History) → (recorded ms step h).numbers ≡ numbers_behind step h.numbers
numbers_of ms (SetRow a b c) h = refl
numbers_of ms (SetEntries a b) h = refl
numbers_of ms (PutNetwork a b) h = refl
numbers_of ms (RemoveNetwork a) h = refl
numbers_of ms (ConnectNetwork a) h = refl
numbers_of ms (MoveNetwork a b) h = refl
numbers_of ms (Arm a b) h = refl
numbers_of ms (Renew a) h = refl
numbers_of ms Expire h = refl
numbers_of ms Complete h = refl
numbers_of ms (AddRoot a) h = refl
numbers_of ms (Csr a b) h = refl
numbers_of ms (AddFabric a) h = refl
numbers_of ms (UpdateFabric a b) h = refl
numbers_of ms (RemoveFabric a) h = refl
numbers_of ms (Label a b) h = refl
numbers_of ms (Emit a b c d) h = refl

pub numbers_told : (ms : ℕ) (told : List NodeStep) (h : History) → (recorded_all ms told h).numbers ≡ numbers_after told h.numbers
numbers_told ms [] h = refl
numbers_told ms (step ∷ steps) h = numbers_told ms steps (recorded ms step h) ∙ ap (numbers_after steps) (numbers_of ms step h)

-- what is forgotten takes none away
pub numbers_left : (gone : Option ℕ) (h : History) → (without_left gone h).numbers ≡ h.numbers
numbers_left None h = refl
numbers_left (Some fabric) h = refl

-- and how far their ceiling rises

raised_by : (ceiling : ℕ) (below : Bool) → (if below then ceiling else ceiling + 1024) ≤ ceiling + 1024
raised_by ceiling true = omega arith
raised_by ceiling false = omega arith

one_rises : (step : NodeStep) (numbers : Numbers) → (numbers_behind step numbers).ceiling ≤ numbers.ceiling + 1024
one_rises (SetRow a b c) numbers = omega arith
one_rises (SetEntries a b) numbers = omega arith
one_rises (PutNetwork a b) numbers = omega arith
one_rises (RemoveNetwork a) numbers = omega arith
one_rises (ConnectNetwork a) numbers = omega arith
one_rises (MoveNetwork a b) numbers = omega arith
one_rises (Arm a b) numbers = omega arith
one_rises (Renew a) numbers = omega arith
one_rises Expire numbers = omega arith
one_rises Complete numbers = omega arith
one_rises (AddRoot a) numbers = omega arith
one_rises (Csr a b) numbers = omega arith
one_rises (AddFabric a) numbers = omega arith
one_rises (UpdateFabric a b) numbers = omega arith
one_rises (RemoveFabric a) numbers = omega arith
one_rises (Label a b) numbers = omega arith
one_rises (Emit a b c d) numbers = raised_by numbers.ceiling (nat_lt numbers.next numbers.ceiling)

all_rise : (told : List NodeStep) (numbers : Numbers) → (numbers_after told numbers).ceiling ≤ numbers.ceiling + 1024 * length told
all_rise [] numbers = omega arith
all_rise (step ∷ steps) numbers = omega (arith, all_rise steps (numbers_behind step numbers), one_rises step numbers)

-- where all that is told may be recorded, the ceiling behind it is one that there may be
pub ceiling_fits : (ms : ℕ) (told : List NodeStep) (gone : Option ℕ) (h : History) → may_record told h ≡ true → (recorded_all ms told (without_left gone h)).numbers.ceiling ≤ 2 ^ 62
ceiling_fits ms told gone h may =
    let same : (recorded_all ms told (without_left gone h)).numbers.ceiling ≡ (numbers_after told h.numbers).ceiling =
    ap (λ (n : Numbers). n.ceiling) (numbers_told ms told (without_left gone h) ∙ ap (numbers_after told) (numbers_left gone h)) in
    omega (arith, same, all_rise told h.numbers, have_numbers told h may)
