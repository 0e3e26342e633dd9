-- What a contract sees of the intake and the outlet in memory.
use Rattle.std.specs.Prelude.{ℕ, List}
use Rattle.mt_outside.specs.declared.network.Arrival.{Arrival}
use Rattle.mt_outside.specs.declared.network.Parcel.{Parcel}

-- an intake: the arrivals that it still holds, the latest time that it told, the numbers of the calls that are to fail, from 1, and how many calls and faults there were
pub record IntakeState : Type 0 where
  pub held : List Arrival
  pub clock : ℕ
  pub fail : List ℕ
  pub calls : ℕ
  pub faults : ℕ

-- an outlet: the parcels that it was given, and the same of its calls
pub record OutletState : Type 0 where
  pub given : List Parcel
  pub fail : List ℕ
  pub calls : ℕ
  pub faults : ℕ
