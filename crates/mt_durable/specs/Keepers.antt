-- What a contract sees of the keeper in memory.
use Rattle.std.specs.Prelude.{ℕ, Bool, true, false, List}
use Rattle.mt_durable.specs.declared.durable.Entry.{Entry}

-- its map, the numbers of the calls that are to fail, from 1, how many calls and faults there were, and whether it has failed
pub record ListKeeperState : Type 0 where
  pub map : List Entry
  pub fail : List ℕ
  pub calls : ℕ
  pub faults : ℕ
  pub failed : Bool

-- each map may stand
abbrev pub any_map : List Entry → Bool
any_map map = true

abbrev pub new_keeper : List Entry → List ℕ → ListKeeperState
new_keeper map fail = record { map = map; fail = fail; calls = 0; faults = 0; failed = false }
