-- The parts of the state from which rows are computed, and arrays of numbers.
use Rattle.std.specs.Prelude.{ℕ, List}
use Rattle.mt_tlv.specs.Tree.{uint}
use Rattle.mt_tlv.specs.declared.value.Value.{Value}
use Rattle.mt_model.specs.Trees.{array_of}
use Rattle.mt_model.specs.declared.tables.access.AclEntry.{AclEntry}
use Rattle.mt_model.specs.declared.tables.fabric.Fabric.{Fabric}
use Rattle.mt_model.specs.declared.tables.network.Network.{Network}

-- the parts of the state from which rows are computed
pub record Parts : Type 0 where
  pub entries : List AclEntry
  pub fabrics : List Fabric
  pub roots : List (List ℕ)
  pub networks : List Network

-- an array of numbers
abbrev pub numbers : List ℕ → Value
numbers ns = array_of uint ns
