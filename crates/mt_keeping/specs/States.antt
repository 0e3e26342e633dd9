-- What a contract sees of a store of states.
use Rattle.std.specs.Prelude.{List, Option, unwrap_or}
use Rattle.mt_durable.specs.declared.durable.Entry.{Entry}
use Rattle.mt_store.specs.States.{StoreState}

-- The store of the map that the journal has; and the map behind the rollback, where nothing was committed since it was recovered.
pub record KeepingState (D : Type 0) : Type 0 where
  pub store : StoreState D
  pub rolled : Option (List Entry)

-- the map that is told, with which the node goes on
abbrev pub told_map : {D : Type 0} → KeepingState D → List Entry
told_map state = unwrap_or state.rolled state.store.image
