-- What a contract sees of a store.
use Rattle.std.specs.Prelude.{List}
use Rattle.mt_durable.specs.declared.durable.Entry.{Entry}
use Rattle.mt_journal.specs.States.{JournalState}

-- its journal, and the map that it keeps
pub record StoreState (D : Type 0) : Type 0 where
  pub journal : JournalState D
  pub image : List Entry
