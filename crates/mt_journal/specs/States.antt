-- What a contract sees of a journal.
use Rattle.std.specs.Prelude.{Bool}
use Rattle.mt_journal.specs.declared.position.Position.{Position}

-- its disk, where the next record goes, and whether it has failed
pub record JournalState (D : Type 0) : Type 0 where
  pub disk : D
  pub place : Position
  pub failed : Bool
