-- What this crate passes on of mt_machine to those above it.
pub use Rattle.mt_interactions.specs.mt_machine.Environment
pub use Rattle.mt_interactions.specs.mt_machine.Isolation
pub use Rattle.mt_interactions.specs.mt_machine.Laws
pub use Rattle.mt_interactions.specs.mt_machine.Lines
pub use Rattle.mt_interactions.specs.mt_machine.Opened
pub use Rattle.mt_interactions.specs.mt_machine.Rollback
pub use Rattle.mt_interactions.specs.mt_machine.State
