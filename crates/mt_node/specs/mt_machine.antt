-- What this crate passes on of mt_machine to those above it.
pub use Rattle.mt_machine.specs.Commands
pub use Rattle.mt_machine.specs.Effects
pub use Rattle.mt_machine.specs.Environment
pub use Rattle.mt_machine.specs.Isolation
pub use Rattle.mt_machine.specs.Laws
pub use Rattle.mt_machine.specs.Leaving
pub use Rattle.mt_machine.specs.Lines
pub use Rattle.mt_machine.specs.Observation
pub use Rattle.mt_machine.specs.Opened
pub use Rattle.mt_machine.specs.Rollback
pub use Rattle.mt_machine.specs.State
pub use Rattle.mt_machine.specs.Step
pub use Rattle.mt_machine.specs.Telling
