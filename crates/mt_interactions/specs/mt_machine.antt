-- What this crate passes on of mt_machine to those above it.
pub use Rattle.mt_node.specs.mt_machine.Commands
pub use Rattle.mt_node.specs.mt_machine.Effects
pub use Rattle.mt_node.specs.mt_machine.Environment
pub use Rattle.mt_node.specs.mt_machine.Isolation
pub use Rattle.mt_node.specs.mt_machine.Laws
pub use Rattle.mt_node.specs.mt_machine.Leaving
pub use Rattle.mt_node.specs.mt_machine.Lines
pub use Rattle.mt_node.specs.mt_machine.Observation
pub use Rattle.mt_node.specs.mt_machine.Opened
pub use Rattle.mt_node.specs.mt_machine.Rollback
pub use Rattle.mt_node.specs.mt_machine.State
pub use Rattle.mt_node.specs.mt_machine.Step
