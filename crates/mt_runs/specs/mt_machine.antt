-- What this crate passes on of mt_machine to those above it.
pub use Rattle.mt_machine.specs.Environment
pub use Rattle.mt_machine.specs.Isolation
pub use Rattle.mt_machine.specs.State
