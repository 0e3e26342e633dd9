-- What this crate passes on of mt_machine to those above it.
pub use Rattle.mt_whole.specs.mt_machine.Environment
pub use Rattle.mt_whole.specs.mt_machine.Isolation
pub use Rattle.mt_whole.specs.mt_machine.State
