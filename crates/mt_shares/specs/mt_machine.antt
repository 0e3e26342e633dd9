-- What this crate passes on of mt_machine to those above it.
pub use Rattle.mt_worker.specs.mt_machine.Environment
