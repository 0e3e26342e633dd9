-- What this crate passes on of mt_keeping to those above it.
pub use Rattle.mt_shared.specs.mt_keeping.Recovered
pub use Rattle.mt_shared.specs.mt_keeping.States
