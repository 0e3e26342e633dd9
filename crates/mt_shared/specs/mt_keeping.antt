-- What this crate passes on of mt_keeping to those above it.
pub use Rattle.mt_keeping.specs.Laws
pub use Rattle.mt_keeping.specs.Recovered
pub use Rattle.mt_keeping.specs.States
