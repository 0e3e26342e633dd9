-- What this crate passes on of mt_lasting to those above it.
pub use Rattle.mt_lasting.specs.Changes
pub use Rattle.mt_lasting.specs.Contents
pub use Rattle.mt_lasting.specs.Laws
