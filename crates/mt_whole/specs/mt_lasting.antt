-- What this crate passes on of mt_lasting to those above it.
pub use Rattle.mt_interactions.specs.mt_lasting.Changes
pub use Rattle.mt_interactions.specs.mt_lasting.Contents
pub use Rattle.mt_interactions.specs.mt_lasting.Laws
