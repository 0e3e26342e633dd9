-- What this crate passes on of mt_interactions to those above it.
pub use Rattle.mt_interactions.specs.Configured
pub use Rattle.mt_interactions.specs.Deeds
pub use Rattle.mt_interactions.specs.declared.deeds.Deed
pub use Rattle.mt_interactions.specs.declared.deeds.Deed.TheVariants
