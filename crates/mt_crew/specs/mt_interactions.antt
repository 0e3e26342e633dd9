-- What this crate passes on of mt_interactions to those above it.
pub use Rattle.mt_served.specs.mt_interactions.Configured
