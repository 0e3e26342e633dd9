-- What this crate passes on of mt_interactions to those above it.
pub use Rattle.mt_interactions.specs.Committing
pub use Rattle.mt_interactions.specs.Configured
pub use Rattle.mt_interactions.specs.Plan
pub use Rattle.mt_interactions.specs.declared.outcome.InteractionOutcome
