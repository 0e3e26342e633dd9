-- What this crate passes on of mt_node to those above it.
pub use Rattle.mt_interactions.specs.mt_node.Plan
