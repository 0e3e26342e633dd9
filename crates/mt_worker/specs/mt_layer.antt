-- What this crate passes on of mt_layer to those above it.
pub use Rattle.mt_layer.specs.Agreeing
pub use Rattle.mt_layer.specs.Deeds
pub use Rattle.mt_layer.specs.Laws
pub use Rattle.mt_layer.specs.Lines
pub use Rattle.mt_layer.specs.Saying
