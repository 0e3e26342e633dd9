-- What this crate passes on of mt_layer to those above it.
pub use Rattle.mt_worker.specs.mt_layer.Agreeing
pub use Rattle.mt_worker.specs.mt_layer.Deeds
pub use Rattle.mt_worker.specs.mt_layer.Laws
pub use Rattle.mt_worker.specs.mt_layer.Lines
