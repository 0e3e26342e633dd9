-- What this crate passes on of mt_whole to those above it.
pub use Rattle.mt_whole.specs.Seeing
