-- What this crate passes on of mt_legal to those above it.
pub use Rattle.mt_served.specs.mt_legal.Laws
