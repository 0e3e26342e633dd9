-- What this crate passes on of mt_served to those above it.
pub use Rattle.mt_served.specs.Crews
pub use Rattle.mt_served.specs.Few
pub use Rattle.mt_served.specs.Laws
pub use Rattle.mt_served.specs.Served
