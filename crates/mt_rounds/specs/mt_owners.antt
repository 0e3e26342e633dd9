-- What this crate passes on of mt_owners to those above it.
pub use Rattle.mt_owners.specs.Laws
pub use Rattle.mt_owners.specs.Rows
