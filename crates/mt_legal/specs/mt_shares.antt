-- What this crate passes on of mt_shares to those above it.
pub use Rattle.mt_shares.specs.Laws
pub use Rattle.mt_shares.specs.Merging
pub use Rattle.mt_shares.specs.Threads
