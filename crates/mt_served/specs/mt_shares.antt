-- What this crate passes on of mt_shares to those above it.
pub use Rattle.mt_legal.specs.mt_shares.Merging
