-- What this crate passes on of mt_runs to those above it.
pub use Rattle.mt_owners.specs.mt_runs.Datagrams
