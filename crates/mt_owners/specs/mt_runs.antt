-- What this crate passes on of mt_runs to those above it.
pub use Rattle.mt_worker.specs.mt_runs.Datagrams
