-- What this crate passes on of mt_runs to those above it.
pub use Rattle.mt_shares.specs.mt_runs.Course
pub use Rattle.mt_shares.specs.mt_runs.Messages
