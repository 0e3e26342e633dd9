-- What this crate passes on of mt_runs to those above it.
pub use Rattle.mt_interactions.specs.mt_runs.Course
pub use Rattle.mt_interactions.specs.mt_runs.Datagrams
pub use Rattle.mt_interactions.specs.mt_runs.Isolation
pub use Rattle.mt_interactions.specs.mt_runs.Laws
pub use Rattle.mt_interactions.specs.mt_runs.LineLaws
pub use Rattle.mt_interactions.specs.mt_runs.Lines
pub use Rattle.mt_interactions.specs.mt_runs.Messages
pub use Rattle.mt_interactions.specs.mt_runs.Whole
