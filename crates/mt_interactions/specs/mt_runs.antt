-- What this crate passes on of mt_runs to those above it.
pub use Rattle.mt_runs.specs.Course
pub use Rattle.mt_runs.specs.Datagrams
pub use Rattle.mt_runs.specs.Expiries
pub use Rattle.mt_runs.specs.Isolation
pub use Rattle.mt_runs.specs.Laws
pub use Rattle.mt_runs.specs.LineLaws
pub use Rattle.mt_runs.specs.Lines
pub use Rattle.mt_runs.specs.Marks
pub use Rattle.mt_runs.specs.Messages
pub use Rattle.mt_runs.specs.Reopening
pub use Rattle.mt_runs.specs.Replay
pub use Rattle.mt_runs.specs.Replies
pub use Rattle.mt_runs.specs.Restarts
pub use Rattle.mt_runs.specs.Whole
