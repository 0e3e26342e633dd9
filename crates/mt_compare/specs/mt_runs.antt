-- What this crate passes on of mt_runs to those above it.
pub use Rattle.mt_play.specs.mt_runs.Course
pub use Rattle.mt_play.specs.mt_runs.Expiries
pub use Rattle.mt_play.specs.mt_runs.Isolation
pub use Rattle.mt_play.specs.mt_runs.Laws
pub use Rattle.mt_play.specs.mt_runs.LineLaws
pub use Rattle.mt_play.specs.mt_runs.Marks
pub use Rattle.mt_play.specs.mt_runs.Messages
pub use Rattle.mt_play.specs.mt_runs.Replay
pub use Rattle.mt_play.specs.mt_runs.Replies
pub use Rattle.mt_play.specs.mt_runs.Restarts
pub use Rattle.mt_play.specs.mt_runs.Whole
