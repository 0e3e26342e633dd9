-- What this crate passes on of mt_marks to those above it.
pub use Rattle.mt_play.specs.mt_marks.Difference
pub use Rattle.mt_play.specs.mt_marks.Laws
pub use Rattle.mt_play.specs.mt_marks.Marked
