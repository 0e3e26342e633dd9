-- What this crate passes on of mt_marks to those above it.
pub use Rattle.mt_whole.specs.mt_marks.Parts
pub use Rattle.mt_whole.specs.mt_marks.Seen
pub use Rattle.mt_whole.specs.mt_marks.Part
pub use Rattle.mt_whole.specs.mt_marks.TheVariants
pub use Rattle.mt_whole.specs.mt_marks.Descriptor
pub use Rattle.mt_whole.specs.mt_marks.Mark
pub use Rattle.mt_whole.specs.mt_marks.Unanswered
pub use Rattle.mt_whole.specs.mt_marks.Codes
pub use Rattle.mt_whole.specs.mt_marks.Difference
pub use Rattle.mt_whole.specs.mt_marks.Laws
pub use Rattle.mt_whole.specs.mt_marks.Marked
pub use Rattle.mt_whole.specs.mt_marks.DifferencesParts
