-- What this crate passes on of mt_marks to those above it.
pub use Rattle.mt_marks.specs.Noted
pub use Rattle.mt_marks.specs.Parts
pub use Rattle.mt_marks.specs.Remembered
pub use Rattle.mt_marks.specs.Seen
pub use Rattle.mt_marks.specs.declared.difference.Part
pub use Rattle.mt_marks.specs.declared.difference.Part.TheVariants
pub use Rattle.mt_marks.specs.declared.mark.Descriptor
pub use Rattle.mt_marks.specs.declared.mark.Mark
pub use Rattle.mt_marks.specs.declared.mark.Unanswered
pub use Rattle.mt_marks.specs.declared.shown.Note
pub use Rattle.mt_marks.specs.differences.Codes
pub use Rattle.mt_marks.specs.differences.Difference
pub use Rattle.mt_marks.specs.differences.Laws
pub use Rattle.mt_marks.specs.differences.Marked
pub use Rattle.mt_marks.specs.differences.Parts as DifferencesParts
