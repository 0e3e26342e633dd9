-- What this crate passes on of mt_shared to those above it.
pub use Rattle.mt_shared.specs.Acts
pub use Rattle.mt_shared.specs.Book
pub use Rattle.mt_shared.specs.Replay
pub use Rattle.mt_shared.specs.Shared
pub use Rattle.mt_shared.specs.declared.entry.ActFault
pub use Rattle.mt_shared.specs.declared.entry.ActFault.TheVariants
pub use Rattle.mt_shared.specs.declared.entry.Answer
pub use Rattle.mt_shared.specs.declared.entry.Call
pub use Rattle.mt_shared.specs.declared.entry.Entry
pub use Rattle.mt_shared.specs.declared.entry.Stamped
pub use Rattle.mt_shared.specs.declared.entry.Stop
