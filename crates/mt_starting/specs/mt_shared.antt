-- What this crate passes on of mt_shared to those above it.
pub use Rattle.mt_shared.specs.Acts
pub use Rattle.mt_shared.specs.Book
pub use Rattle.mt_shared.specs.declared.entry.Call
pub use Rattle.mt_shared.specs.declared.entry.Entry
pub use Rattle.mt_shared.specs.declared.entry.Stop
pub use Rattle.mt_shared.specs.Replay
pub use Rattle.mt_shared.specs.Shared
