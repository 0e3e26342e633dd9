-- What this crate passes on of mt_shared to those above it.
pub use Rattle.mt_owners.specs.mt_shared.Book
pub use Rattle.mt_owners.specs.mt_shared.Entry
pub use Rattle.mt_owners.specs.mt_shared.Replay
pub use Rattle.mt_owners.specs.mt_shared.Shared
pub use Rattle.mt_owners.specs.mt_shared.Call
pub use Rattle.mt_owners.specs.mt_shared.Stop
