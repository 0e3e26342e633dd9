-- What this crate passes on of mt_receiver to those above it.
pub use Rattle.mt_owners.specs.mt_receiver.Receives
pub use Rattle.mt_owners.specs.mt_receiver.Rounds
pub use Rattle.mt_owners.specs.mt_receiver.ReceiveFault
pub use Rattle.mt_owners.specs.mt_receiver.Received
pub use Rattle.mt_owners.specs.mt_receiver.TheVariants
