-- What this crate passes on of mt_receiver to those above it.
pub use Rattle.mt_receiver.specs.Receives
pub use Rattle.mt_receiver.specs.Rounds
pub use Rattle.mt_receiver.specs.declared.receiving.Received
pub use Rattle.mt_receiver.specs.declared.receiving.ReceiveFault
pub use Rattle.mt_receiver.specs.declared.receiving.ReceiveFault.TheVariants
