pub mod Asking
pub mod Behind
pub mod Isolation
pub mod Laws
pub mod Ledger
pub mod Reporting
pub mod Subscribing
pub mod history
