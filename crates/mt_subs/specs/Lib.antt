pub mod Changes
pub mod Leaving
pub mod Owed
pub mod Places
pub mod Subscriptions
