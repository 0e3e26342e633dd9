pub mod Commits
pub mod Keys
pub mod OneMap
pub mod Options
pub mod Recovering
pub mod Recoveries
pub mod Reopened
