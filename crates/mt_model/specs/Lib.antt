pub mod Optional
pub mod Trees
pub mod messages
pub mod rows
pub mod tables
pub mod texts
