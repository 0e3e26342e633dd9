pub mod Checked
pub mod Forms
pub mod Passing
pub mod Tables
