pub mod Items
pub mod Objects
pub mod Tables
