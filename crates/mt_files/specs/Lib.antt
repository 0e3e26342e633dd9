pub mod Event
pub mod Field
pub mod Form
pub mod Lines
pub mod Output
pub mod Recording
pub mod Subject
pub mod Told
