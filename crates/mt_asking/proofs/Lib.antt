pub mod ByteLists
pub mod ConfigRows
pub mod Exact
pub mod Found
pub mod ScriptSteps
pub mod SealedBytes
pub mod Stops
