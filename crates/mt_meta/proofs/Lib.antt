pub mod Elements
pub mod FirstFacts
pub mod RowFacts
pub mod SensitiveFacts
pub mod StoredFacts
pub mod TableFacts
pub mod WritableFacts
