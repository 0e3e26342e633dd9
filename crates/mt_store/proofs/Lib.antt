pub mod Leads
pub mod LeadingOver
pub mod Stops
