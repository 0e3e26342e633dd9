pub mod FirstGrants
pub mod Tags
