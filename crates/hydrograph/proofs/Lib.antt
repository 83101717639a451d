pub mod Found
pub mod Made
