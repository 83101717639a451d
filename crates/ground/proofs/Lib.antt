pub mod Shares
pub mod Flows
pub mod Steps
