pub mod Limits
pub mod Seepage
pub mod Rules
pub mod Laws
pub mod Answers
