mod Places
pub mod Within
pub mod Carried
pub mod Laws
