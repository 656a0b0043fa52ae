-- The laws and theorems of `codes`.
pub mod Laws
pub mod Places
pub mod Worked
