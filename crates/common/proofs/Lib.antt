-- The laws and theorems of `common`.
pub mod Reading
pub mod Accepted
pub mod Places
pub mod Promises
pub mod Worked
