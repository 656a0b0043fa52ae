-- The laws and theorems of `currency`.
pub mod Promises
pub mod Accepted
pub mod Places
pub mod Worked
