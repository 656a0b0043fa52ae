-- The laws and theorems of `service`.
pub mod Laws
pub mod Bytes
pub mod Promises
