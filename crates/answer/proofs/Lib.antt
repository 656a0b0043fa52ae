-- The laws and theorems of `answer`.
pub mod Laws
pub mod Promises
pub mod Worked
