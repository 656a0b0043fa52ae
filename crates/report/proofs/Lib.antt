-- The laws and theorems of `report`.
pub mod Digits
pub mod Arguments
pub mod Puts
pub mod Texts
pub mod Promises
pub mod Worked
