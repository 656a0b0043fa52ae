-- The laws and theorems of `field`.
pub mod Admission
pub mod Ways
pub mod Places
pub mod Worked
