-- The laws and theorems of `utf8`.
pub mod Chars
pub mod Ascii
pub mod Prefix
pub mod Promises
pub mod Walks
pub mod Worked
