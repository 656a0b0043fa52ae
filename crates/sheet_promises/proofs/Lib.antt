-- The promises of `sheet`, and the laws that they cite.
pub mod Calls
pub mod Promises
pub mod Worked
