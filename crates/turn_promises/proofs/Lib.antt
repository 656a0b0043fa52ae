-- The theorems about the program's run; Promises.antt has those that a user relies on.
pub mod Cutting
pub mod Rows
pub mod Promises
pub mod Worked
