-- The definitions that the contracts of `record` cite, and with them the walk over whole records, which the crates above build on.
pub mod Number
pub mod Head
pub mod Records
