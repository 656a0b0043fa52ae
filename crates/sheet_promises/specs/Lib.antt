-- The definitions that the promises of `sheet` cite.
pub mod Calls
