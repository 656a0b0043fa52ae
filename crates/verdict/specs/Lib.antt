-- The definitions that the contracts of `verdict` cite.
pub mod Verdict
