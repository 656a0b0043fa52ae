-- The definitions that the contracts of `lei` cite.
pub mod Lei
