-- The definitions that the contracts of `service` cite.
pub mod Run
pub mod Inner
