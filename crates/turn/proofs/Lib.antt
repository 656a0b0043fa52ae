-- The laws of `turn`.
pub mod Laws
