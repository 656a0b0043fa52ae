-- The definitions that the contracts of `stitchbarrow` cite.
pub mod Sheets
pub mod Reply
pub mod Inner
