-- The definitions that the promises of `stitchbarrow` cite.
pub mod Calls
