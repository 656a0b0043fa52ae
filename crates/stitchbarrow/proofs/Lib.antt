-- The laws of `stitchbarrow`.
pub mod Laws
pub mod Replies
