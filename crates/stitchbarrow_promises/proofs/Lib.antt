-- The promises of `stitchbarrow`, and the laws that they cite.
pub mod Sheets
pub mod Replies
pub mod Promises
