-- The theorems about calls over a batch; Promises.antt has those that a user relies on.
pub mod Count
pub mod Offsets
pub mod GoingOn
pub mod Ends
pub mod Whole
pub mod Promises
pub mod Sizes
pub mod Worked
