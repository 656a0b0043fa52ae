-- The definitions that the contracts of `answer` cite.
pub mod Result
pub mod Table
pub mod Steps
