-- The definitions that the contracts of `checkdigit` cite.
pub mod Letter
pub mod Sum
pub mod Fill
pub mod RemainderStep
