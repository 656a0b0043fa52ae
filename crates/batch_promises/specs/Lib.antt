-- The definitions that only the promises of calls cite: what a call counts, calls one after another, and the offsets that verdicts hold.
pub mod Count
pub mod GoingOn
pub mod Offsets
