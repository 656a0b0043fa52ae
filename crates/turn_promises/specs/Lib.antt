-- The definitions that the promises of the program's run cite: the run on lists, all that it writes, and a row for each record.
pub mod Stream
pub mod Output
pub mod Rows
