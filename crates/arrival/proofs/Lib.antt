-- Laws of the record, the kept sums and the calls, lowest first.
pub mod Sets
pub mod Records
pub mod Members
pub mod Sums
pub mod Judged
pub mod Calls
pub mod Promised
