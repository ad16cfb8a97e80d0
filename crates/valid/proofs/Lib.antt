-- Scans: the loops, one element at a time. Testing: what each test's answer says, group by group, up to the whole book.
pub mod Scans
pub mod Testing
