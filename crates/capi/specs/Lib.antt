-- Numbers: the structs that the calls for C answer. Calls: what each call promises.
pub mod Numbers
pub mod Calls
