-- Laws: the numbers of a reading.
pub mod Laws
