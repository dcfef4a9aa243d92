-- Laws of the numbers of three by three: their four ends, the cells stored, and that they are the decomposition's and the inverse's.
pub mod Ends
pub mod Puts
pub mod Laws
