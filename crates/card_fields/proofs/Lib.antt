-- Laws of the bytes that are put: one text behind another (Laid), digits (Digits) and entries (Entering).
pub mod Laid
mod Digits
pub mod Entering
