-- Laws of words that are put into a buffer (Wording), what is reported of a text (Theorems), and that the reader and the writer leave it so (Reporting).
mod Wording
pub mod Theorems
mod Reporting
