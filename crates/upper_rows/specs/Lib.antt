-- What a row of the upper triangle becomes; the rest of the decomposition's definitions are those of `factors`.
pub mod Rows
