-- The definition that goes by the pivot's cases; the rest of the decomposition's are those of `factors`.
pub mod Steps
