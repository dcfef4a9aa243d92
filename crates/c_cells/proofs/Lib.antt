-- The law behind the contract of `yurgamysh_get`.
pub mod Reading
