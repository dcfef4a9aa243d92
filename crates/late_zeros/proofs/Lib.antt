-- The laws of the forms.
pub mod Starts
