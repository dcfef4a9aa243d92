-- Laws of the stages: on values made of entries each is the general definition at this size.
pub mod Stages
pub mod Roots
