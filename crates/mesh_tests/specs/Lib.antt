-- Definitions of the tests.
pub mod Grown
