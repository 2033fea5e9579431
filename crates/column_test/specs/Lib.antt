-- The points of the test.
pub mod Progression
