-- The definitions of a repair: classes and sums, messages, the first and the second step, the whole.
pub mod Classes
pub mod Layout
pub mod Steps
pub mod Whole
