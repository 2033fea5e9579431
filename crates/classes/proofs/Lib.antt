-- Laws of classes, sums and the steps of a repair, lowest first.
pub mod Sizes
pub mod Dead
pub mod Turns
pub mod Ranks
pub mod Counts
pub mod Sums
pub mod Adding
pub mod FirstStep
pub mod SecondStep
pub mod Layouts
pub mod Messages
pub mod Members
pub mod Placing
pub mod Wire
