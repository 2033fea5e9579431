-- Points at equal distances differ.
pub mod Apart
