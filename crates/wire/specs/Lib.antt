pub mod Bytes
pub mod Kinds
pub mod Reading
pub mod Answers
pub mod Said
pub mod Theorems
