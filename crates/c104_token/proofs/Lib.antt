pub mod Cutting
pub mod Reading
pub mod Digits
pub mod Spelling
pub mod Printing
