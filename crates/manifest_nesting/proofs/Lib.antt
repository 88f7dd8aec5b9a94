pub mod StringSkips
pub mod DateWords
pub mod Steps
pub mod Printed
pub mod Marks
