pub mod Event
pub mod Printed
