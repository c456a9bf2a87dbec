pub mod Acts
pub mod Events
pub mod Told
pub mod Cases
pub mod Said
pub mod Enters
