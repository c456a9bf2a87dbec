pub mod Steps
pub mod Running
pub mod Follows
pub mod Lives
pub mod Converge
pub mod Stays
pub mod Happens
pub mod Asking
