pub mod Layout
pub mod Image
pub mod Valid
pub mod Laws
pub mod State
pub mod Running
