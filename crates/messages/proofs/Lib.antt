mod Ends
mod Puts
