pub mod Text
pub mod Framing
pub mod Said
pub mod Printed
pub mod Example
pub mod Promise
