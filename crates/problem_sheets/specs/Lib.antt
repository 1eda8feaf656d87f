pub mod Escaping
pub mod Diagrams
pub mod Problems
pub mod Solutions
pub mod Contents
pub mod Pages
pub mod Laws
