pub mod Containment
