pub mod Circuits
