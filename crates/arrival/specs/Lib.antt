pub mod Arrives
