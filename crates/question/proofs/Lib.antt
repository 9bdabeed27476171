pub mod Asked
pub mod Fixed
pub mod Numbers
