pub mod Shaping
pub mod ExactlyWhen
pub mod FrameBack
pub mod Calling
pub mod Lines
pub mod ByType
pub mod Station
