pub mod Types
pub mod Named
pub mod SavedNamed
