pub mod FormLines
