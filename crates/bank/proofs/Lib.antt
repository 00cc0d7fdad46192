pub mod Banking
