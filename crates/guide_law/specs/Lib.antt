pub mod Law
