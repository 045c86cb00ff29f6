pub mod BlockReading
pub mod ImportReading
pub mod LineReading
