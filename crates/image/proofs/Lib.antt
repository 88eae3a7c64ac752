pub mod Bits
pub mod Tests
pub mod Zeros
pub mod Counting
pub mod Making
