pub mod Every
pub mod Chains
pub mod Ends
pub mod Numbers
pub mod Parts
pub mod Walks
pub mod KindNumbers
