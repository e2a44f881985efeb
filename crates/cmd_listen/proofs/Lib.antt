pub mod Texts
pub mod Tops
pub mod Lists
pub mod Results
pub mod Stood
pub mod Taking
pub mod Faults
pub mod Whole
pub mod Passing
pub mod Living
pub mod LivingLines
pub mod Histories
pub mod Listened
mod ListenRows
mod Terms
