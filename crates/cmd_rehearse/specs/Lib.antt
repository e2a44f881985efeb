pub mod Texts
pub mod Printed
pub mod Begins
pub mod Forms
pub mod Said
pub mod Script
