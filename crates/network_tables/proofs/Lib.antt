pub mod FrontFields
pub mod Widest
pub mod Names
pub mod Silent
pub mod BestSoFar
pub mod RowsRead
pub mod TablesRead
