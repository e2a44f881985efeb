mod Rows
mod RowsStart
mod Told
