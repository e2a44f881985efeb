mod Ends
mod Parting
mod Coming
mod Heads
mod Rows
mod ReadBack
mod HeadRows
