pub mod Texts
pub mod Moves
pub mod Carrying
pub mod Living
pub mod TakingUp
pub mod Leading
pub mod Followings
pub mod FollowingOn
