pub mod Hosts
pub mod Neighbors
pub mod Routes
pub mod Takers
pub mod Sockets
pub mod Sends
pub mod RefusedRoutes
pub mod SocketAddresses
