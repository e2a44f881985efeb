-- Addresses as the system's sockets take them.
use Rattle.std.specs.Prelude.{◌≡◌, ℕ, List, [], ◌∷◌}
use Rattle.std.specs.Net.Addr.{IsV4And, IsV6And, embedded_segments, ipv4_octets, ipv6_segments}
use Rattle.std.specs.Net.Socket.{socket_flowinfo, socket_ip, socket_port, socket_scope_id}
use Rattle.std.specs.declared.net.ip_addr.IpAddr.{IpAddr}
use Rattle.std.specs.declared.net.ipv4_addr.Ipv4Addr.{Ipv4Addr}
use Rattle.std.specs.declared.net.socket_addr.SocketAddr.{SocketAddr}
use Rattle.packet_paths.specs.declared.night_socket.NightSocket.{NightSocket}
use Rattle.packet_paths.specs.declared.night_socket.NightSocket.TheVariants as socket

-- an address of IPv4, as a socket of IPv6 takes it: ::ffff:a.b.c.d
abbrev pub IsMapped : List ℕ → IpAddr → Type 0
IsMapped host ip = IsV6And ip (λ ip. (own : Ipv4Addr) × (ipv4_octets own ≡ host)
    × (ipv6_segments ip ≡ embedded_segments 65535 own))

-- some machine at the network of a card: its link-local address, fe80::1, names the card
pub record IsMachineBy (index : ℕ) (address : SocketAddr) : Type 0 where
  pub ip : IsV6And (socket_ip address)
      (λ ip. ipv6_segments ip ≡ 65152 ∷ 0 ∷ 0 ∷ 0 ∷ 0 ∷ 0 ∷ 0 ∷ 1 ∷ [])
  pub port : socket_port address ≡ 9
  pub flow : socket_flowinfo address ≡ 0
  pub card : socket_scope_id address ≡ index

-- WHERE A PACKET GOES: to its host; a tied socket is one of IPv6, and the others are of IPv4
abbrev pub IsDestination : NightSocket → List ℕ → IpAddr → Type 0
IsDestination (socket.Tied place) host ip = IsMapped host ip
IsDestination (socket.Bound place) host ip = IsV4And ip (λ ip. ipv4_octets ip ≡ host)
IsDestination socket.Unbound host ip = IsV4And ip (λ ip. ipv4_octets ip ≡ host)
