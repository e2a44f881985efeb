-- Multicast groups.
use Rattle.std.specs.Prelude.{ℕ, Bool, ◌&&◌, List, nat_le, slice_index}

-- an address of a multicast group: its first number is from 224 to 239 (RFC 5771)
abbrev pub is_multicast : List ℕ → Bool
is_multicast host = nat_le 224 (slice_index host 0) && nat_le (slice_index host 0) 239
