-- The address of a universe.
use Rattle.std.specs.Prelude.{ℕ, ◌/◌, ◌%◌, List, [], ◌∷◌, Bool, ◌&&◌, nat_eq, if◌then◌else◌}
use Rattle.std.specs.Str.{bytes_eq}
use Rattle.targets.specs.declared.address.Address.{Address}

-- the host that stands for the multicast groups of all universes
abbrev pub all_groups : List ℕ
all_groups = 239 ∷ 255 ∷ 0 ∷ 0 ∷ []

-- the multicast group of a universe: 239.255 and the two bytes of its number, the high one first
-- (E1.31-2018, 9.3.1)
abbrev pub group : ℕ → List ℕ
group universe = 239 ∷ 255 ∷ universe / 256 ∷ universe % 256 ∷ []

-- whether each universe goes to its own group
abbrev pub is_groups : Address → Bool
is_groups address = bytes_eq address.host all_groups

-- where a universe goes by an address that was named
abbrev pub address_at : ℕ → Address → Address
address_at universe named = record {
  host = (if is_groups named then group universe else named.host);
  port = named.port;
}

-- whether two addresses are the same host and port
abbrev pub is_same : Address → Address → Bool
is_same a b = bytes_eq a.host b.host && nat_eq a.port b.port
