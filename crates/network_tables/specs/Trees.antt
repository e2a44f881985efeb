-- The addresses of this machine, by the system's tree of routes, `/proc/net/fib_trie`.
use Rattle.std.specs.Prelude.{◌≡◌, ℕ, Bool, true, false, ◌&&◌, ◌||◌, List, [], ◌∷◌, ◌++◌, length}
use Rattle.std.specs.Prelude.{codes, bytes_eq, nat_le, Option, Some, None, if◌then◌else◌}
use Rattle.std.specs.List.{list_any}
use Rattle.std.specs.Net.Addr.{ipv4_octets}
use Rattle.std.specs.Net.Grammar.{IsIpv4Text}
use Rattle.std.specs.declared.net.ipv4_addr.Ipv4Addr.{Ipv4Addr}
use Rattle.network_tables.specs.Fields.{field}
use Rattle.network_tables.specs.Groups.{is_multicast}
use Rattle.network_tables.specs.declared.tree.OwnAddresses.{OwnAddresses}
use Rattle.network_tables.specs.declared.tree.TreeLine.{TreeLine}
use Rattle.network_tables.specs.declared.tree.TreeLine.TheVariants as line

-- a line begins a leaf: `|--`, and its address
abbrev pub is_leaf : List ℕ → Bool
is_leaf text = bytes_eq (field 0 text) (codes "|--")

-- a line says that the address of its leaf is this machine's: `/32 host LOCAL`
abbrev pub is_own_line : List ℕ → Bool
is_own_line text = bytes_eq (field 0 text) (codes "/32")
    && (bytes_eq (field 1 text) (codes "host") && bytes_eq (field 2 text) (codes "LOCAL"))

-- what a line says
abbrev pub Says : List ℕ → TreeLine → Type 0
Says text (line.Leaf address) = (is_leaf text ≡ true) × IsIpv4Text (field 1 text) address
Says text line.Own = is_own_line text ≡ true
Says text line.Other = (is_own_line text ≡ false)
    × (is_leaf text ≡ true → (address : Ipv4Addr) → IsIpv4Text (field 1 text) address → ⊥)

-- the leaf that was read last, and the machine's addresses so far
pub record Found : Type 0 where
  pub leaf : Option (List ℕ)
  pub addresses : List (List ℕ)

abbrev pub found_seen : OwnAddresses → Found
found_seen own = record { leaf = own.leaf; addresses = own.addresses.items }

-- each address once, but no multicast group: a card may have joined it by an address of its own,
-- from which no packet comes; and of more than 64 the first
abbrev pub with_address : List (List ℕ) → List ℕ → List (List ℕ)
with_address addresses address =
    if is_multicast address || (list_any (λ known. bytes_eq known address) addresses
    || nat_le 64 (length addresses))
    then addresses else addresses ++ address ∷ []

-- with the address of the leaf, where there is one
abbrev pub with_leaf : Option (List ℕ) → List (List ℕ) → List (List ℕ)
with_leaf None addresses = addresses
with_leaf (Some address) addresses = with_address addresses address

-- after one line more
abbrev pub found_after : Found → TreeLine → Found
found_after found (line.Leaf address) = record found { leaf = Some (ipv4_octets address) }
found_after found line.Own = record found { addresses = with_leaf found.leaf found.addresses }
found_after found line.Other = found
