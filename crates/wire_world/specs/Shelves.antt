-- Which packets of each universe are kept.
-- Of use inside the crate: what its public calls answer is said without these.
use Rattle.std.specs.Prelude.{◌≡◌, ◌⊎◌, ◌≤◌, ℕ, ◌==◌, List, [], ◌++◌, length, find}
use Rattle.std.specs.Option.{option_map_or}
use Rattle.wire_world.specs.declared.shelf.Shelf.{Shelf}

-- the packets of a universe that are kept
abbrev pub shelf_packets : List Shelf → ℕ → List (List ℕ)
shelf_packets shelves universe =
    option_map_or (λ shelf. shelf.packets)
    (find (λ shelf. shelf.universe == universe) shelves) []

-- how many packets of a universe are gone, the first ones
abbrev pub gone_of : List Shelf → ℕ → ℕ
gone_of shelves universe =
    option_map_or (λ shelf. shelf.gone) (find (λ shelf. shelf.universe == universe) shelves) 0

-- of a universe no packet before packet `low` is kept
abbrev pub KeepsFrom : List Shelf → ℕ → ℕ → Type 0
KeepsFrom shelves universe low =
    (shelf_packets shelves universe ≡ []) ⊎ (low ≤ gone_of shelves universe)

-- these packets are all but the first ones, so many of which are gone
pub record IsRest (gone : ℕ) (kept all : List (List ℕ)) : Type 0 where
  pub before : List (List ℕ)
  pub parts : all ≡ before ++ kept
  pub count : length before ≡ gone
