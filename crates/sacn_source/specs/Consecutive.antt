-- Universes in a row.
-- Of use inside the crate: what its public calls answer is said without these.
use Rattle.std.specs.Prelude.{◌≡◌, ℕ, ◌+◌, ◌<◌, List, length, slice_index}

-- each is one more than the one before
abbrev pub AreConsecutive : List ℕ → Type 0
AreConsecutive universes = (i : ℕ) → i < length universes
    → slice_index universes i ≡ slice_index universes 0 + i
