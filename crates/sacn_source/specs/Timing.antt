-- When offers come and packets go. Lists have the newest first.
use Rattle.std.specs.Prelude.{ℕ, ◌+◌, ◌<◌, ◌≤◌, List, [], ◌∷◌, if◌then◌else◌}
use Rattle.sacn_source.specs.Stream.{Offer, sends}

-- each offer comes at most so many milliseconds later than the one before
abbrev pub AreWithin : ℕ → List Offer → Type 0
AreWithin gap [] = Unit {0}
AreWithin gap (o ∷ []) = Unit {0}
AreWithin gap (o ∷ p ∷ older) = (o.moment ≤ p.moment + gap) × AreWithin gap (p ∷ older)

-- the moments of the packets, terminations aside
abbrev pub moments_sent : List Offer → List ℕ
moments_sent [] = []
moments_sent (o ∷ older) =
    if sends (o ∷ older) then o.moment ∷ moments_sent older else moments_sent older

-- each moment is less than so many milliseconds later than the one before
abbrev pub AreCloser : ℕ → List ℕ → Type 0
AreCloser gap [] = Unit {0}
AreCloser gap (a ∷ []) = Unit {0}
AreCloser gap (a ∷ b ∷ rest) = (a < b + gap) × AreCloser gap (b ∷ rest)
