-- Characters that are seen are ASCII.
use Rattle.std.proofs.Common.{◌≡◌, ℕ, zero, suc, ◌<◌, true, List, [], ◌∷◌, arith, get_or}
use Rattle.std.specs.Str.{IsAscii}
use Rattle.std.specs.List.{list_all}
use Rattle.std.specs.Char.{is_ascii_graphic}
use Rattle.std.proofs.lemmas.Str.Ascii.{IsAscii-nil}
use Rattle.std.proofs.lemmas.Grind.{common_steps}

pub graphic_ascii : (bytes : List ℕ) → list_all is_ascii_graphic bytes ≡ true → IsAscii bytes
graphic_ascii [] h = IsAscii-nil
graphic_ascii (b ∷ bs) h = at (graphic_ascii bs (grind (arith, common_steps)))
  where
    at : IsAscii bs → (i : ℕ) → get_or (b ∷ bs) i 0 < 128
    at rest zero = grind (arith, common_steps)
    at rest (suc i) = rest i
