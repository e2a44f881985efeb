-- The name of who sends on a machine is ASCII.
use Rattle.std.proofs.Common.{◌≡◌, ◌<◌, ℕ, zero, suc, Bool, true, false, List, [], ◌∷◌, arith, refl}
use Rattle.std.specs.Char.{is_ascii}
use Rattle.std.specs.List.{filter, list_all}
use Rattle.std.specs.Prelude.{codes, take}
use Rattle.std.specs.Str.{IsAscii}
use Rattle.std.proofs.lemmas.Grind.{common_steps}
use Rattle.std.proofs.lemmas.Str.{IsAscii-append, IsAscii-take}
use Rattle.std.proofs.lemmas.Str.Ascii.{IsAscii-nil}
use Rattle.cmd_words.specs.Source.{behind_program, is_graphic, name_on}

cons_ascii : (b : ℕ) (bs : List ℕ) → b < 128 → IsAscii bs → IsAscii (b ∷ bs)
cons_ascii b bs below rest zero = below
cons_ascii b bs below rest (suc i) = rest i

all_ascii : (bs : List ℕ) → list_all is_ascii bs ≡ true → IsAscii bs
all_ascii [] all = IsAscii-nil
all_ascii (b ∷ bs) all = cons_ascii b bs (grind (arith, common_steps))
    (all_ascii bs (grind (arith, common_steps)))

seen_ascii : (bs : List ℕ) → IsAscii (filter is_graphic bs)
seen_ascii [] = IsAscii-nil
seen_ascii (b ∷ bs) = by (seen_ascii bs) (is_graphic b) refl
  where
    by : IsAscii (filter is_graphic bs) → (seen : Bool) → is_graphic b ≡ seen
        → IsAscii (filter is_graphic (b ∷ bs))
    by rest true is = rw is (cons_ascii b _ (grind (arith, common_steps)) rest)
    by rest false is = rw is rest

behind_ascii : (seen : List ℕ) → IsAscii seen → IsAscii (behind_program seen)
behind_ascii [] ascii = all_ascii (codes "cueplayer") refl
behind_ascii (b ∷ bs) ascii = IsAscii-append (codes "cueplayer ") (b ∷ bs)
    (all_ascii (codes "cueplayer ") refl) ascii

pub name_ascii : (machine : List ℕ) → IsAscii (name_on machine)
name_ascii machine = behind_ascii (take 53 (filter is_graphic machine))
    (IsAscii-take (filter is_graphic machine) 53 (seen_ascii machine))
