-- A head and its line, evaluated.
use Rattle.std.specs.Prelude.{◌≡◌, ◌++◌, refl, codes, ℕ, List, [], ◌∷◌, Some}
use Rattle.std.specs.Fmt.{digits}
use Rattle.hex.specs.Hex.{encode_with}
use Rattle.uuid.specs.Text.{by_index}
use Rattle.night_record.specs.Head.{head_text}
use Rattle.night_record.specs.Difference.{difference}
use Rattle.night_record.specs.declared.head.RecordHead.{RecordHead}
use Rattle.night_record.specs.declared.difference.Difference.TheVariants.{Base, Show}

-- the SHA-256 of `abc` (FIPS 180-4)
abbrev show : List ℕ
show = 186 ∷ 120 ∷ 22 ∷ 191 ∷ 143 ∷ 1 ∷ 207 ∷ 234 ∷ 65 ∷ 65 ∷ 64 ∷ 222 ∷ 93 ∷ 174 ∷ 34 ∷ 35
    ∷ 176 ∷ 3 ∷ 97 ∷ 163 ∷ 150 ∷ 23 ∷ 122 ∷ 156 ∷ 180 ∷ 16 ∷ 255 ∷ 97 ∷ 242 ∷ 0 ∷ 21 ∷ 173 ∷ []

abbrev head : List ℕ → ℕ → RecordHead
head checksum base = record {
  show = checksum;
  cid = 192 ∷ 255 ∷ 238 ∷ 0 ∷ 0 ∷ 0 ∷ 64 ∷ 0 ∷ 128 ∷ 0 ∷ 0 ∷ 0 ∷ 0 ∷ 0 ∷ 225 ∷ 49 ∷ [];
  priority = 100;
  base = base;
  name = codes "cueplayer";
  started = codes "2026-11-26T19:30:00.250Z";
}

line : head_text (head show 1) ≡ codes "! cueplayer record 1: show "
    ++ codes "ba7816bf8f01cfea414140de5dae2223b00361a396177a9cb410ff61f20015ad"
    ++ codes "\n! cid c0ffee00-0000-4000-8000-00000000e131, priority 100, base 1"
    ++ codes ", name cueplayer, started 2026-11-26T19:30:00.250Z"
unfolding digits encode_with by_index
line = refl

differences : (difference (head show 1) (head show 2) ≡ Some Base)
    × (difference (head show 1) (head [] 2) ≡ Some Show)
differences = (refl, refl)
