-- A text has no more lines than bytes.
use Rattle.std.proofs.Common.{◌≡◌, ◌≤◌, ◌+◌, ℕ, Bool, true, false, List, [], ◌∷◌, ◌++◌, length}
use Rattle.std.proofs.Common.{arith, ap, length-append}
use Rattle.std.specs.Prelude.{◌==◌, if◌then◌else◌, fold}
use Rattle.ascii_text.specs.Lines.{Cut, cut_of, no_bytes, with_byte}

one_by : (is_end : Bool) (cut : Cut) (byte : ℕ)
    → length (if◌then◌else◌ {A = Cut} is_end (record { lines = cut.rest ∷ cut.lines; rest = [] })
    (record { lines = cut.lines; rest = cut.rest ++ byte ∷ [] })).lines
    ≤ length cut.lines + 1
one_by true cut byte = omega arith
one_by false cut byte = omega arith

from_cut : (cut : Cut) (bytes : List ℕ)
    → length (fold with_byte cut bytes).lines ≤ length cut.lines + length bytes
from_cut cut [] = omega arith
from_cut cut (byte ∷ bytes) =
    let one : length (with_byte cut byte).lines ≤ length cut.lines + 1
    = one_by (byte == 10) cut byte in
    let more = from_cut (with_byte cut byte) bytes in
    omega (arith, one, more)

pub few_lines : (bytes : List ℕ) → length (cut_of bytes).lines ≤ length bytes
few_lines bytes =
    let few : length (cut_of bytes).lines ≤ 0 + length bytes = from_cut no_bytes bytes in
    omega (arith, few)
