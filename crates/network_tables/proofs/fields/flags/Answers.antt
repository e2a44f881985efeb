use Rattle.std.proofs.Common.{◌≡◌, ◌<◌, ℕ, false, List, [], ◌∷◌, length, take, refl, arith}
use Rattle.std.specs.Prelude.{codes, bytes_eq}
use Rattle.std.proofs.lemmas.Grind.{common_steps}
use Rattle.network_tables.proofs.fields.flags.Goals as goal

short : (xs : List ℕ) → length xs < 2 → bytes_eq (take 2 xs) (codes "0x") ≡ false
short [] h = refl
short (x ∷ []) h = grind (arith, common_steps)
short (x ∷ y ∷ xs) h = absurd (omega arith)

pub returns-then-field-lt2 : goal.returns-then-field-lt2
returns-then-field-lt2 c = rw (short c.args.field.now c.if-field-lt2.true) refl
