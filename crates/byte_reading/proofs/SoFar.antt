-- What holds of the lines of a text so far, while they are read one by one.
use Rattle.std.proofs.Common.{◌≡◌, ℕ, ◌+◌, ◌-◌, ◌^◌, List, [], ◌∷◌, ◌++◌, Option}
use Rattle.byte_reading.specs.LinesLeft.{bytes_left, source}
use Rattle.byte_reading.specs.ShortLines.{AreRead, GivesLine, GivesNone}
use Rattle.byte_reading.specs.declared.short_lines.ShortLines.{ShortLines}
use Rattle.byte_reading.proofs.ReadLines.{ReadTo, all_read, line_read, none_read, too_many}

-- these lines are read, so many, and this holds of them
pub record SoFar {B : Type 0} (left : B → Option (List ℕ)) (may_fail : B → Type 0)
    (old now : ShortLines B) (n : ℕ) (Holds : List (List ℕ) → Type 0) : Type 0 where
  pub lines : List (List ℕ)
  pub read : ReadTo (bytes_left left old) (bytes_left left now) lines n
  pub same : may_fail (source now) → may_fail (source old)
  pub holds : Holds lines

-- it holds of the lines that are read in all
abbrev pub InAll : {B : Type 0} → (B → Option (List ℕ)) → (B → Type 0) → ShortLines B
    → (List (List ℕ) → Type 0) → Type 0
InAll left may_fail old Holds = (lines : List (List ℕ))
    × AreRead (bytes_left left old) (may_fail (source old)) lines × Holds lines

pub no_line : {B : Type 0} {left : B → Option (List ℕ)} {may_fail : B → Type 0}
    (old : ShortLines B) {Holds : List (List ℕ) → Type 0}
    → Holds [] → SoFar left may_fail old old 0 Holds
no_line {left} old holds = record {
  lines = [];
  read = none_read (bytes_left left old);
  same = λ fails. fails;
  holds = holds;
}

pub one_line : {B : Type 0} {left : B → Option (List ℕ)} {may_fail : B → Type 0}
    {old now : ShortLines B} (new : ShortLines B) {n : ℕ} {Held Holds : List (List ℕ) → Type 0}
    (line : List ℕ) → SoFar left may_fail old now n Held
    → GivesLine (bytes_left left now) (bytes_left left new) line
    → (may_fail (source new) → may_fail (source now))
    → ((lines : List (List ℕ)) → Held lines → Holds (lines ++ line ∷ []))
    → SoFar left may_fail old new (n + 1) Holds
one_line {left} {old} {now} new {n} line so_far gives same more = record {
  lines = so_far.lines ++ line ∷ [];
  read = line_read (bytes_left left old) (bytes_left left now) (bytes_left left new)
      so_far.lines line n so_far.read gives;
  same = λ fails. so_far.same (same fails);
  holds = more so_far.lines so_far.holds;
}

pub no_more : {B : Type 0} {left : B → Option (List ℕ)} {may_fail : B → Type 0}
    {old now : ShortLines B} (new : ShortLines B) {n : ℕ} {Holds : List (List ℕ) → Type 0}
    → SoFar left may_fail old now n Holds
    → GivesNone (bytes_left left now) (bytes_left left new) (may_fail (source now))
    → InAll left may_fail old Holds
no_more {left} {may_fail} {old} {now} new {n} so_far gives = (
  so_far.lines,
  all_read (bytes_left left old) (bytes_left left now) (bytes_left left new) so_far.lines n
      (may_fail (source old)) (may_fail (source now)) so_far.read gives so_far.same,
  so_far.holds,
)

-- a text of more lines than any
pub no_end : {B : Type 0} {left : B → Option (List ℕ)} {may_fail : B → Type 0}
    {old now : ShortLines B} {n : ℕ} {Holds : List (List ℕ) → Type 0}
    → SoFar left may_fail old now n Holds → n ≡ 2 ^ 64 - 1 → InAll left may_fail old Holds
no_end {left} {may_fail} {old} {now} {n} so_far long = (
  so_far.lines,
  too_many (bytes_left left old) (bytes_left left now) so_far.lines n (may_fail (source old))
      so_far.read long,
  so_far.holds,
)
