-- The lines that a play carries out.
use Rattle.std.specs.Prelude.{◌≡◌, ◌≤◌, ℕ, false, List, length, All}
use Rattle.console.specs.Spelling.{is_malformed, reading_of}

-- no line is malformed or has more than 200 bytes, and there are at most 10,000,000
pub record ArePlayLines (lines : List (List ℕ)) : Type 0 where
  pub none_malformed : All (λ line. is_malformed (reading_of line) ≡ false) lines
  pub none_long : All (λ line. length line ≤ 200) lines
  pub few : length lines ≤ 10000000
