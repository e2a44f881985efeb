-- The lines that a watch takes.
use Rattle.std.specs.Prelude.{ℕ, ◌≤◌, ◌≢◌, List, length, All}
use Rattle.cmd_listen.specs.Reading.{malformed, spelled_in}

-- no line is malformed or has more than 3,072 bytes, and there are at most 4,000,000,000
pub record AreWatchLines (lines : List (List ℕ)) : Type 0 where
  pub none_malformed : All (λ line. spelled_in line ≢ malformed) lines
  pub none_long : All (λ line. length line ≤ 3072) lines
  pub few : length lines ≤ 4000000000
