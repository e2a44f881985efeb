-- What holds of universes that are watched, whatever came.
use Rattle.std.specs.Prelude.{◌≡◌, ℕ, List, map, All}
use Rattle.sacn_receiver.specs.Shown.{live}
use Rattle.sacn_receiver.specs.Source.{Entry}
use Rattle.cmd_listen.specs.declared.source.Source.{Source}
use Rattle.cmd_listen.specs.Watching.{watch_after}

-- what a live source and a record of the source rule have in common
pub record Mark : Type 0 where
  pub cid : List ℕ
  pub number : ℕ
  pub moment : ℕ
  pub priority : ℕ

abbrev pub mark_of : Source → Mark
mark_of s = record { cid = s.cid; number = s.number; moment = s.moment; priority = s.priority }

abbrev pub mark_in : Entry → Mark
mark_in e = record { cid = e.cid; number = e.number; moment = e.moment; priority = e.priority }

-- the sources of a universe are the live records of the source rule, after any lines
abbrev pub SourcesAreLive : Type 0
SourcesAreLive =
    (universes : List ℕ) (lines : List (List ℕ)) → let w = watch_after universes lines in
    All (λ k. map mark_of k.sources ≡ map mark_in (live k.heard w.moment)) w.universes
