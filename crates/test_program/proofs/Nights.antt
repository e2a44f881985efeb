-- Nights that were opened.
use Rattle.std.proofs.Common.{ℕ, List, [], Result, Ok, Err}
use Rattle.std.specs.Prelude.{IfOk}
use Rattle.fade_core.specs.Level.{Start}
use Rattle.sacn_source.specs.Identity.{Identity}
use Rattle.console.specs.Streams.{Production}
use Rattle.cmd_live.specs.declared.night.Night.{Night}
use Rattle.cmd_live.specs.Beginning.{HasTakenUp, OpensNight}
use Rattle.cmd_live.specs.Stands.{IsPlayable}

module _ {F : Type 0} (sf : F → List Start → Type 0) (show : List ℕ) (base : ℕ)
    (source : Identity) where
  pub can_follow : (night : Night F) → OpensNight sf night show base source
      → (p : Production) × HasTakenUp sf p night
  can_follow night opened =
      let stands = opened.stands in
      (_, record { lines = []; stands = stands.1 stands.0.0 stands.0.1; are_recalled = tt })

  pub playable : (night : Night F) → OpensNight sf night show base source → IsPlayable sf night
  playable night opened =
      let stands = opened.stands in
      ((_, [], stands.1 stands.0.0 stands.0.1), opened.ready.none_lost)

  pub if_playable : {E : Type 0} (r : Result (Night F) E)
      → IfOk r (λ night. OpensNight sf night show base source) → IfOk r (IsPlayable sf)
  if_playable (Ok night) opened = playable night opened
  if_playable (Err e) opened = tt
