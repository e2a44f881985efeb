-- A night that follows, line by line.
use Rattle.std.proofs.Common.{◌≡◌, ◌≤◌, ℕ, ◌+◌, true, ap, ◌∙◌, arith, inl, inr, List}
use Rattle.std.proofs.Common.{[], ◌∷◌, ◌++◌, length}
use Rattle.devices.specs.Send.{Send}
use Rattle.fade_core.specs.Level.{Start}
use Rattle.console.specs.Streams.{Production}
use Rattle.live_input.specs.Night.{Happening, answers, is_over}
use Rattle.live_input.specs.Recall.{IsRecalled, recall_of, recall_line}
use Rattle.live_input.specs.Stands as live
use Rattle.cmd_live.specs.declared.follow.Pause.{Pause}
use Rattle.cmd_live.specs.declared.follow.Pause.TheVariants.{Ended}
use Rattle.cmd_live.specs.declared.main_console.Led.{Led}
use Rattle.cmd_live.specs.declared.main_console.Led.TheVariants.{Line}
use Rattle.cmd_live.specs.declared.night.Night.{Night}
use Rattle.cmd_live.specs.Beginning.{IsReady, OffersLine, TakesUp}
use Rattle.cmd_live.specs.Following.{Follows, PausesAt, led_by}
use Rattle.cmd_live.specs.Night.{history_at}
use Rattle.cmd_live.specs.Stands.{StandsFor}
use Rattle.cmd_live.proofs.TakingUp.{takes_none, takes_one}

-- the lines that it was told so far were taken up
pub record IsLed {F : Type 0} (sf : F → List Start → Type 0) (main_before main : Type 0)
    (link_before link : Type 0) (old new : Night F) (given gives : List Led)
    (before after : List Send) (turns : ℕ) : Type 0 where
  pub told_main : main → main_before
  pub told_link : link → link_before
  pub lines : List (List ℕ)
  pub since : List Led
  pub are_lines : led_by lines since
  pub given_is : main → gives ≡ since ++ given
  pub takes : TakesUp sf link old new lines before after
  pub turned : turns ≤ length since

module _ {F : Type 0} (sf : F → List Start → Type 0) (main_before main link_before link : Type 0)
    (old : Night F) (given : List Led) (before : List Send) where
  pub led_none : (gives : List Led) (after : List Send) → (main → main_before)
      → (link → link_before) → IsReady old → (main → gives ≡ given) → (link → after ≡ before)
      → IsLed sf main_before main link_before link old old given gives before after 0
  led_none gives after mains links ready same quiet = record {
    told_main = mains;
    told_link = links;
    lines = [];
    since = [];
    are_lines = tt;
    given_is = same;
    takes = takes_none sf link old before after ready quiet;
    turned = omega arith;
  }

  -- a line more
  pub led_more : (main_next link_next : Type 0) (mid new : Night F) (gives more : List Led)
      (middle after : List Send) (turns : ℕ) (led : Led) (line : List ℕ)
      → IsLed sf main_before main link_before link old mid given gives before middle turns
      → (main_next → main) → (link_next → link) → led_by (line ∷ []) (led ∷ [])
      → (main_next → more ≡ led ∷ gives)
      → ((p : Production) (h : List Happening) → StandsFor sf p mid h
      → StandsFor sf p new (recall_line line h))
      → ((h : List Happening) → live.StandsFor mid.input h → IsRecalled line h)
      → (link_next → (p : Production) (h : List Happening) → StandsFor sf p mid h
      → OffersLine p (history_at p.show h) line middle after)
      → IsReady new
      → IsLed sf main_before main_next link_before link_next old new given more before after
      (turns + 1)
  led_more main_next link_next mid new gives more middle after turns (Line led) line so_far mains
      links is told then recalls offers ready = record {
        told_main = λ tells. so_far.told_main (mains tells);
        told_link = λ tells. so_far.told_link (links tells);
        lines = line ∷ so_far.lines;
        since = Line led ∷ so_far.since;
        are_lines = (is.0, so_far.are_lines);
        given_is = λ tells. told tells ∙ ap (λ all. Line led ∷ all) (so_far.given_is (mains tells));
        takes = takes_one sf link old before link link_next mid new line so_far.lines middle after
            so_far.takes links then recalls offers ready;
        turned = omega (arith, so_far.turned);
      }
  led_more main_next link_next mid new gives more middle after turns _ line so_far mains links is
      told then recalls offers ready = absurd is

takes_where : {F : Type 0} (sf : F → List Start → Type 0) (link tells : Type 0) (old new : Night F)
    (lines : List (List ℕ)) (before after : List Send) → (tells → link)
    → TakesUp sf link old new lines before after → TakesUp sf tells old new lines before after
takes_where sf link tells old new lines before after tell takes = record {
  stands = takes.stands;
  are_recalled = takes.are_recalled;
  follows = λ told. takes.follows (tell told);
  ready = takes.ready;
}

module _ {F : Type 0} (sf : F → List Start → Type 0) (main_before main link_before link : Type 0)
    (old new : Night F) (given gives : List Led) (before after : List Send) (turns : ℕ)
    (so_far : IsLed sf main_before main link_before link old new given gives before after turns)
  where
    -- something else was told
    pub pauses_at : (next : Type 0) (more : List Led) (led : Led) (pause : Pause) → (next → main)
        → (next → more ≡ led ∷ gives)
        → PausesAt sf pause old so_far.lines (led ∷ so_far.since)
        → Follows sf (next × link) pause old new given more before after
    pauses_at next more led pause tell told at = record {
      lines = so_far.lines;
      since = led ∷ so_far.since;
      given_is = λ tells. told tells.0 ∙ ap (λ all. led ∷ all) (so_far.given_is (tell tells.0));
      takes = takes_where sf link (next × link) old new so_far.lines before after (λ tells. tells.1)
          so_far.takes;
      pauses = at;
    }

    -- the night is over behind the lines
    pub over_behind : ((h : List Happening) → live.StandsFor new.input h
        → is_over (answers h) ≡ true)
        → Follows sf (main × link) Ended old new given gives before after
    over_behind is_done = record {
      lines = so_far.lines;
      since = so_far.since;
      given_is = λ tells. so_far.given_is tells.0;
      takes = takes_where sf link (main × link) old new so_far.lines before after (λ tells. tells.1)
          so_far.takes;
      pauses = inr (
        so_far.are_lines,
        inl (λ p older stands. is_done (recall_of (so_far.lines ++ older))
            (so_far.takes.stands p older stands).input_stands),
      );
    }
