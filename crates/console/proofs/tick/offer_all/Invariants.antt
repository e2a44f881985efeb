use Rattle.std.proofs.Common.{◌≡◌, ◌≤◌, ◌<◌, ℕ, List, ◌∷◌, length, take, get_or}
use Rattle.std.specs.Prelude.{map}
use Rattle.desk_core.specs.Played.{Act, tick_at}
use Rattle.sacn_source.specs.Stands as streams
use Rattle.console.specs.Offering.{OffersDues}
use Rattle.console.specs.Stands.{HasStream, HasStreams, IsMidTick}
use Rattle.console.specs.Streams.{Production, due_at}
use Rattle.console.proofs.tick.offer_all.Given as goal

-- the universes so far have had their offers, and the others have not
abbrev pub invariant-loop-universe : goal.invariant-loop-universe
invariant-loop-universe g l = record {
  told : g.L.Link.tells l.link → g.L.Link.tells l.fn.link;
  count : length l.offers ≡ l.universe-index;
  lanes : streams.lane_universes l.sender ≡ l.universe-items;
  so_far : (p : Production) (older : List Act)
      → IsMidTick g.F.Fader.stands_for p l.desk older l.moment l.answer
      → HasStreams p l.fn.sender older → record {
        done : (j : ℕ) → j < l.universe-index
            → HasStream p l.sender (tick_at l.moment ∷ older) (get_or l.universe-items j 0);
        left : (j : ℕ) → l.universe-index ≤ j → j < length l.universe-items
            → HasStream p l.sender older (get_or l.universe-items j 0);
        offered : g.L.Link.tells l.link → OffersDues p.source
            (map (due_at p older l.moment) (take l.universe-index l.universe-items)) l.offers
            (g.L.Link.offered l.fn.link) (g.L.Link.offered l.link);
      };
}
