use Rattle.std.proofs.Common.{◌≡◌, take}
use Rattle.wire_world.proofs.few_offers.offers_in.Given as goal

-- the offers so far
abbrev pub invariant-loop-universe : goal.invariant-loop-universe
invariant-loop-universe l = l.offers ≡ take l.universe-index l.pairs
