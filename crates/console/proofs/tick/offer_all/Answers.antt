use Rattle.std.proofs.Common.{◌∙◌, ◌∷◌, ◌<◌, [], ℕ, List, length, length-append, get_or, append-nil}
use Rattle.std.proofs.Common.{arith, refl, sym, subst}
use Rattle.std.specs.Prelude.{All}
use Rattle.std.proofs.lemmas.List.{map_more, take_all}
use Rattle.std.proofs.lemmas.List.Elements.{All-from_get_or}
use Rattle.std.proofs.lemmas.List.Kept.{AllPairs-from_increasing}
use borrow.Author.Count.{below_more}
use Rattle.console.specs.Offering.{none}
use Rattle.desk_core.specs.Played.{tick_at}
use Rattle.console.specs.Stands.{HasStream}
use Rattle.console.specs.Streams.{due_at}
use Rattle.console.proofs.Ticks.{numbers_are, offers_more}
use Rattle.console.proofs.tick.offer_all.Goals as goal

pub loop-universe-init : goal.loop-universe-init
loop-universe-init g c =
    let value = c.as_slice-universe-items.ensures.value in
    let numbers = c.universes-universes.ensures.numbers in
    rw c.new-offers.ensures (record {
      told = λ t. t;
      count = refl;
      lanes = rw (numbers_are c.requires.real.2 value numbers) c.requires.real.3.universes_are;
      so_far = λ p older tick streams. record {
        done = λ j lt. absurd (omega arith);
        left = λ j above. rw (← numbers_are tick value numbers) at streams.streams j 0;
        offered = λ tells. record { sends = []; are_offered = none; after_is = sym (append-nil _) };
      };
    })

pub offer-offered-requires-clause-real : goal.offer-offered-requires-clause-real
offer-offered-requires-clause-real g c =
    let r = c.requires.real in
    let s = c.loop-universe.invariant.so_far r.0 r.1 r.2 r.3 in
    (r.0, r.1, r.2, s.left c.loop-universe.universe-index (omega arith) c.loop-universe-test.true)

pub loop-universe-preserved : goal.loop-universe-preserved
loop-universe-preserved g c =
    let us : List ℕ = c.as_slice-universe-items.result.now in
    let i : ℕ = c.loop-universe.universe-index in
    let inside : i < length us = c.loop-universe-test.true in
    let rises = AllPairs-from_increasing us
    (rw c.as_slice-universe-items.ensures.value c.universes-universes.ensures.ascending) in
    let now = c.offer-offered.ensures in
    rw c.push.ensures (record {
      told = λ t. c.loop-universe.invariant.told (now.told t);
      count = rw length-append (omega (arith, c.loop-universe.invariant.count));
      lanes = now.universes ∙ c.loop-universe.invariant.lanes;
      so_far = λ p older tick streams.
          let s = c.loop-universe.invariant.so_far p older tick streams in
          let had = s.left i (omega arith) inside in
          record {
            done = below_more (λ j. HasStream p c.offer-offered.new.sender
                (tick_at c.args.moment ∷ older) (get_or us j 0)) i
                (λ j lt. rw (now.others (get_or us j 0)
                (λ e. omega (arith, rises j i 0 lt inside, e))) (s.done j lt))
                (now.stands p older tick had);
            left = λ j above within. rw (now.others (get_or us j 0)
                (λ e. omega (arith, rises i j 0 (omega arith) within, e)))
                (s.left j (omega arith) within);
            offered = λ tells. rw (map_more (due_at p older c.args.moment) us i 0 inside)
                (offers_more c.offer-offered.result (due_at p older c.args.moment (get_or us i 0))
                _ refl (s.offered (now.told tells)) (now.offered p older tick had tells));
          };
    })

pub returns-clause-stands : goal.returns-clause-stands
returns-clause-stands g c = λ p older tick streams.
    let s = c.loop-universe.invariant.so_far p older tick streams in
    let all = numbers_are tick c.as_slice-universe-items.ensures.value
    c.universes-universes.ensures.numbers in
    let has = HasStream p c.loop-universe.sender (tick_at c.args.moment ∷ older) in
    record {
      universes_are = c.loop-universe.invariant.lanes ∙ all;
      streams = subst (All has) all (All-from_get_or has _ 0 (λ j inside. s.done j (omega arith)));
    }

pub returns-clause-offered : goal.returns-clause-offered
returns-clause-offered g c = λ p older tick streams tells.
    let all = numbers_are tick c.as_slice-universe-items.ensures.value
    c.universes-universes.ensures.numbers in
    rw (take_all c.loop-universe.universe-index _ c.loop-universe-test.false, all)
    at (c.loop-universe.invariant.so_far p older tick streams).offered tells
