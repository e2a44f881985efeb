use Rattle.master_core.proofs.Terms.{◌≡◌, ℕ, ◌+◌, ◌-◌, ◌*◌, ◌<◌, ◌≤◌, ◌∷◌, IsTrue, List, get_or, drop}
use Rattle.master_core.proofs.Terms.{subst, ap, ◌∙◌, arith, length, sym, max, nat_cmp, is_sorted}
use Rattle.master_core.proofs.Terms.{drop_more, at_drop_all, length-set, All-set, All-get_or, and_right}
use Rattle.master_core.proofs.Terms.{from_true, to_true}
use Rattle.master_core.proofs.Raised.{byte_in, raised_more, in_place}
use Rattle.master_core.proofs.floors.raise_listed.Goals as goal

pub loop-channel-preserved : goal.loop-channel-preserved
loop-channel-preserved c =
    let pairs : List (ℕ × ℕ) = c.args.pairs.now in
    let i : ℕ = c.loop-channel.channel-index in
    let pair : ℕ × ℕ = get_or pairs i (0, 0) in
    let at : ℕ = c.from-place.result - 1 in
    let left : drop i pairs ≡ pair ∷ drop (i + 1) pairs =
    drop_more pairs i (0, 0) c.loop-channel-test.true in
    let sorted : IsTrue (is_sorted nat_cmp (pair ∷ drop (i + 1) pairs)) =
    subst (λ ps. IsTrue (is_sorted nat_cmp ps)) left c.loop-channel.invariant.sorted in
    let range = in_place pair.0 (c.requires.in_range i (0, 0) c.loop-channel-test.true) in
    let within : at < length c.loop-channel.floors =
    omega (arith, range.0, range.1, c.from-place.ensures, c.requires.each_channel) in
    let next : at + 1 ≡ pair.0 = omega (arith, range.0, c.from-place.ensures) in
    let raised : c.max.result ≡ max (get_or c.loop-channel.floors at 0) (pair.1 * c.args.master) =
    c.max.ensures ∙ ap (max (get_or c.loop-channel.floors at 0)) c.product.ensures.product in
    let was = All-get_or (λ level. level ≤ 65025) c.loop-channel.floors at 0 within
    c.loop-channel.invariant.full in
    record {
      sorted = to_true (and_right _ _ (from_true sorted));
      raised = λ place lt.
          raised_more pair (drop (i + 1) pairs) c.loop-channel.floors at c.max.result c.args.master
          sorted next within raised place
          ∙ ap (λ ps. max (get_or c.loop-channel.floors place 0)
          (byte_in ps (place + 1) * c.args.master)) (sym left)
          ∙ c.loop-channel.invariant.raised place
          (omega (arith, length-set c.loop-channel.floors at c.max.result));
      full = All-set (λ level. level ≤ 65025) c.loop-channel.floors at c.max.result
          (omega (arith, c.max.ensures, c.product.ensures.full, was)) c.loop-channel.invariant.full;
    }

pub returns-clause-full : goal.returns-clause-full
returns-clause-full c = c.loop-channel.invariant.full

pub returns-clause-raised : goal.returns-clause-raised
returns-clause-raised c = λ place lt.
    let none = at_drop_all (λ ps. byte_in ps (place + 1) * c.args.master) c.args.pairs.now
    c.loop-channel.channel-index (omega arith) in
    omega (arith, c.loop-channel.invariant.raised place lt, none)
