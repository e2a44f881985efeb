use Rattle.std.proofs.Common.{◌≡◌, ◌≤◌, arith, subst}
use Rattle.wire_world.specs.Shelves.{KeepsFrom}
use Rattle.wire_world.proofs.Terms.{scaled_Fits, length-set, slice_get-get_or, slice_get_within}
use Rattle.wire_world.proofs.Terms.{Deliver, StageStands, LinkTells, console_at, acts, gone_of}
use Rattle.wire_world.proofs.Events.{all_set, tell_set}
use Rattle.wire_world.proofs.releasing.release.Goals as goal

pub returns-then-i-stages : goal.returns-then-i-stages
returns-then-i-stages g c =
    let i = c.from-i.result in
    let at = slice_get-get_or c.args.stages.now i c.index-stages-i.result c.if-i-stages.true in
    record {
      tell = λ all. tell_set LinkTells c.args.stages.now i c.release.new.self
          (c.release.ensures.tells (all i _ at)) all;
      stand = λ w past all. record {
        each = omega (arith, length-set c.args.stages.now i c.release.new.self, all.each);
        stand = all_set (λ j s. StageStands g.F.Fader.stands_for s (console_at w j) (acts w j past))
            c.args.stages.now i c.release.new.self
            (c.release.ensures.stands _ _ (all.stand i _ at)) (λ j s _. all.stand j s);
      };
      holds = λ later h spared r j u n s e found. all_set (λ j s. later ≡ Deliver r j u n
          → (gone_of s.shelves.items u ≤ n) × (n ≤ s.last)) c.args.stages.now i
          c.release.new.self (λ e. let was = h r i u n _ e at in (
            c.release.ensures.gone u n was.0 (λ same. spared _ _ _ _ r n c.in-Deliver.is (cc)),
            omega (arith, c.release.ensures.last, was.1),
          )) (λ j s _ at e. h r j u n s e at) j s found e;
      left = λ r j u n s e found. all_set (λ j s. c.args.what ≡ Deliver r j u n
          → KeepsFrom s.shelves.items u c.args.low) c.args.stages.now i c.release.new.self
          (λ e. let same : c.in-Deliver.universe ≡ u = cc in
          subst (λ u. KeepsFrom c.release.new.self.shelves.items u c.args.low) same
          c.release.ensures.left)
          (λ j s other _ e. absurd (other (cc))) j s found e;
    }

pub returns-else-i-stages-clause-left : goal.returns-else-i-stages-clause-left
returns-else-i-stages-clause-left g c = λ r j u k s is at.
    let same : c.in-Deliver.console ≡ j = cc in
    let within = slice_get_within c.args.stages.now j s at in absurd (omega arith)

pub offset_bounds-stages-i : goal.offset_bounds-stages-i
offset_bounds-stages-i g c = search scaled_Fits
