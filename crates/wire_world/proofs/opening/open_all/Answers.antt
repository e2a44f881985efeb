use Rattle.std.proofs.Common.{◌≡◌, ◌<◌, length, refl, arith, ap}
use Rattle.std.proofs.lemmas.List.Elements.{All-nil, All-push}
use Rattle.wire_world.proofs.Terms.{scaled_Fits, slice_get_read, Setup}
use Rattle.wire_world.proofs.Events.{opened_more}
use Rattle.wire_world.proofs.opening.open_all.Goals as goal

pub loop-i-preserved : goal.loop-i-preserved
loop-i-preserved g c =
    let setup : Setup = c.index-setups-i.result in
    let here = slice_get_read c.args.setups.now _ c.loop-i.i setup refl c.loop-i-test.true
    c.index-setups-i.is in
    let is = ap (λ (s : Setup). s.show) c.index-setups-i.is in
    let show = slice_get_read c.args.shows.now _ setup.show c.index-shows-setup.result refl
    (omega (arith, c.requires c.loop-i.i setup c.loop-i-test.true, is)) c.index-shows-setup.is in
    rw c.in_ok-push.ensures.items (
      opened_more c.loop-i.invariant.0 here show c.in_ok-stage.ensures.stands,
      All-push (λ stage. stage.last ≡ c.args.last) c.loop-i.stages.items c.in_ok-stage.stage
          c.loop-i.invariant.1 c.in_ok-stage.ensures.last,
    )

pub returns-clause-opened : goal.returns-clause-opened
returns-clause-opened g c =
    let end : c.loop-i.i ≡ length c.args.setups.now =
    omega (arith, c.loop-i-test.false, c.loop-i.auto.i-end) in rw end at c.loop-i.invariant.0

pub loop-i-init : goal.loop-i-init
loop-i-init g c = rw c.new-stages.ensures.items (
  record { long = refl; each = λ i s d e f. cc },
  All-nil _,
)

pub bounds-shows-setup : goal.bounds-shows-setup
bounds-shows-setup g c = let is = ap (λ (s : Setup). s.show) c.index-setups-i.is in
    omega (arith, c.requires c.loop-i.i c.index-setups-i.result c.loop-i-test.true, is)

pub offset_bounds-shows-setup : goal.offset_bounds-shows-setup
offset_bounds-shows-setup g c =
    let is = ap (λ (s : Setup). s.show) c.index-setups-i.is in
    let within : c.index-setups-i.result.show < length c.args.shows.now =
    omega (arith, c.requires c.loop-i.i c.index-setups-i.result c.loop-i-test.true, is) in
    search scaled_Fits

pub returns-clause-last : goal.returns-clause-last
returns-clause-last g c = c.loop-i.invariant.1

pub offset_bounds-setups-i : goal.offset_bounds-setups-i
offset_bounds-setups-i g c = search scaled_Fits
