use Rattle.patch_core.proofs.Terms.{◌≡◌, ℕ, ◌+◌, ◌-◌, ◌<◌, get_or, length, arith, refl, nat_tests}
use Rattle.patch_core.proofs.Redrawn.{dimmer_range, channel_range}
use Rattle.patch_core.proofs.Sourced.{slot_dark, sources_more, set_below}
use Rattle.patch_core.proofs.sources.write_sources.Goals as goal

pub loop-dimmer-init : goal.loop-dimmer-init
loop-dimmer-init c = record {
  in_range = c.requires.in_range;
  slots = λ p lt level grand.
      rw (c.requires.dark p) (slot_dark (level (get_or c.args.sources.now p 0 + 1)) grand);
}

pub overflow_sub-place : goal.overflow_sub-place
overflow_sub-place c =
    let is = c.requires.numbers c.loop-dimmer.dimmer-index (0, (0, 0)) c.loop-dimmer-test.true in
    grind (arith, nat_tests, is, c.from-place.ensures)

pub overflow_sub-sources : goal.overflow_sub-sources
overflow_sub-sources c =
    let is = c.requires.channels c.loop-dimmer.dimmer-index (0, (0, 0)) c.loop-dimmer-test.true in
    grind (arith, nat_tests, is)

pub bounds-sources-place : goal.bounds-sources-place
bounds-sources-place c =
    let is = c.requires.numbers c.loop-dimmer.dimmer-index (0, (0, 0)) c.loop-dimmer-test.true in
    grind (arith, nat_tests, is, c.from-place.ensures, c.requires.each_source)

pub bounds-bytes-place : goal.bounds-bytes-place
bounds-bytes-place c =
    let is = c.requires.numbers c.loop-dimmer.dimmer-index (0, (0, 0)) c.loop-dimmer-test.true in
    grind (arith, nat_tests, is, c.from-place.ensures, c.requires.each_byte)

pub loop-dimmer-preserved : goal.loop-dimmer-preserved
loop-dimmer-preserved c =
    let i : ℕ = c.loop-dimmer.dimmer-index in
    let e : ℕ × (ℕ × ℕ) = get_or c.args.dimmers.now i (0, (0, 0)) in
    let number = dimmer_range e.0 (c.requires.numbers i (0, (0, 0)) c.loop-dimmer-test.true) in
    let channel = channel_range e.1.0 (c.requires.channels i (0, (0, 0)) c.loop-dimmer-test.true) in
    let at : ℕ = c.from-place.result - 1 in
    let dimmer : at + 1 ≡ e.0 = omega (arith, number, c.from-place.ensures) in
    let room : at < length c.loop-dimmer.sources =
    omega (arith, number, dimmer, c.requires.each_source) in
    let enough : at < length c.loop-dimmer.bytes =
    omega (arith, number, dimmer, c.requires.each_byte) in
    record {
      in_range = set_below 4096 c.loop-dimmer.sources at (e.1.0 - 1) room (omega (arith, channel))
          c.loop-dimmer.invariant.in_range;
      slots = λ p lt level grand.
          sources_more c.args.dimmers.now c.requires.sorted c.loop-dimmer.sources
          c.loop-dimmer.bytes i at (e.1.0 - 1) e.1.1 c.loop-dimmer-test.true
          dimmer (omega (arith, channel)) refl room enough p level grand
          (c.loop-dimmer.invariant.slots p lt level grand);
    }
