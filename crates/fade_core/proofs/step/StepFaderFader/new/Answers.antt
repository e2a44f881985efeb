use Rattle.std.proofs.Common.{rules, ◌≡◌, ℕ, ◌-◌, ◌<◌, replicate, arith}
use Rattle.fade_core.proofs.Fade.{split_fade_zeros}
use Rattle.fade_core.proofs.Standing.{fading_new, stands_new}
use Rattle.fade_core.proofs.step.StepFaderFader.new.Goals as goal

pub invariant_of-result : goal.invariant_of-result
invariant_of-result c =
    let n : ℕ = c.args.channel_count in
    let levels : c.in_ok-vec.field-0.items ≡ replicate n 0 = search rules in
    let from : c.in_ok-vec-2.field-0.items ≡ replicate n 0 = search rules in
    let to : c.in_ok-vec-3.field-0.items ≡ replicate n 0 = search rules in
    let moving : c.in_ok-vec-4.field-0.items ≡ replicate n 0 = search rules in
    record {
      fading = fading_new _ n from to c.ranges.channel_count.fits (omega arith);
      stands = stands_new _ _ _ n from to levels moving;
    }

pub returns-clause-stands : goal.returns-clause-stands
returns-clause-stands c = λ channel moment from_one in_range not_before.
    let below : channel - 1 < c.args.channel_count = search rules in
    split_fade_zeros c.in_ok-vec-2.field-0.items c.in_ok-vec-3.field-0.items c.args.channel_count
    (channel - 1) _ _ _ below (search rules) (search rules)
