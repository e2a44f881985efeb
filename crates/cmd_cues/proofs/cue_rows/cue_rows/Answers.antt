use Rattle.cmd_cues.proofs.Terms.{◌∙◌, ◌<◌, ◌≤◌, ◌∷◌, ◌++◌, [], length, map, take, refl, ap, sym}
use Rattle.cmd_cues.proofs.Terms.{arith, get_or, get_or_default, length-map, map-append, take_all}
use Rattle.cmd_cues.proofs.Terms.{cue_row, entry_at}
use Rattle.std.specs.FinMap as maps
use Rattle.cmd_cues.proofs.cue_rows.cue_rows.Goals as goal

pub loop-number-preserved : goal.loop-number-preserved
loop-number-preserved c =
    let cues = c.args.show.now.cues in
    let es = maps.entries cues in
    let keys = map (λ e. e.0) es in
    let i = c.loop-number.number-index in
    let n = get_or c.deref-number-items.result.now i 0 in
    let numbers = c.deref-number-items.ensures.value ∙ c.in_ok-numbers.ensures in
    let within : i < length es =
    omega (arith, c.loop-number-test.true, ap length numbers, length-map es (λ e. e.0)) in
    let listed : i < length keys = omega (arith, within, length-map es (λ e. e.0)) in
    let at = entry_at cues es i n refl within
    (ap (λ ns. get_or ns i 0) numbers ∙ get_or_default keys i 0 n listed) in
    c.in_ok-push_cue_row.ensures at.0 at.1.found
    ∙ ap (λ rows. rows ++ cue_row (n, at.0) ∷ []) c.loop-number.invariant
    ∙ sym (ap (map cue_row) at.1.more ∙ map-append cue_row (take i es) ((n, at.0) ∷ []))

pub returns : goal.returns
returns c =
    let es = maps.entries c.args.show.now.cues in
    let i = c.loop-number.number-index in
    let past : length es ≤ i = omega (
      arith,
      c.loop-number-test.false,
      ap length c.in_ok-numbers.ensures,
      length-map es (λ e. e.0),
    ) in
    c.loop-number.invariant ∙ ap (map cue_row) (take_all i es past)
