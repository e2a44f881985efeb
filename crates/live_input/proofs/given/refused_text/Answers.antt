use Rattle.live_input.proofs.Terms.{◌∙◌, ℕ, List, length, map, take, ap, take_all, take_min}
use Rattle.live_input.proofs.Terms.{min_comm, printable}
use Rattle.live_input.proofs.given.refused_text.Goals as goal

pub returns : goal.returns
returns c =
    let line : List ℕ = c.args.line.now in
    c.loop-byte.invariant
    ∙ ap (map printable) (take_all c.loop-byte.byte-index _ c.loop-byte-test.false)
    ∙ ap (λ n. map printable (take n line)) (c.min.ensures ∙ min_comm (length line) 200)
    ∙ ap (map printable) (take_min 200 line)
