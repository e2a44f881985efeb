use Rattle.std.proofs.Common.{append_assoc, ◌≡◌, ◌++◌, IfOk, codes, decimal, string_bytes}
use Rattle.cmd_show.proofs.texts.counts_line.Goals as goal

pub returns : goal.returns
returns c =
    let h : IfOk c.format.result
    (λ text. string_bytes text ≡ (codes "lines " ++ (decimal c.args.lines
    ++ (codes " cues " ++ (decimal c.args.counts.cues
    ++ (codes " subs " ++ (decimal c.args.counts.subs
    ++ (codes " groups "
    ++ (decimal c.args.counts.groups ++ (codes " dimmers " ++ (decimal c.args.counts.dimmers
    ++ (codes " skipped " ++ decimal c.args.skipped))))))))))) ++ codes "\n") =
    c.format.ensures.ok in
    simp append_assoc (simp append_assoc at h)
