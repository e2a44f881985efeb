use Rattle.cmd_listen.proofs.Terms.{◌+◌, ◌≡◌, ◌∷◌, length, sym, ap, ◌∙◌, inr, arith, slots_line}
use Rattle.cmd_listen.proofs.Terms.{history_at_0}
use Rattle.cmd_listen.proofs.Histories.{last_moment-history}
use Rattle.cmd_listen.proofs.Listened.{ends, gave_more, slots_failed, took_all, took_more}
use Rattle.cmd_listen.proofs.listening.listen.Goals as goal

pub loop-older-preserved : goal.loop-older-preserved
loop-older-preserved g c =
    let so_far = c.loop-older.invariant in
    let heard = so_far.heard in
    let next = c.in_ok-reply_to_next.ensures in
    let more = next.ok c.args.universe heard.datagrams so_far.universe
    (ap (λ n. n + 1) (sym heard.count_is)) heard.stands in
    record {
      universe = next.universe ∙ so_far.universe;
      told_source = λ tells. so_far.told_source (next.told_source tells);
      told_output = λ tells. so_far.told_output (next.told_output tells);
      heard = record {
        datagrams = more.0 ∷ heard.datagrams;
        count_is = omega (arith, heard.count_is);
        stands = more.1;
        gave = λ tells. gave_more more.0 heard.datagrams _ _ _ (heard.gave (next.told_source tells))
            (more.2 tells);
        took = λ tells. took_more c.args.universe more.0 heard.datagrams _ _ _
            (heard.took (next.told_output tells)) (more.3 tells);
      };
    }

pub slots-requires : goal.slots-requires
slots-requires g c =
    let heard = c.loop-older.invariant.heard in
    omega (arith, heard.stands.latest_is ∙ last_moment-history c.args.universe heard.datagrams)

pub returns-in_err-write-clause-text : goal.returns-in_err-write-clause-text
returns-in_err-write-clause-text g c = λ source_tells output_tells.
    let heard = c.loop-older.invariant.heard in
    let all : length heard.datagrams ≡ c.args.count =
    omega (arith, heard.count_is, c.loop-older-test.false, c.loop-older.auto.older-end) in
    ends c.from_residual-in_err-write.result c.args.universe c.args.count _ _ _ _
    c.from_residual-in_err-write.ensures.1
    (inr (inr (slots_failed c.args.universe c.args.count heard.datagrams _ _ _ _ _ all
    (heard.gave source_tells)
    (heard.took (c.write.ensures.told output_tells)) (c.in_err-write.ensures.err output_tells))))

pub returns-clause-told_output : goal.returns-clause-told_output
returns-clause-told_output g c = λ tells. c.loop-older.invariant.told_output
    (c.write.ensures.told tells)

pub returns-clause-text : goal.returns-clause-text
returns-clause-text g c = λ source_tells output_tells.
    let heard = c.loop-older.invariant.heard in
    let line = c.as_bytes.ensures.value ∙ c.as_str.ensures.value ∙ c.slots_line.ensures
    ∙ ap slots_line (c.slots.ensures (history_at_0 c.args.universe heard.datagrams) heard.stands) in
    record {
      datagrams = heard.datagrams;
      all = omega (arith, heard.count_is, c.loop-older-test.false, c.loop-older.auto.older-end);
      gave = heard.gave source_tells;
      leaves = took_all c.args.universe heard.datagrams _ _ _ _ line
          (heard.took (c.write.ensures.told output_tells)) (c.in_ok-write.ensures.ok output_tells);
    }
