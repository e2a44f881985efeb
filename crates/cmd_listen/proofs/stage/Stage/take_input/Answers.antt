use Rattle.cmd_listen.proofs.Terms.{◌∙◌, ◌++◌, [], take, refl, sym, ap, inl, inr, with_failure}
use Rattle.cmd_listen.proofs.Terms.{with_more-none, no_bytes}
use Rattle.cmd_listen.proofs.Faults.{handed_on}
use Rattle.cmd_listen.proofs.Taking.{taken_more, taken_none}
use Rattle.cmd_listen.proofs.Whole.{closed_by, ends_behind, last_all, last_ends, pending_of}
use Rattle.cmd_listen.proofs.Whole.{read_end, read_more, told_all}
use Rattle.cmd_listen.proofs.stage.Stage.take_input.Goals as goal

pub loop-count-init : goal.loop-count-init
loop-count-init g c = record {
  told_input = λ t. t;
  told = λ t. t;
  bytes = [];
  read = λ t. sym (with_more-none (g.R.Feed.tape c.args.input.now));
  taken = taken_none;
}

pub loop-count-preserved : goal.loop-count-preserved
loop-count-preserved g c =
    let so_far = c.loop-count.invariant in
    let next = c.in_ok-take_bytes.ensures in
    record {
      told_input = λ t. so_far.told_input (c.in_ok-count.ensures.told t);
      told = λ t. so_far.told (next.told t);
      bytes = so_far.bytes ++ take c.in_ok-count.count c.read.new.buf;
      read = read_more _ _ _ so_far.bytes _ c.in_ok-count.ensures.ok c.in_ok-count.ensures.told
          so_far.read;
      taken = taken_more next.told so_far.taken next.taken;
    }

pub returns-in_err-count-clause-ends : goal.returns-in_err-count-clause-ends
returns-in_err-count-clause-ends g c =
    let so_far = c.loop-count.invariant in
    handed_on _ _ c.from_residual.ensures.1 (λ us s tells_in tells_out. inl (record {
      fault_is = refl;
      bytes = so_far.bytes;
      read = c.in_err-count.ensures.err tells_in
          ∙ ap with_failure (so_far.read (c.in_err-count.ensures.told tells_in));
      fine = (so_far.taken.stands us no_bytes s).fine;
      told = told_all so_far.taken s tells_out;
    }))

pub returns-in_err-take_bytes-clause-ends : goal.returns-in_err-take_bytes-clause-ends
returns-in_err-take_bytes-clause-ends g c =
    let so_far = c.loop-count.invariant in
    let next = c.in_err-take_bytes.ensures in
    handed_on _ _ c.from_residual-in_err-take_bytes.ensures.1 (λ us s. ends_behind _ _ _
    (so_far.bytes ++ take c.in_ok-count.count c.read.new.buf)
    (read_more _ _ _ so_far.bytes _ c.in_ok-count.ensures.ok c.in_ok-count.ensures.told so_far.read)
    (λ t l e. inl e) next.told so_far.taken next.ended s)

pub returns-in_err-take_rest-clause-ends : goal.returns-in_err-take_rest-clause-ends
returns-in_err-take_rest-clause-ends g c =
    let so_far = c.loop-count.invariant in
    let next = c.in_err-take_rest.ensures in
    handed_on _ _ c.from_residual-in_err-take_rest.ensures.1 (λ us s. ends_behind _ _ _ so_far.bytes
    (read_end _ _ _ so_far.bytes c.read.new.buf c.in_ok-count.count c.if-count-eq0.true
    c.in_ok-count.ensures.ok c.in_ok-count.ensures.told so_far.read)
    (λ t l e. inr (
      c.in_ok-count.ensures.end c.if-count-eq0.true t,
      sym (closed_by so_far.bytes _ (pending_of so_far.taken s)) ∙ e,
    ))
    next.told so_far.taken next.ended s)

pub returns-clause-all : goal.returns-clause-all
returns-clause-all g c =
    let so_far = c.loop-count.invariant in
    let next = c.in_ok-take_rest.ensures in
    last_all c.take_last.result so_far.bytes (g.W.Output.tape c.take_last.new.out) _ _ _
    (read_end _ _ _ so_far.bytes c.read.new.buf c.in_ok-count.count c.if-count-eq0.true
    c.in_ok-count.ensures.ok c.in_ok-count.ensures.told so_far.read)
    (c.in_ok-count.ensures.end c.if-count-eq0.true) so_far.taken next.told next.taken
    c.take_last.ensures.told c.take_last.ensures.last

pub returns-clause-ends : goal.returns-clause-ends
returns-clause-ends g c =
    let so_far = c.loop-count.invariant in
    let next = c.in_ok-take_rest.ensures in
    last_ends c.take_last.result so_far.bytes (g.W.Output.tape c.take_last.new.out) _ _ _
    (read_end _ _ _ so_far.bytes c.read.new.buf c.in_ok-count.count c.if-count-eq0.true
    c.in_ok-count.ensures.ok c.in_ok-count.ensures.told so_far.read)
    (c.in_ok-count.ensures.end c.if-count-eq0.true) so_far.taken next.told next.taken
    c.take_last.ensures.told c.take_last.ensures.last
