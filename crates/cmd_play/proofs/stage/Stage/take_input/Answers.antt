use Rattle.cmd_play.proofs.Terms.{◌∙◌, ◌++◌, [], take, refl, sym, ap, inl, inr, with_failure}
use Rattle.cmd_play.proofs.Terms.{with_more-none, no_bytes}
use Rattle.cmd_play.proofs.Faults.{handed_on}
use Rattle.cmd_play.proofs.Playing.{closed_with, ends_behind, plays_all, ran_all}
use Rattle.cmd_play.proofs.Playing.{read_end, read_more}
use Rattle.cmd_play.proofs.Taking.{taken_more, taken_none}
use Rattle.cmd_play.proofs.stage.Stage.take_input.Goals as goal

pub loop-count-init : goal.loop-count-init
loop-count-init g c = record {
  told_input = λ t. t;
  told = (λ t. t, λ t. t);
  bytes = [];
  read = λ t. sym (with_more-none (g.R.Feed.tape c.args.input.now));
  taken = taken_none;
}

pub take_bytes-requires : goal.take_bytes-requires
take_bytes-requires g c =
    let r = c.requires.real in
    record { real = (r.0, _, c.loop-count.invariant.taken.stands r.0 no_bytes r.1) }

pub take_bytes-requires-2 : goal.take_bytes-requires-2
take_bytes-requires-2 g c =
    let r = c.requires.real in
    record { real = (r.0, _, c.loop-count.invariant.taken.stands r.0 no_bytes r.1) }

pub loop-count-preserved : goal.loop-count-preserved
loop-count-preserved g c =
    let so_far = c.loop-count.invariant in
    let next = c.in_ok-take_bytes.ensures in
    record {
      told_input = λ t. so_far.told_input (c.in_ok-count.ensures.told t);
      told = (λ t. so_far.told.0 (next.told.0 t), λ t. so_far.told.1 (next.told.1 t));
      bytes = so_far.bytes ++ take c.in_ok-count.count c.read.new.buf;
      read = read_more _ _ _ so_far.bytes _ c.in_ok-count.ensures.ok c.in_ok-count.ensures.told
          so_far.read;
      taken = taken_more next.told so_far.taken next.taken;
    }

pub returns-in_err-count-clause-ends : goal.returns-in_err-count-clause-ends
returns-in_err-count-clause-ends g c =
    let so_far = c.loop-count.invariant in
    handed_on _ _ c.from_residual.ensures.1 (λ p s tells_in tells_link tells_out. inl (record {
      fault_is = refl;
      bytes = so_far.bytes;
      read = c.in_err-count.ensures.err tells_in
          ∙ ap with_failure (so_far.read (c.in_err-count.ensures.told tells_in));
      fine = (so_far.taken.stands p no_bytes s).fine;
      lost = _;
      ran = ran_all so_far.taken s c.requires.none_lost (tells_link, tells_out);
    }))

pub returns-in_err-take_bytes-clause-ends : goal.returns-in_err-take_bytes-clause-ends
returns-in_err-take_bytes-clause-ends g c =
    let so_far = c.loop-count.invariant in
    let next = c.in_err-take_bytes.ensures in
    handed_on _ _ c.from_residual-in_err-take_bytes.ensures.1 (ends_behind _ _ _
    (so_far.bytes ++ take c.in_ok-count.count c.read.new.buf)
    (read_more _ _ _ so_far.bytes _ c.in_ok-count.ensures.ok c.in_ok-count.ensures.told so_far.read)
    (λ t l e. inl e) c.requires.none_lost next.told so_far.taken next.ended)

pub returns-in_err-take_bytes-2-clause-ends : goal.returns-in_err-take_bytes-2-clause-ends
returns-in_err-take_bytes-2-clause-ends g c =
    let so_far = c.loop-count.invariant in
    let next = c.in_err-take_bytes-2.ensures in
    handed_on _ _ c.from_residual-in_err-take_bytes-2.ensures.1 (ends_behind _ _ _ so_far.bytes
    (read_end _ _ _ so_far.bytes c.read.new.buf c.in_ok-count.count c.if-count-eq0.true
    c.in_ok-count.ensures.ok c.in_ok-count.ensures.told so_far.read)
    (λ t l e. inr (
      c.in_ok-count.ensures.end c.if-count-eq0.true t,
      closed_with so_far.taken c.requires.real.1 c.if-is_empty.false c.is_empty.ensures ∙ e,
    ))
    c.requires.none_lost next.told so_far.taken next.ended)

pub returns-then-is_empty-clause-all : goal.returns-then-is_empty-clause-all
returns-then-is_empty-clause-all g c =
    let so_far = c.loop-count.invariant in
    plays_all _ _ _ so_far.bytes
    (read_end _ _ _ so_far.bytes c.read.new.buf c.in_ok-count.count c.if-count-eq0.true
    c.in_ok-count.ensures.ok c.in_ok-count.ensures.told so_far.read)
    (c.in_ok-count.ensures.end c.if-count-eq0.true)
    (closed_with so_far.taken c.requires.real.1 c.if-is_empty.true c.is_empty.ensures)
    c.requires.none_lost so_far.taken

pub returns-clause-all : goal.returns-clause-all
returns-clause-all g c =
    let so_far = c.loop-count.invariant in
    let next = c.in_ok-take_bytes-2.ensures in
    plays_all _ _ _ so_far.bytes
    (read_end _ _ _ so_far.bytes c.read.new.buf c.in_ok-count.count c.if-count-eq0.true
    c.in_ok-count.ensures.ok c.in_ok-count.ensures.told so_far.read)
    (c.in_ok-count.ensures.end c.if-count-eq0.true)
    (closed_with so_far.taken c.requires.real.1 c.if-is_empty.false c.is_empty.ensures)
    c.requires.none_lost (taken_more next.told so_far.taken next.taken)
