use Rattle.cmd_play.proofs.Terms.{◌+◌, ◌++◌, ap, sym, ◌∙◌, take, drop, take-append-drop, drop_more}
use Rattle.cmd_play.proofs.Terms.{take_all, take_more}
use Rattle.cmd_play.proofs.Faults.{handed_on}
use Rattle.cmd_play.proofs.Taking.{ended_behind, taken_more}
use Rattle.cmd_play.proofs.stage.Stage.take_bytes.Goals as goal

pub take_byte-requires : goal.take_byte-requires
take_byte-requires g c =
    let r = c.requires.real in
    record { real = (r.0, _, c.loop-byte.invariant.taken.stands r.0 r.1 r.2) }

pub loop-byte-preserved : goal.loop-byte-preserved
loop-byte-preserved g c =
    let so_far = c.loop-byte.invariant in
    let next = c.in_ok-take_byte.ensures in
    record {
      told = (λ t. so_far.told.0 (next.told.0 t), λ t. so_far.told.1 (next.told.1 t));
      taken = rw (take_more c.args.bytes.now c.loop-byte.byte-index 0 c.loop-byte-test.true)
          (taken_more next.told so_far.taken next.taken);
    }

pub returns-in_err-take_byte-clause-ended : goal.returns-in_err-take_byte-clause-ended
returns-in_err-take_byte-clause-ended g c =
    let xs = c.args.bytes.now in
    let i = c.loop-byte.byte-index in
    let next = c.in_err-take_byte.ensures in
    let split = drop_more xs i 0 c.loop-byte-test.true in
    handed_on _ _ c.from_residual.ensures.1 (ended_behind (drop (i + 1) xs) xs
    (sym (take-append-drop i xs) ∙ ap (λ l. take i xs ++ l) split) next.told
    c.loop-byte.invariant.taken next.ended)

pub returns-clause-told : goal.returns-clause-told
returns-clause-told _ c = c.loop-byte.invariant.told

pub returns-clause-taken : goal.returns-clause-taken
returns-clause-taken _ c =
    rw (← take_all c.loop-byte.byte-index c.args.bytes.now c.loop-byte-test.false)
    c.loop-byte.invariant.taken
