use Rattle.std.proofs.Common.{◌≡◌, ◌∙◌, ap, arith, sym}
use Rattle.std.proofs.lemmas.Grind.{common_steps}
use Rattle.ascii_text.specs.Text.{lines_of, numbered_from}
use Rattle.night_files.proofs.LockSearch.{found, numbered}
use Rattle.night_files.proofs.lock_list.locking_process.Goals as goal

pub loop-line-init : goal.loop-line-init
loop-line-init c =
    let lines = lines_of c.args.list.now in
    let given : c.into_iter-line-iterator.result ≡ numbered_from 1 lines
    = grind (arith, common_steps) in
    sym (numbered c.args.node.now 1 lines) ∙ ap (found c.args.node.now) (sym given)
