use Rattle.std.proofs.Common.{◌≡◌, ◌∷◌, [], Result, Ok, Err, IsErrAnd, IfErr}
use Rattle.std.proofs.Common.{refl, ap, sym, subst, ◌∙◌}
use Rattle.cmd_rehearse.specs.Script.{Parts, parts}
use Rattle.wire_world.specs.Refusing.{setup_fault}
use Rattle.wire_world.specs.Promised.{IsRehearsed}
use Rattle.wire_world.specs.Reported.{RehearsalReport}
use Rattle.cmd_rehearse.specs.Printed.{world}
use Rattle.cmd_faults.specs.declared.fault.RunFault.{RunFault}
use Rattle.wire_world.proofs.Refusals.{no_fault}
use Rattle.cmd_rehearse.proofs.Beginning.{few_receivers, is_read, lines_of, refused}
use Rattle.cmd_rehearse.proofs.Beginning.{set_up, unread}
use Rattle.cmd_rehearse.proofs.night.rehearse_script.Goals as goal

-- what holds of the fault holds of the answer
of_fault : {X : Type 0} (r : Result X RunFault) (fault : RunFault) (P : RunFault → Type 0)
    → IsErrAnd r (λ e. e ≡ fault) → P fault → IfErr r P
of_fault (Ok x) fault P is p = tt
of_fault (Err e) fault P is p = subst P (sym is) p

pub returns-in_err-loaded-clause-fault : goal.returns-in_err-loaded-clause-fault
returns-in_err-loaded-clause-fault g c =
    of_fault c.from_residual.result _ _ c.from_residual.ensures.1
    (unread c.args.show.now c.args.script.now c.in_err-loaded.field-0.0
    c.in_err-loaded.ensures.fault c.in_err-loaded.ensures.sure
    (λ over. let e = c.in_err-loaded.ensures.too_long over in cc))

pub returns-in_err-report-clause-fault : goal.returns-in_err-report-clause-fault
returns-in_err-report-clause-fault g c =
    let s = c.in_ok-loaded.loaded.show in
    let p = parts c.in_ok-script.script in
    let read = is_read c.in_ok-loaded.ensures.faultless c.in_ok-script.ensures.short
    c.in_ok-loaded.ensures.show c.in_ok-script.ensures.script in
    of_fault c.from_residual-in_err-report.result _ _ c.from_residual-in_err-report.ensures.1
    (refused RehearsalReport c.args.show.now c.args.script.now s p
    (setup_fault (s ∷ []) p.consoles p.receivers) c.in_err-report.field-0.0 read refl
    (rw (c.as_slice.ensures.value, c.as_slice-2.ensures.value) at c.in_err-report.ensures.faults))

pub returns : goal.returns
returns g c =
    let s = c.in_ok-loaded.loaded.show in
    let p : Parts = record {
      consoles = c.as_slice.result.now;
      receivers = c.as_slice-2.result.now;
      events = c.as_slice-3.result.now;
      strays = c.as_slice-4.result.now;
      lines = c.in_ok-script.script.lines.items;
    } in
    let same : parts c.in_ok-script.script ≡ p = cc in
    let read = is_read c.in_ok-loaded.ensures.faultless c.in_ok-script.ensures.short
    c.in_ok-loaded.ensures.show (c.in_ok-script.ensures.script ∙ ap Ok same) in
    let report = c.in_ok-report.report in
    let ensures = c.in_ok-report.ensures in
    let none = no_fault (setup_fault (s ∷ []) p.consoles p.receivers) report ensures.faults in
    let rehearsed : IsRehearsed (world s p) p.events report = ensures.rehearsed in
    record {
      set_up = set_up c.args.show.now c.args.script.now s p _ read none;
      lines = lines_of c.args.show.now c.args.script.now s p report read rehearsed.came rehearsed.promised;
      few = few_receivers s p report none rehearsed.came;
      fault = tt;
    }
