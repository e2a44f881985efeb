use Rattle.std.proofs.Common.{rules, ap, sym, Ok, Err}
use Rattle.std.specs.Prelude.{unwrap_or}
use Rattle.std.specs.Ordering.{nat_cmp}
use Rattle.std.proofs.lemmas.Cmp.{nat_cmp_total}
use Rattle.std.proofs.lemmas.List.Sorted.{answers_always}
use Rattle.show_core.proofs.Sorted.{searched, find_at, find_gap}
use Rattle.fade_core.proofs.plain.byte_in.Goals as goal

pub returns-in-Ok : goal.returns-in-Ok
returns-in-Ok c =
    let look = c.args.look.now in
    let facts = c.in-Ok.ensures in
    let by_key = facts.position (λ pair. pair.0)
    (answers_always _ _ _ (λ f a r h called. search rules)) in
    let at = searched nat_cmp nat_cmp_total look c.args.channel c.requires (Ok c.in-Ok.place)
    facts.bound by_key in
    sym (ap (λ byte. unwrap_or byte 0)
    (find_at nat_cmp nat_cmp_total look c.args.channel c.in-Ok.place (0, 0) at.found))

pub returns-in-Err : goal.returns-in-Err
returns-in-Err c =
    let look = c.args.look.now in
    let facts = c.in-Err.ensures in
    let by_key = facts.position (λ pair. pair.0)
    (answers_always _ _ _ (λ f a r h called. search rules)) in
    let at = searched nat_cmp nat_cmp_total look c.args.channel c.requires (Err c.in-Err.field-0)
    facts.bound by_key in
    sym (ap (λ byte. unwrap_or byte 0)
    (find_gap nat_cmp nat_cmp_total look c.args.channel c.in-Err.field-0 at.absent))
