use Rattle.cmd_play.proofs.Terms.{◌≡◌, ◌≤◌, arith, nat_tests}
use Rattle.cmd_play.proofs.Beginning.{of_each}
use Rattle.cmd_play.proofs.run.play.Goals as goal

pub play_lines-requires : goal.play_lines-requires
play_lines-requires g c =
    let stands = c.in_ok-console.ensures.opened.stands in
    record { real = (_, stands.1 stands.0.0 stands.0.1) }

pub returns-in-Ok-eq0-clause-plays : goal.returns-in-Ok-eq0-clause-plays
returns-in-Ok-eq0-clause-plays g c = λ begun tells_in tells_link tells_out.
    let none : c.in-Ok-eq0.field-0 ≡ 0 = grind (arith, nat_tests, c.in-Ok-eq0.field-0-test) in
    of_each c.args.show.now _ _ c.in_ok-console.ensures.opened.stands
    (λ s stands. rw none at (c.in-Ok-eq0.ensures.all _ stands tells_in tells_link tells_out))

pub returns-in-Ok-clause-plays : goal.returns-in-Ok-clause-plays
returns-in-Ok-clause-plays g c = λ begun tells_in tells_link tells_out.
    let some : 1 ≤ c.in-Ok.lost = grind (arith, nat_tests, c.in-Ok.lost-test) in
    of_each c.args.show.now _ _ c.in_ok-console.ensures.opened.stands
    (λ s stands. (some, c.in-Ok.ensures.all _ stands tells_in tells_link tells_out))

pub returns-in-Err-Line-clause-plays : goal.returns-in-Err-Line-clause-plays
returns-in-Err-Line-clause-plays g c = λ begun tells_in tells_link tells_out.
    of_each c.args.show.now _ _ c.in_ok-console.ensures.opened.stands
    (λ s stands. rw c.in-Err-Line.field-0-is at
    (c.in-Err-Line.ensures.ends _ stands tells_in tells_link tells_out))

pub returns-in-Err-Device-clause-plays : goal.returns-in-Err-Device-clause-plays
returns-in-Err-Device-clause-plays g c = λ begun tells_in tells_link tells_out.
    of_each c.args.show.now _ _ c.in_ok-console.ensures.opened.stands
    (λ s stands. rw c.in-Err-Device.field-0-is at
    (c.in-Err-Device.ensures.ends _ stands tells_in tells_link tells_out))
