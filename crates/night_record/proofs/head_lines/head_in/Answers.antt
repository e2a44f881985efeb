use Rattle.std.proofs.Common.{◌+◌}
use Rattle.std.proofs.lemmas.List.{take_rest}
use Rattle.night_record.proofs.Heads.{head_none, head_one, head_some}
use Rattle.night_record.proofs.head_lines.head_in.Goals as goal

pub returns : goal.returns
returns c =
    let text = c.args.text.now in
    let first = c.in-Some.first in
    head_some text _ first c.in-Some-memchr.second (take_rest text (first + 1)) c.in-Some.ensures
    c.in-Some-memchr.ensures

pub returns-in_default : goal.returns-in_default
returns-in_default c = head_none c.args.text.now c.in_default.ensures

pub returns-in_default-memchr : goal.returns-in_default-memchr
returns-in_default-memchr c =
    let text = c.args.text.now in
    let first = c.in-Some.first in
    head_one text _ first (take_rest text (first + 1)) c.in-Some.ensures
    c.in_default-memchr.ensures
