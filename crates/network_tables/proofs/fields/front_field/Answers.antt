use Rattle.std.proofs.Common.{◌≡◌, drop, ap, ◌∙◌}
use Rattle.std.specs.List.{prefix_len}
use Rattle.network_tables.specs.Fields.{is_blank}
use Rattle.network_tables.proofs.FrontFields.{front_is}
use Rattle.network_tables.proofs.fields.front_field.Goals as goal

pub returns-clause-front : goal.returns-clause-front
returns-clause-front c =
    let line = c.args.line.now in
    let rest : c.split_at.result.1.now ≡ drop (prefix_len is_blank line) line
    = c.split_at.ensures.back ∙ ap (λ n. drop n line) c.blanks.ensures.count in
    rw (c.split_at-2.ensures.front, c.field_end.ensures.place, rest) (front_is line).front

pub returns-clause-behind : goal.returns-clause-behind
returns-clause-behind c =
    let line = c.args.line.now in
    let rest : c.split_at.result.1.now ≡ drop (prefix_len is_blank line) line
    = c.split_at.ensures.back ∙ ap (λ n. drop n line) c.blanks.ensures.count in
    rw (c.split_at-2.ensures.back, c.field_end.ensures.place, rest) (front_is line).behind
