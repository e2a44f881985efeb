use Rattle.std.proofs.Common.{map, ◌∙◌, ap, option_map}
use Rattle.clap.specs.Words.{app_of, found_of, rows_of}
use Rattle.cmd_words.proofs.WordsLemmas.{answered, explained, named_line, passes_words, whole_line}
use Rattle.cmd_words.proofs.read.read_or_explain.Goals as goal

pub returns-in-Err-clause-err : goal.returns-in-Err-clause-err
returns-in-Err-clause-err g c =
    explained (app_of c.in-Ok.program) _ c.in-Err.error c.refusal.result c.in-Ok.ensures
    c.in-Err.ensures.passes c.in-Err.ensures.kinds c.refusal.ensures

pub read_line-requires : goal.read_line-requires
read_line-requires g c =
    let parse = c.in-Ok-try_get_matches_from in
    let words = map g.S.AsStr.text c.args.words.now in
    let line = c.unwrap.result in
    whole_line words (line.0.now, rows_of (found_of line.1.now))
    (passes_words (app_of c.in-Ok.program) words c.in-Ok.ensures parse.ensures.kinds)
    (named_line (app_of c.in-Ok.program) words parse.matches c.subcommand.result c.in-Ok.ensures
    parse.ensures.matches c.subcommand.ensures.name c.subcommand.ensures.rows
    ∙ ap (option_map (λ p. (p.0.now, rows_of (found_of p.1.now)))) c.unwrap.ensures)

pub returns-clause-ok : goal.returns-clause-ok
returns-clause-ok g c =
    let parse = c.in-Ok-try_get_matches_from in
    let words = map g.S.AsStr.text c.args.words.now in
    let line = c.unwrap.result in
    (answered words (line.0.now, rows_of (found_of line.1.now)) c.read_line.result
    (passes_words (app_of c.in-Ok.program) words c.in-Ok.ensures parse.ensures.kinds)
    (named_line (app_of c.in-Ok.program) words parse.matches c.subcommand.result c.in-Ok.ensures
    parse.ensures.matches c.subcommand.ensures.name c.subcommand.ensures.rows
    ∙ ap (option_map (λ p. (p.0.now, rows_of (found_of p.1.now)))) c.unwrap.ensures)
    c.read_line.ensures).0

pub returns-clause-err : goal.returns-clause-err
returns-clause-err g c =
    let parse = c.in-Ok-try_get_matches_from in
    let words = map g.S.AsStr.text c.args.words.now in
    let line = c.unwrap.result in
    (answered words (line.0.now, rows_of (found_of line.1.now)) c.read_line.result
    (passes_words (app_of c.in-Ok.program) words c.in-Ok.ensures parse.ensures.kinds)
    (named_line (app_of c.in-Ok.program) words parse.matches c.subcommand.result c.in-Ok.ensures
    parse.ensures.matches c.subcommand.ensures.name c.subcommand.ensures.rows
    ∙ ap (option_map (λ p. (p.0.now, rows_of (found_of p.1.now)))) c.unwrap.ensures)
    c.read_line.ensures).1
