use Rattle.std.proofs.Common.{◌≡◌, ◌∙◌, sym, subst, true}
use Rattle.clap.specs.Words.{found_of, rows_of}
use Rattle.cmd_words.specs.Program.{rules_of}
use Rattle.cmd_words.specs.Job.{IsJobInRange, job_of_line}
use Rattle.cmd_words.specs.Misfit.{has_texts, misfit_in}
use Rattle.cmd_words.specs.Asked.{AnswersWords}
use Rattle.cmd_words.proofs.WordsLemmas.{last_line}
use Rattle.cmd_words.proofs.read.read_line.Goals as goal

pub read_listen-requires : goal.read_listen-requires
read_listen-requires c =
    let rows = rows_of (found_of c.args.matches.now) in
    subst (λ name. has_texts (rules_of name) rows ≡ true)
    (last_line c.args.line.now c.requires.0 (sym c.eq.ensures ∙ c.if-eq.false)
    (sym c.eq-else-eq.ensures ∙ c.if-eq-2.false) (sym c.eq-else-eq-2.ensures ∙ c.if-eq-3.false)
    (sym c.eq-else-eq-3.ensures ∙ c.if-eq-4.false) (sym c.eq-else-eq-4.ensures ∙ c.if-eq-5.false)
    (sym c.eq-else-eq-5.ensures ∙ c.if-eq-6.false) (sym c.eq-else-eq-6.ensures ∙ c.if-eq-7.false)
    (sym c.eq-else-eq-7.ensures ∙ c.if-eq-8.false) (sym c.eq-else-eq-8.ensures ∙ c.if-eq-9.false))
    c.requires.1

pub returns-else-eq-9 : goal.returns-else-eq-9
returns-else-eq-9 c =
    let rows = rows_of (found_of c.args.matches.now) in
    let is = last_line c.args.line.now c.requires.0 (sym c.eq.ensures ∙ c.if-eq.false)
    (sym c.eq-else-eq.ensures ∙ c.if-eq-2.false) (sym c.eq-else-eq-2.ensures ∙ c.if-eq-3.false)
    (sym c.eq-else-eq-3.ensures ∙ c.if-eq-4.false) (sym c.eq-else-eq-4.ensures ∙ c.if-eq-5.false)
    (sym c.eq-else-eq-5.ensures ∙ c.if-eq-6.false) (sym c.eq-else-eq-6.ensures ∙ c.if-eq-7.false)
    (sym c.eq-else-eq-7.ensures ∙ c.if-eq-8.false) (sym c.eq-else-eq-8.ensures ∙ c.if-eq-9.false) in
    subst (λ name. AnswersWords IsJobInRange (job_of_line (name, rows)) (misfit_in (name, rows))
    c.read_listen.result) (sym is) c.read_listen.ensures
