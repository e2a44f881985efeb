use Rattle.std.proofs.Common.{◌∙◌, sym, ap}
use Rattle.std.specs.Result.{is_ok}
use Rattle.std.proofs.lemmas.Bool.{true≢false}
use Rattle.uuid.specs.Text.{parsed}
use Rattle.cmd_words.proofs.Texts.{none_unless_found}
use Rattle.cmd_words.proofs.arguments.cid_of.Goals as goal

pub returns-in-Err : goal.returns-in-Err
returns-in-Err c = none_unless_found (parsed c.args.text.now)
    (λ found. absurd (true≢false (sym (c.parse_str.ensures.ok.1 found) ∙ ap is_ok c.in-Err.is)))
