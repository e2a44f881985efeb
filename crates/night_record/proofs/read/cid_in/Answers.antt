use Rattle.std.proofs.Common.{◌∙◌, sym, ap}
use Rattle.std.specs.Result.{is_ok}
use Rattle.std.proofs.lemmas.Bool.{true≢false}
use Rattle.uuid.specs.Text.{parsed}
use Rattle.night_record.proofs.ReadBack.{none_unless_found}
use Rattle.night_record.proofs.read.cid_in.Goals as goal

pub returns-in-Err : goal.returns-in-Err
returns-in-Err c = none_unless_found (parsed c.args.text.now)
    (λ found. absurd (true≢false
    (sym (c.try_parse_ascii.ensures.ok.1 found) ∙ ap is_ok c.in-Err.is)))
