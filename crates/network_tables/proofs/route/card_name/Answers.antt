use Rattle.std.proofs.Common.{arith}
use Rattle.std.proofs.lemmas.Grind.{common_steps}
use Rattle.std.proofs.lemmas.Str.{IsUtf8-from_ascii}
use Rattle.network_tables.proofs.Names.{graphic_ascii}
use Rattle.network_tables.proofs.route.card_name.Goals as goal

pub returns-in-Err : goal.returns-in-Err
returns-in-Err c =
    absurd (c.in-Err.ensures.cases.0 (IsUtf8-from_ascii c.args.field.now
    (graphic_ascii c.args.field.now (grind (arith, common_steps)))))
