use Rattle.std.proofs.Common.{rules, tests, ◌∙◌}
use Rattle.std.proofs.lemmas.Iterator.{YieldsList-from_slice}
use Rattle.std.proofs.lemmas.Iterator.Search.{find_from_yields_List}
use Rattle.network_tables.specs.Tables.{is_called}
use Rattle.network_tables.proofs.table.Cards.of_name.Goals as goal

pub returns : goal.returns
returns c = c.copied.ensures
    ∙ find_from_yields_List (λ card. is_called c.args.name.now card.name) _ _ c.find.result
    c.find.ensures.ran (YieldsList-from_slice c.args.self.now.rows.items cc)
    (λ x b q k. search (rules, tests))
