use Rattle.std.proofs.Common.{rules, tests, ◌∙◌}
use Rattle.std.proofs.lemmas.Iterator.{YieldsList-from_slice}
use Rattle.std.proofs.lemmas.Iterator.Search.{find_from_yields_List}
use Rattle.network_tables.specs.Tables.{has_address}
use Rattle.network_tables.proofs.table.Cards.of_address.Goals as goal

pub returns : goal.returns
returns c = c.copied.ensures
    ∙ find_from_yields_List (λ card. has_address c.args.address card.address) _ _ c.find.result
    c.find.ensures.ran (YieldsList-from_slice c.args.self.now.rows.items cc)
    (λ x b q k. search (rules, tests))
