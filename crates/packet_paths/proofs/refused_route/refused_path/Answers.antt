use Rattle.std.proofs.Common.{rules, tests, ◌∙◌}
use Rattle.std.proofs.lemmas.Iterator.{YieldsList-from_slice}
use Rattle.std.proofs.lemmas.Iterator.Search.{find_from_yields_List}
use Rattle.std.specs.Option.{is_some}
use Rattle.link_notices.specs.Paths.{refused_card}
use Rattle.packet_paths.proofs.refused_route.refused_path.Goals as goal

pub returns : goal.returns
returns c = c.copied.ensures
    ∙ find_from_yields_List (λ path. is_some (refused_card path.state c.args.is_named)) _ _
    c.find.result c.find.ensures.ran (YieldsList-from_slice c.args.paths.now cc)
    (λ x b q k. search (rules, tests))
