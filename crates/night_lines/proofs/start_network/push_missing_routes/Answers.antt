use Rattle.night_lines.specs.StartNetworks.{no_route_told}
use Rattle.night_lines.proofs.Told.{one_more}
use Rattle.night_lines.proofs.start_network.push_missing_routes.Goals as goal

pub loop-path-preserved : goal.loop-path-preserved
loop-path-preserved c = record {
  told = λ tells.
      c.loop-path.invariant.told (c.push_missing_route.ensures.told tells);
  lines = λ tells. one_more no_route_told c.args.paths.now c.loop-path.path-index
      c.path-item.result _ _ _ c.loop-path-test.true c.path-item.is
      (c.loop-path.invariant.lines (c.push_missing_route.ensures.told tells))
      (c.push_missing_route.ensures.line tells);
}
