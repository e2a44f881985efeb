use Rattle.std.proofs.Common.{◌∙◌, ◌<◌}
use Rattle.std.proofs.lemmas.List.Elements.{All-same}
use Rattle.show_core.specs.Readers.{patch_ordinals}
use Rattle.cmd_show.proofs.Packets.{universes_in_range}
use Rattle.cmd_show.proofs.levels.slots_text.Goals as goal

pub universes_text-requires : goal.universes_text-requires
universes_text-requires c =
    let patch = c.args.show.now.patch in
    All-same (λ k. k < 16) c.as_slice.result.now (patch_ordinals patch)
    (c.as_slice.ensures.value ∙ c.universes.ensures) (universes_in_range patch)
