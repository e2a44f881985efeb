use Rattle.std.proofs.Common.{◌++◌, ap, ◌∙◌, take}
use Rattle.night_record.proofs.Parting.{front_room}
use Rattle.night_record.proofs.lines.keep_front.Goals as goal

pub returns : goal.returns
returns g c =
    let kept = c.args.kept.now.items in
    let bytes = c.args.bytes.now in
    c.push.ensures ∙ (ap (λ room. kept ++ take room bytes) c.min-room.ensures
    ∙ front_room _ c.remaining_capacity.result kept bytes c.remaining_capacity.ensures)
