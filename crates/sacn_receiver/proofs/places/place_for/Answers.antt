use Rattle.std.proofs.Common.{sym, ◌∙◌, true, false}
use Rattle.sacn_receiver.proofs.Taking.{known, new}
use Rattle.sacn_receiver.proofs.places.place_for.Goals as goal

pub returns-then-is_overtaken : goal.returns-then-is_overtaken
returns-then-is_overtaken c =
    known _ c.args.moment _ c.args.number c.requires.room c.requires.apart _
    (sym c.in-Some.ensures) _ true (sym c.if-is_overtaken.true ∙ c.is_overtaken.ensures)

pub returns-else-is_overtaken : goal.returns-else-is_overtaken
returns-else-is_overtaken c =
    known _ c.args.moment _ c.args.number c.requires.room c.requires.apart _
    (sym c.in-Some.ensures) _ false (sym c.if-is_overtaken.false ∙ c.is_overtaken.ensures)

pub returns-in-None : goal.returns-in-None
returns-in-None c =
    new _ c.args.moment c.args.cid.now c.args.number c.requires.room c.requires.apart _
    (sym c.in-None.ensures) c.free_place.ensures
