use Rattle.desk_core.proofs.Terms.{refl, ap, ◌∙◌, slice_get, frames_in, dark_in_a_row}
use Rattle.desk_core.proofs.desk.Desk.open.Goals as goal

pub returns-clause-stands : goal.returns-clause-stands
returns-clause-stands g c = record {
  show_is = c.in_ok-show.ensures.copy;
  base_is = ap (λ r. r.base) c.in_ok-rig.ensures.rig;
  playback_stands = c.in_ok-playback.ensures.stands c.args.show.now;
  masters_stand = c.new-3.ensures;
  moment_is = refl;
  tick_is = refl;
  ended_is = refl;
  frames_are = λ ordinal lt.
      ap (λ slots. slice_get (frames_in slots) ordinal)
      (c.in_ok-slots.ensures.items_if_clones_equal (λ y is. is))
      ∙ dark_in_a_row c.from-3.result ordinal c.from-3.ensures lt;
  floors_are = λ kept. cc;
  kept = λ kept. cc;
}
