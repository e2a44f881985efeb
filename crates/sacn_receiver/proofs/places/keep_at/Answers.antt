use Rattle.std.proofs.Common.{refl, ap, ◌∙◌, arith, set}
use Rattle.std.proofs.lemmas.List.{map-set, set_split, length-map}
use Rattle.sacn_receiver.specs.Records.{entries, kept_entry}
use Rattle.sacn_receiver.proofs.places.keep_at.Goals as goal

pub returns-in-Some : goal.returns-in-Some
returns-in-Some c =
    map-set kept_entry c.args.records.now.items c.args.place _
    ∙ ap (set (entries c.args.records.now.items) c.args.place) c.keep.ensures
    ∙ set_split (entries c.args.records.now.items) c.args.place _ (omega (
      arith,
      c.in-Some.ensures.variant.0 refl,
      length-map c.args.records.now.items kept_entry,
    ))
