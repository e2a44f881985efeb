use Rattle.std.proofs.Common.{◌++◌, ◌∷◌, [], ◌∙◌, option_map, refl, sym, ap}
use Rattle.byte_reading.proofs.SoFar.{no_line, one_line}
use Rattle.network_tables.specs.Routes.{name_seen}
use Rattle.network_tables.specs.Tables.{row_name, with_other}
use Rattle.network_tables.specs.declared.table.Cards.{Cards}
use Rattle.network_tables.proofs.TablesRead.{named_more, others_more, unnamed_more}
use Rattle.network_tables.proofs.card_tables.add_others.Goals.{in-Some-row_name}
use Rattle.network_tables.proofs.card_tables.add_others.Goals.{in_default-row_name}
use Rattle.network_tables.proofs.card_tables.add_others.Goals as goal

pub loop-init : goal.loop-init
loop-init g c = no_line c.args.table.now ([], refl, refl)

pub loop-preserved : goal.loop-preserved
loop-preserved g c =
    let line = c.in-Some.line.bytes in
    let says = c.row_name.ensures ∙ ap row_name
    (c.as_bytes.ensures.value ∙ c.as_str.ensures.value) in
    one_line c.next_line.new.self line c.loop.invariant c.in-Some.ensures.some
    c.next_line.ensures.same (λ lines holds. elim c.match-row_name.branch [
      | in-Some-row_name w ↦ (
        holds.0 ++ w.in-Some-row_name.name ∷ [],
        named_more lines holds.0 line w.in-Some-row_name.name holds.1
            (ap (option_map name_seen) (sym w.in-Some-row_name.is) ∙ says),
        ap (λ (cards : Cards). cards.rows.items) w.cards-is ∙ w.add_other.ensures
            ∙ ap (λ rows. with_other rows w.in-Some-row_name.name) holds.2
            ∙ sym (others_more c.args.cards.now.rows.items holds.0 w.in-Some-row_name.name),
      )
      | in_default-row_name w ↦ (
        holds.0,
        unnamed_more lines holds.0 line holds.1
            (ap (option_map name_seen) (sym w.in_default-row_name.is) ∙ says),
        ap (λ (cards : Cards). cards.rows.items) w.cards-is ∙ holds.2,
      )
    ])
