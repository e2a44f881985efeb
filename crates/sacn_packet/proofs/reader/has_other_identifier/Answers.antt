use Rattle.std.proofs.Common.{ℕ, List, [], ◌∷◌, ◌∙◌, sym}
use Rattle.sacn_packet.proofs.Differs.{after_first}
use Rattle.sacn_packet.proofs.reader.has_other_identifier.Goals as goal
use Rattle.sacn_packet.proofs.reader.has_other_identifier.Goals.{then-differs_from}
use Rattle.sacn_packet.proofs.reader.has_other_identifier.Goals.{else-differs_from}

pub returns-else-differs_from-2 : goal.returns-else-differs_from-2
returns-else-differs_from-2 c =
    let d : List ℕ = c.args.datagram.now in
    elim c.if-differs_from.branch [
      | then-differs_from w ↦ cc
      | else-differs_from w ↦ (
          let first = rw c.from_be_bytes.ensures at c.differs_from.ensures in
          let second = rw w.from_be_bytes-else-differs_from.ensures
          at w.differs_from-else-differs_from.ensures in
          let third = rw c.from_be_bytes-else-differs_from-2.ensures
          at c.differs_from-else-differs_from-2.ensures in
          third
          ∙ after_first d 8 (69 ∷ 49 ∷ 46 ∷ 49 ∷ []) (55 ∷ 0 ∷ 0 ∷ 0 ∷ [])
          (sym second ∙ sym w.value-is ∙ c.if-differs_from-2.false)
          ∙ after_first d 4 (65 ∷ 83 ∷ 67 ∷ 45 ∷ []) (69 ∷ 49 ∷ 46 ∷ 49 ∷ 55 ∷ 0 ∷ 0 ∷ 0 ∷ [])
          (sym first ∙ w.if-differs_from.false))
    ]
