use Rattle.std.proofs.Common.{arith, [], ◌∷◌, ◌∙◌, ap, refl, sym, not, nat_eq}
use Rattle.std.proofs.Math.Facts.{Fits-lt-pow}
use Rattle.sacn_packet.proofs.Differs.{after_first, other_number}
use Rattle.sacn_packet.proofs.Parts.{two_bytes}
use Rattle.sacn_packet.proofs.reader.has_other_form.Goals as goal

pub returns-else-differs_from : goal.returns-else-differs_from
returns-else-differs_from c =
    ap (λ n. not (nat_eq n 1)) c.number_at.ensures
    ∙ other_number c.args.datagram.now 121 2 1 (omega arith)
    (λ i. Fits-lt-pow (c.type_inv.datagram i)) two_bytes (omega arith) refl
    ∙ after_first c.args.datagram.now 117 (0x02 ∷ 0xa1 ∷ 0 ∷ 0 ∷ []) (0 ∷ 1 ∷ [])
    (sym c.differs_from.ensures ∙ c.if-differs_from.false)
