use Rattle.desk_core.proofs.Terms.{◌∙◌, ap, slice_get, frames_in, dark_in_a_row}
use Rattle.desk_core.proofs.frames.darken.Goals as goal

pub returns : goal.returns
returns c = λ ordinal few.
    ap (λ slots. slice_get (frames_in slots) ordinal) (c.fill.ensures.after (λ y is. is))
    ∙ dark_in_a_row _ ordinal c.requires few
