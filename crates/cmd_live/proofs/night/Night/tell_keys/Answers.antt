use Rattle.std.proofs.Common.{◌∙◌, refl, sym}
use Rattle.cmd_live.proofs.night.Night.tell_keys.Goals as goal

pub returns-then-ignored_keys-clause-tells : goal.returns-then-ignored_keys-clause-tells
returns-then-ignored_keys-clause-tells g c = λ happened stands tells.
    rw (sym (c.ignored_keys.ensures happened stands) ∙ c.if-ignored_keys.true)
    (c.ignore_keys.ensures.ignored tells)

pub returns-else-ignored_keys-clause-tells : goal.returns-else-ignored_keys-clause-tells
returns-else-ignored_keys-clause-tells g c = λ happened stands tells.
    rw (sym (c.ignored_keys.ensures happened stands) ∙ c.if-ignored_keys.false) refl
