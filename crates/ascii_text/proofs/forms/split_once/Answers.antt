use Rattle.std.proofs.Common.{◌<◌, length, sym, ◌∙◌, arith}
use Rattle.std.specs.Prelude.{◌==◌}
use Rattle.std.specs.List.{position_or_len}
use Rattle.std.proofs.lemmas.List.{take_rest}
use Rattle.ascii_text.proofs.Marks.{list_any-none, list_any-some}
use Rattle.ascii_text.proofs.forms.split_once.Goals as goal

pub returns-then-end-word : goal.returns-then-end-word
returns-then-end-word c =
    list_any-none _ _ (sym c.position_or_len-end.ensures.place ∙ c.if-end-word.true)

pub returns-else-end-word : goal.returns-else-end-word
returns-else-end-word c =
    let place = c.position_or_len-end.ensures.place in
    let inside : position_or_len (λ b. b == c.args.mark) c.args.word.now < length c.args.word.now =
    omega arith in
    (list_any-some _ _ inside, rw place, rw (take_rest, place))
