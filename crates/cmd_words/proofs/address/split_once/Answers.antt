use Rattle.std.proofs.Common.{◌≡◌, ◌<◌, ℕ, Bool, true, false, List, length, Option, Some, None}
use Rattle.std.proofs.Common.{MatchOption, Bor}
use Rattle.std.specs.Prelude.{◌==◌}
use Rattle.std.specs.List.{after_first, before_first, list_any, position_or_len}
use Rattle.ascii_text.proofs.Marks.{list_any-none, list_any-some}
use Rattle.cmd_words.proofs.address.split_once.Goals as goal

-- whether a place was found is whether any byte passes
found : (p : ℕ → Bool) (text : List ℕ) (parts : Option (Bor (List ℕ) × Bor (List ℕ)))
    → MatchOption parts (position_or_len p text ≡ length text)
    (λ x. (x.0.now ≡ before_first p text) × (x.1.now ≡ after_first p text)
    × (position_or_len p text < length text))
    → MatchOption parts (list_any p text ≡ false)
    (λ x. (list_any p text ≡ true) × (x.0.now ≡ before_first p text)
    × (x.1.now ≡ after_first p text))
found p text None none = list_any-none p text none
found p text (Some x) some = (list_any-some p text some.2, some.0, some.1)

pub returns : goal.returns
returns c = found (λ b. b == c.args.mark) c.args.text.now c.split_once.result
    (c.split_once.ensures.byte c.requires (λ w o finds. finds))
