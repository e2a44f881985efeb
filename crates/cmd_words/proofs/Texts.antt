-- The texts of arguments, by clap's meaning of the words.
use Rattle.std.proofs.Common.{Option, Some, None, ◌≡◌, ◌∙◌, option_map, refl}
use Rattle.std.specs.Borrow.{Bor}
use Rattle.clap.specs.Words.{Text, first_of, first_value, rows_of}
use Rattle.clap.specs.declared.parser.matches.Found.{Found}
use Rattle.clap.proofs.WalkLemmas.{first_value-rows}

-- what `get_str` reads is the text that the rows have
pub text_is : (text : Option (Bor Text)) (f : Found) (id : Text)
    → option_map (λ s. s.now) text ≡ first_value f id
    → option_map (λ s. s.now) text ≡ first_of id (rows_of f)
text_is text f id e = e ∙ first_value-rows f id

-- what is never found is `None`
pub none_unless_found : {X : Type 0} (o : Option X) → (((x : X) × (o ≡ Some x)) → ⊥) → None ≡ o
none_unless_found None never = refl
none_unless_found (Some x) never = absurd (never (x, refl))
