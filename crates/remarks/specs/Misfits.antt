-- What is told of an argument that lacks its form.
use Rattle.std.specs.Prelude.{ℕ, Bool, true, false, List, [], ◌∷◌, codes, if◌then◌else◌}
use Rattle.std.specs.Char.{is_ascii_lowercase}
use Rattle.cmd_words.specs.declared.misfit.Form.{Form}
use Rattle.cmd_words.specs.declared.misfit.Form.TheVariants as form
use Rattle.cmd_words.specs.declared.misfit.Misfit.{Misfit}
use Rattle.cmd_words.specs.FormTexts.{form_text}
use Rattle.remarks.specs.Remarks.{remark_of}

-- what stands before an argument's name: the name of an option is in small letters
abbrev pub dashes : List ℕ → List ℕ
dashes [] = []
dashes (first ∷ rest) = if is_ascii_lowercase first then codes "--" else []

-- whether the argument of this form is a flag, which has no text of its own
abbrev pub is_flag : Form → Bool
is_flag form.Recorded = true
is_flag form.Resumed = true
is_flag form.ByCard = true
is_flag _ = false

-- a flag by its name, and the form that it should have
abbrev pub of_flag : List ℕ → List ℕ → List ℕ → List ℕ
of_flag dashes name form = remark_of (dashes ∷ name ∷ codes ": " ∷ form ∷ [])

-- an argument by its name, its text as it was typed, and the form that it should have
abbrev pub of_text : List ℕ → List ℕ → List ℕ → List ℕ → List ℕ
of_text dashes name text form =
    remark_of (dashes ∷ name ∷ codes " `" ∷ text ∷ codes "`: " ∷ form ∷ [])

-- what is told of an argument that lacks its form
abbrev pub of_misfit : Misfit → List ℕ
of_misfit misfit =
    let name = misfit.argument.now in
    if is_flag misfit.form
    then of_flag (dashes name) name (form_text misfit.form)
    else of_text (dashes name) name misfit.text.now (form_text misfit.form)
