-- What is told behind the line of a fault.
use Rattle.std.specs.Prelude.{ℕ, List, [], ◌∷◌, ◌++◌, ◌&&◌, codes, flat_map, if◌then◌else◌, map}
use Rattle.std.specs.Prelude.{nat_le, take}
use Rattle.std.specs.Str.{chars}
use Rattle.std.specs.declared.io.ErrorKind.{ErrorKind}
use Rattle.arrayvec.specs.declared.array_vec.ArrayVec.{ArrayVec}
use Rattle.live_machine.specs.Failure.{words_for}
use Rattle.cmd_explain.specs.Skipped.{display_text}

-- a remark, as its bytes are kept
abbrev pub RemarkBytes : Type 0
RemarkBytes = ArrayVec ℕ 512 (Unit {0})

-- what is shown of a part, as of a line of a file: its first 200 bytes
abbrev pub excerpt : List ℕ → List ℕ
excerpt part = display_text (take 200 part)

-- the remark that these parts make, one behind the other: the first 512 bytes
unfoldable pub remark_of : List (List ℕ) → List ℕ
remark_of parts = take 512 (flat_map excerpt parts)

-- a character of a name as it is shown: what is no printable ASCII as `?`
abbrev pub shown_character : ℕ → ℕ
shown_character character =
    if nat_le 32 character && nat_le character 126 then character else 63

-- what is shown of a name: its first 200 characters
abbrev pub shown_name : List ℕ → List ℕ
shown_name name = map shown_character (take 200 (chars name))

-- where a device failed, by its name, and the system's reason
abbrev pub of_device : List ℕ → ErrorKind → List ℕ
of_device name kind = remark_of (name ∷ codes ": " ∷ words_for kind ∷ [])

-- a show without cues, whose file seems to be something else
abbrev pub of_seeming : List ℕ → List ℕ
of_seeming what = remark_of (codes "the show has no cue, and its file seems to be "
    ∷ what ∷ codes ": check the file's name and how it was saved" ∷ [])

-- the line of that
abbrev pub seeming_line : List ℕ → List ℕ
seeming_line what = of_seeming what ++ codes "\n"

-- a line that was typed is not carried out, and why: of each at most 200 bytes are shown
abbrev pub refused_line : List ℕ → List ℕ → List ℕ
refused_line text why =
    remark_of (codes "line refused: " ∷ text ∷ codes ": " ∷ why ∷ []) ++ codes "\n"
