-- The script that a text means.
use Rattle.std.specs.Prelude.{◌≡◌, ℕ, ◌+◌, ◌≤◌, Bool, true, false, List, [], ◌∷◌, ◌++◌}
use Rattle.std.specs.Prelude.{if◌then◌else◌, length, Result, Ok, Err}
use Rattle.ascii_text.specs.Text.{lines_of, words_of, numbered_from}
use Rattle.wire_world.specs.declared.setup.Setup.{Setup}
use Rattle.wire_world.specs.declared.happening.Happening.{Happening}
use Rattle.wire_world.specs.declared.happening.Occurrence.{Occurrence}
use Rattle.wire_world.specs.declared.happening.Occurrence.TheVariants as what
use Rattle.cmd_rehearse.specs.declared.said.Said.{Said}
use Rattle.cmd_rehearse.specs.declared.said.Said.TheVariants.{Nothing, Console, Receiver, Happens}
use Rattle.cmd_rehearse.specs.declared.said.Said.TheVariants.{Stray, Malformed}
use Rattle.cmd_rehearse.specs.declared.script.Script.{Script}
use Rattle.cmd_rehearse.specs.declared.script.ScriptFault.{ScriptFault}
use Rattle.cmd_rehearse.specs.declared.script.ScriptFault.TheVariants.{Line, Memory}
use Rattle.cmd_rehearse.specs.Said.{script_line, is_of_no_form}

-- what a script sets up and lets happen: its consoles, the universes of its receivers, its events,
-- the bytes of all strays, and of each event the number of its line
pub record Parts : Type 0 where
  pub consoles : List Setup
  pub receivers : List ℕ
  pub events : List Happening
  pub strays : List ℕ
  pub lines : List ℕ

-- the parts of a script
abbrev pub parts : Script → Parts
parts s = record {
  consoles = s.consoles.items;
  receivers = s.receivers.items;
  events = s.events.items;
  strays = s.strays.items;
  lines = s.lines.items;
}

-- the script of no lines
abbrev pub no_parts : Parts
no_parts = record { consoles = []; receivers = []; events = []; strays = []; lines = [] }

-- with an event more, of the line of this number
abbrev pub with_event : Parts → ℕ → Happening → Parts
with_event p line event =
    record p { events = p.events ++ event ∷ []; lines = p.lines ++ line ∷ [] }

-- a stray whose bytes stand behind those of the strays before it
abbrev pub stray_behind : List ℕ → ℕ → ℕ → List ℕ → Happening
stray_behind strays moment receiver bytes = record {
  moment = moment;
  what = what.Stray receiver (length strays) (length strays + length bytes);
}

-- with what the line of this number says
abbrev pub with_said : Parts → ℕ → Said → Parts
with_said p line (Console setup) = record p { consoles = p.consoles ++ setup ∷ [] }
with_said p line (Receiver universe) = record p { receivers = p.receivers ++ universe ∷ [] }
with_said p line (Happens event) = with_event p line event
with_said p line (Stray moment receiver bytes) =
    with_event (record p { strays = p.strays ++ bytes }) line
    (stray_behind p.strays moment receiver bytes)
with_said p line Nothing = p
with_said p line Malformed = p

-- there are elements
abbrev pub has_some : {X : Type 0} → List X → Bool
has_some [] = false
has_some (x ∷ xs) = true

-- what a line says below the lines of p
abbrev pub said_below : Parts → List ℕ → Said
said_below p line = script_line (has_some p.events) (words_of line)

-- the script of p and the numbered lines below; or the number of the first malformed of these
abbrev pub read_below : Parts → List (ℕ × List ℕ) → Result Parts ℕ
read_below p [] = Ok p
read_below p (line ∷ lines) =
    if is_of_no_form (said_below p line.1) then Err line.0
    else read_below (with_said p line.0 (said_below p line.1)) lines

-- the script that a text means, or the number of its first malformed line
abbrev pub script_of : List ℕ → Result Parts ℕ
script_of text = read_below no_parts (numbered_from 1 (lines_of text))

-- the bytes of a stray are among those of all strays, `size` in number
abbrev pub IsRange : ℕ → Occurrence → Type 0
IsRange size (what.Stray receiver from to) = (from ≤ to) × (to ≤ size)
IsRange size _ = Unit {0}

abbrev pub EventFits : ℕ → Happening → Type 0
EventFits size event = IsRange size event.what

-- the words of the first line that has any
abbrev pub first_words : List (ℕ × List ℕ) → List (List ℕ)
first_words [] = []
first_words (line ∷ lines) =
    if has_some (words_of line.1) then words_of line.1 else first_words lines

-- words that say something: they are there, and a form fits them
abbrev pub SaysSomething : Bool → List (List ℕ) → Type 0
SaysSomething below words =
    (has_some words ≡ true) × (is_of_no_form (script_line below words) ≡ false)

-- why a line was not taken below those of p: it is malformed; or memory was wanted, and then it
-- says something
abbrev pub ExplainsLine : Parts → ℕ → List ℕ → ScriptFault → Type 0
ExplainsLine p number line (Line n) =
    (n ≡ number) × (is_of_no_form (said_below p line) ≡ true)
ExplainsLine p number line Memory = SaysSomething (has_some p.events) (words_of line)

-- why a text gives no script: its first malformed line; or memory was wanted, and then the first
-- line that has words says something
abbrev pub ExplainsScript : List ℕ → ScriptFault → Type 0
ExplainsScript text (Line number) = script_of text ≡ Err number
ExplainsScript text Memory = SaysSomething false (first_words (numbered_from 1 (lines_of text)))
