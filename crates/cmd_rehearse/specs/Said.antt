-- What a line of a script says, by its words.
use Rattle.std.specs.Prelude.{ℕ, Bool, true, false, List, [], ◌∷◌, if◌then◌else◌, codes}
use Rattle.std.specs.Prelude.{length, Option, Some, None, option_map, option_and_then}
use Rattle.ascii_text.specs.Forms.{same_word, moment_of, whole_of}
use Rattle.uuid.specs.Text.{parsed}
use Rattle.console.specs.Spelling.{instruction_of}
use Rattle.wire_world.specs.declared.happening.Occurrence.{Occurrence}
use Rattle.wire_world.specs.declared.happening.Occurrence.TheVariants.{Order, Tick, Deliver, Show}
use Rattle.cmd_rehearse.specs.Forms.{universe_of, place_of, hex_bytes, digits_in, setup}
use Rattle.cmd_rehearse.specs.declared.said.Said.{Said}
use Rattle.cmd_rehearse.specs.declared.said.Said.TheVariants.{Nothing, Console, Receiver, Happens}
use Rattle.cmd_rehearse.specs.declared.said.Said.TheVariants.{Stray, Malformed}

-- ---- headers

-- `console BASE PRIORITY UUID`: a priority is 0 to 200 (E1.31-2018, priority)
abbrev pub console_with : List (List ℕ) → Option Said
console_with (base ∷ priority ∷ cid ∷ []) =
    option_and_then (λ b. option_and_then (λ p. option_map (λ c. Console (setup b p c))
    (parsed cid)) (whole_of 200 priority)) (universe_of base)
console_with _ = None

-- `receiver U`
abbrev pub receiver_with : List (List ℕ) → Option Said
receiver_with (universe ∷ []) = option_map (λ u. Receiver u) (universe_of universe)
receiver_with _ = None

-- a header line stands above all events
abbrev pub header : Bool → Option Said → Option Said
header below said = if below then None else said

-- ---- events

-- this happens at that moment
abbrev pub at : ℕ → Occurrence → Said
at moment what = Happens (record { moment = moment; what = what })

-- `do C COMMAND`
abbrev pub order_with : ℕ → List (List ℕ) → Option Said
order_with moment [] = None
order_with moment (console ∷ words) =
    option_and_then (λ c. option_map (λ instruction. at moment (Order c instruction))
    (instruction_of words)) (place_of console)

-- `tick C`
abbrev pub tick_with : ℕ → List (List ℕ) → Option Said
tick_with moment (console ∷ []) = option_map (λ c. at moment (Tick c)) (place_of console)
tick_with moment _ = None

-- packet K of universe U of console C reaches receiver R
abbrev pub delivery_with : List ℕ → List ℕ → List ℕ → List ℕ → Option Occurrence
delivery_with receiver console universe k =
    option_and_then (λ r. option_and_then (λ c. option_and_then (λ u.
    option_map (λ n. Deliver r c u n) (moment_of k)) (place_of universe))
    (place_of console)) (place_of receiver)

-- `deliver R C U K`
abbrev pub deliver_with : ℕ → List (List ℕ) → Option Said
deliver_with moment (receiver ∷ console ∷ universe ∷ k ∷ []) =
    option_map (λ what. at moment what) (delivery_with receiver console universe k)
deliver_with moment _ = None

-- `stray R [HEX]`
abbrev pub stray_with : ℕ → List (List ℕ) → Option Said
stray_with moment [] = None
stray_with moment (receiver ∷ words) =
    option_and_then (λ r. option_map (λ bytes. Stray moment r bytes)
    (option_and_then hex_bytes (digits_in words))) (place_of receiver)

-- `slots R`
abbrev pub show_with : ℕ → List (List ℕ) → Option Said
show_with moment (receiver ∷ []) = option_map (λ r. at moment (Show r)) (place_of receiver)
show_with moment _ = None

-- the event that the words behind a moment spell
abbrev pub event_with : ℕ → List (List ℕ) → Option Said
event_with moment [] = None
event_with moment (keyword ∷ operands) =
    if same_word keyword (codes "do") then order_with moment operands
    else (if same_word keyword (codes "tick") then tick_with moment operands
    else (if same_word keyword (codes "deliver") then deliver_with moment operands
    else (if same_word keyword (codes "stray") then stray_with moment operands
    else (if same_word keyword (codes "slots") then show_with moment operands
    else None))))

-- ---- lines

-- a header, or an event behind its moment
abbrev pub form_with : Bool → List ℕ → List (List ℕ) → Option Said
form_with below first words =
    if same_word first (codes "console") then header below (console_with words)
    else (if same_word first (codes "receiver") then header below (receiver_with words)
    else option_and_then (λ moment. event_with moment words) (moment_of first))

-- what no form fits is malformed
abbrev pub or_malformed : Option Said → Said
or_malformed (Some said) = said
or_malformed None = Malformed

-- what a line says; `below` tells whether an event stands above
abbrev pub script_line : Bool → List (List ℕ) → Said
script_line below [] = Nothing
script_line below (first ∷ words) = or_malformed (form_with below first words)

abbrev pub is_of_no_form : Said → Bool
is_of_no_form Malformed = true
is_of_no_form _ = false

abbrev pub is_nothing : Said → Bool
is_nothing Nothing = true
is_nothing _ = false

-- how many bytes a stray has
abbrev pub stray_size : Said → ℕ
stray_size (Stray moment receiver bytes) = length bytes
stray_size _ = 0
