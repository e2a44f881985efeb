-- A script, line by line.
use Rattle.std.proofs.Common.{◌≡◌, ℕ, ◌+◌, ◌≤◌, ◌<◌, Bool, true, false, List, [], ◌∷◌}
use Rattle.std.proofs.Common.{◌++◌, length, refl, sym, ap, subst, ◌∙◌, arith, inl, inr}
use Rattle.std.specs.Prelude.{◌⊎◌, All, if◌then◌else◌, Err}
use Rattle.std.proofs.Common.{get_or}
use Rattle.std.proofs.lemmas.Bool.{true≢false}
use Rattle.std.proofs.lemmas.Grind.{common_steps}
use Rattle.std.proofs.lemmas.List.Elements.{All-push}
use Rattle.ascii_text.specs.Text.{words_of}
use Rattle.wire_world.specs.declared.happening.Happening.{Happening}
use Rattle.wire_world.specs.declared.happening.Occurrence.{Occurrence}
use Rattle.wire_world.specs.declared.happening.Occurrence.TheVariants as what
use Rattle.cmd_rehearse.specs.declared.said.Said.{Said}
use Rattle.cmd_rehearse.specs.declared.said.Said.TheVariants.{Nothing, Console, Receiver, Happens}
use Rattle.cmd_rehearse.specs.declared.said.Said.TheVariants.{Stray, Malformed}
use Rattle.cmd_rehearse.specs.Said.{script_line, is_of_no_form, is_nothing, stray_size}
use Rattle.cmd_rehearse.specs.Script.{Parts, with_event, with_said, has_some, said_below}
use Rattle.cmd_rehearse.specs.Script.{stray_behind}
use Rattle.cmd_rehearse.specs.Script.{EventFits, IsRange, SaysSomething, first_words, no_parts}
use Rattle.cmd_rehearse.specs.Script.{read_below}
use Rattle.cmd_rehearse.proofs.Strays.{Fits, line-fits}

stray_few : (s : Said) (n : ℕ) → Fits n s → stray_size s ≤ n
stray_few (Stray moment receiver bytes) n h = h
stray_few (Happens event) n h = omega arith
stray_few (Console setup) n h = omega arith
stray_few (Receiver universe) n h = omega arith
stray_few Nothing n h = omega arith
stray_few Malformed n h = omega arith

-- the bytes of a line's stray fit where the line does
pub fits : (s : Said) (below : Bool) (line : List ℕ) (n most : ℕ) → s
    ≡ script_line below (words_of line)
    → n + length line < most → n + stray_size s < most
fits s below line n most is room =
    let few = stray_few s (length line)
    (subst (Fits (length line)) (sym is) (line-fits below line)) in omega (arith, room, few)

-- what is not nothing has words
pub something : (below : Bool) (words : List (List ℕ))
    → is_nothing (script_line below words) ≡ false
    → has_some words ≡ true
something below [] h = absurd (true≢false h)
something below (word ∷ words) h = refl

-- ---- strays

pub strays_grow : (p : Parts) (n : ℕ) (s : Said)
    → length (with_said p n s).strays ≡ length p.strays + stray_size s
strays_grow p n (Console setup) = omega arith
strays_grow p n (Receiver universe) = omega arith
strays_grow p n (Happens event) = omega arith
strays_grow p n (Stray moment receiver bytes) = grind (arith, common_steps)
strays_grow p n Nothing = omega arith
strays_grow p n Malformed = omega arith

wider : (what : Occurrence) (m n : ℕ) → m ≤ n → IsRange m what → IsRange n what
wider (what.Order a b) m n h r = tt
wider (what.Tick a) m n h r = tt
wider (what.Deliver a b c d) m n h r = tt
wider (what.Stray receiver from to) m n h r = (r.0, omega (arith, h, r.1))
wider (what.Show a) m n h r = tt

-- what holds of the parts of a script: each event has a line, and each stray its bytes
pub record AreSound (p : Parts) : Type 0 where
  pub within : All (EventFits (length p.strays)) p.events
  pub counted : length p.lines ≡ length p.events

sound_event : (p : Parts) (n : ℕ) (e : Happening) → AreSound p → EventFits (length p.strays) e
    → AreSound (with_event p n e)
sound_event p n e h is = record {
  within = All-push (EventFits (length p.strays)) p.events e h.within is;
  counted = let c = h.counted in grind (arith, common_steps);
}

sound_said : (p : Parts) (n m : ℕ) (s : Said) → Fits m s → AreSound p → AreSound (with_said p n s)
sound_said p n m (Console setup) fit h = record { within = h.within; counted = h.counted }
sound_said p n m (Receiver universe) fit h = record { within = h.within; counted = h.counted }
sound_said p n m (Happens event) fit h =
    sound_event p n event h (wider event.what 0 (length p.strays) (omega arith) fit)
sound_said p n m (Stray moment receiver bytes) fit h =
    let q : Parts = record p { strays = p.strays ++ bytes } in
    let more : length p.strays + length bytes ≡ length q.strays = grind (arith, common_steps) in
    sound_event q n (stray_behind p.strays moment receiver bytes) (record {
      within = λ k d lt. wider (get_or p.events k d).what (length p.strays) (length q.strays)
          (omega (arith, more)) (h.within k d lt);
      counted = h.counted;
    }) (omega arith, omega (arith, more))
sound_said p n m Nothing fit h = h
sound_said p n m Malformed fit h = h

pub sound_below : (p : Parts) (n : ℕ) (line : List ℕ) → AreSound p
    → AreSound (with_said p n (said_below p line))
sound_below p n line h =
    sound_said p n (length line) (said_below p line) (line-fits (has_some p.events) line) h

-- the strays of a line more have no more bytes than that line
pub few_more : (p : Parts) (n : ℕ) (line : List ℕ)
    → length (with_said p n (said_below p line)).strays ≤ length p.strays + length line
few_more p n line =
    let few = stray_few (said_below p line) (length line)
    (line-fits (has_some p.events) line) in
    omega (arith, strays_grow p n (said_below p line), few)

-- ---- what has been read

-- a line that is not malformed is read on
pub read_on : (p : Parts) (line : ℕ × List ℕ) (lines : List (ℕ × List ℕ))
    → is_of_no_form (said_below p line.1) ≡ false
    → read_below p (line ∷ lines) ≡ read_below (with_said p line.0 (said_below p line.1)) lines
read_on p line lines h = rw h refl

-- a malformed line decides
pub read_stops : (p : Parts) (line : ℕ × List ℕ) (lines : List (ℕ × List ℕ))
    → is_of_no_form (said_below p line.1) ≡ true → read_below p (line ∷ lines) ≡ Err line.0
read_stops p line lines h = rw h refl

-- nothing has been said so far, and the first words are those of the lines that are left; or the
-- first words of all say something
abbrev pub Begun : List (List ℕ) → Parts → List (ℕ × List ℕ) → Type 0
Begun first p lines =
    ((p ≡ no_parts) × (first ≡ first_words lines)) ⊎ SaysSomething false first

begun_words : (first words : List (List ℕ)) (p : Parts) (n : ℕ) (rest : List (List ℕ))
    → p ≡ no_parts → first ≡ (if has_some words then words else rest)
    → is_of_no_form (script_line false words) ≡ false
    → ((with_said p n (script_line false words) ≡ no_parts) × (first ≡ rest))
    ⊎ SaysSomething false first
begun_words first [] p n rest none is h = inl (none, is)
begun_words first (word ∷ words) p n rest none is h =
    inr (ap has_some is, ap (λ ws. is_of_no_form (script_line false ws)) is ∙ h)

pub begun_on : (first : List (List ℕ)) (p : Parts) (line : ℕ × List ℕ)
    (lines : List (ℕ × List ℕ)) → Begun first p (line ∷ lines)
    → is_of_no_form (said_below p line.1) ≡ false
    → Begun first (with_said p line.0 (said_below p line.1)) lines
begun_on first p line lines (inr says) h = inr says
begun_on first p line lines (inl none) h =
    let low : has_some p.events ≡ false = ap (λ (q : Parts). has_some q.events) none.0 in
    let words = words_of line.1 in
    let Q : Bool → Type 0 = λ b.
    ((with_said p line.0 (script_line b words) ≡ no_parts) × (first ≡ first_words lines))
    ⊎ SaysSomething false first in
    subst Q (sym low) (begun_words first words p line.0 (first_words lines) none.0 none.1
    (ap (λ b. is_of_no_form (script_line b words)) (sym low) ∙ h))

pub begun_stops : (first : List (List ℕ)) (p : Parts) (line : ℕ × List ℕ)
    (lines : List (ℕ × List ℕ)) → Begun first p (line ∷ lines)
    → SaysSomething (has_some p.events) (words_of line.1) → SaysSomething false first
begun_stops first p line lines (inr says) h = says
begun_stops first p line lines (inl none) h =
    let low : has_some p.events ≡ false = ap (λ (q : Parts). has_some q.events) none.0 in
    let is : first ≡ words_of line.1 = none.1 ∙ rw h.0 refl in (
      ap has_some is ∙ h.0,
      ap (λ ws. is_of_no_form (script_line false ws)) is
          ∙ ap (λ b. is_of_no_form (script_line b (words_of line.1))) (sym low) ∙ h.1,
    )

pub sound_none : AreSound no_parts
sound_none = record { within = λ k d lt. absurd (omega arith); counted = refl }
