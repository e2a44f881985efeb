-- A cue that is found above or below another is there, and a move goes to it.
use Rattle.playback_core.proofs.Terms.{◌≡◌, ℕ, Bool, true, List, [], ◌∷◌, Option, Some, None, refl}
use Rattle.playback_core.proofs.Terms.{arith, find, reverse, Result, list_any, ok_or, nat_cmp, eq_by_cmp}
use Rattle.playback_core.proofs.Terms.{unsigned_tied, contains_key-keys, nat_tests, reverse-append}
use Rattle.playback_core.proofs.Terms.{list_any-append, cue_above, cue_below, CueMap, Tables, Start}
use Rattle.playback_core.proofs.Terms.{NoMove, NoCue, Move, current_after, goto_target, moves_by}
use Rattle.playback_core.proofs.Terms.{PlaybackState, Moves, StandsFor, Steps}
use Rattle.std.specs.FinMap as map

list_any-reverse : (p : ℕ → Bool) (xs : List ℕ) → list_any p (reverse xs) ≡ list_any p xs
list_any-reverse p [] = refl
list_any-reverse p (x ∷ xs) =
    rw (reverse-append (x ∷ []) xs, list_any-append p (reverse xs) (x ∷ []), list_any-reverse p xs)
    (grind arith)

-- what is found is in the list
list_any-found : (p : ℕ → Bool) (ks : List ℕ) (n : ℕ) → find p ks ≡ Some n
    → list_any (eq_by_cmp nat_cmp n) ks ≡ true
list_any-found p [] n e = cc
list_any-found p (k ∷ ks) n e =
    grind (arith, nat_tests, unsigned_tied n k, list_any-found p ks n)

pub contains_key-cue_above : (cues : CueMap) (n found : ℕ) → cue_above cues n ≡ Some found
    → map.contains_key cues found ≡ true
contains_key-cue_above cues n found e =
    rw (contains_key-keys cues found) (list_any-found _ (map.keys cues) found e)

pub contains_key-cue_below : (cues : CueMap) (n found : ℕ) → cue_below cues n ≡ Some found
    → map.contains_key cues found ≡ true
contains_key-cue_below cues n found e =
    rw (contains_key-keys cues found, ← list_any-reverse _ (map.keys cues))
    (list_any-found _ (reverse (map.keys cues)) found e)

-- what goes to the cue that a target found steps as the target says: goto takes a cue that is there
pub steps_to : {F : Type 0} {stands_for : F → List Start → Type 0} {latest : F → ℕ} {show : Tables}
    {moment cue : ℕ} {before after : PlaybackState F} {result : Result ℕ NoMove}
    (target : Option ℕ → Option ℕ) (refused : NoMove) (current : Option ℕ)
    → map.contains_key show.cues cue ≡ true → target current ≡ Some cue
    → ((moves : List Move) (stopped : Bool) → StandsFor stands_for show before moves stopped
    → current ≡ current_after (moves_by show stopped moment moves))
    → result ≡ ok_or (goto_target show.cues cue) NoCue
    → Moves stands_for latest show moment None before after result
    → Steps stands_for latest show moment before after result (λ c. ok_or (target c) refused)
steps_to {show = show} {cue = cue} target refused current there found is answer moved = record {
  answer = λ moves stopped stands. rw (answer, there, ← is moves stopped stands, found) refl;
  moved = moved;
}
