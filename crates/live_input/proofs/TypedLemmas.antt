-- The lines of a growing text.
use Rattle.live_input.proofs.Terms.{Bool, true, false, cond, take, arith, ◌≡◌, ◌<◌, ℕ, ◌+◌, sym}
use Rattle.live_input.proofs.Terms.{List, [], ◌∷◌, ◌++◌, length, drop, get_or, fold, append_assoc}
use Rattle.live_input.proofs.Terms.{append-nil, ◌==◌, drop_more, drop-append_seam, drop-length}
use Rattle.live_input.proofs.Terms.{cond_both, nat_tests, fold-append, TypedKept, IsNext}
use Rattle.live_input.proofs.Terms.{TypedStands, TypedLines, nothing_typed, says_nothing, typed_of}
use Rattle.live_input.proofs.Terms.{with_typed_byte}

-- the new lines are the old ones and some more
abbrev pub Adds : List (List ℕ) → List (List ℕ) → Type 0
Adds old new = (more : List (List ℕ)) × (new ≡ old ++ more)

byte_more : (old : List (List ℕ)) (t : TypedLines) (b : ℕ) → Adds old t.lines
    → Adds old (with_typed_byte t b).lines
byte_more old t b m =
    cond_both (b == 10) _ _ (λ (x : TypedLines). Adds old x.lines)
    (λ lf. cond_both (says_nothing t.rest) _ _ (Adds old) (λ says. m)
    (λ says. (m.0 ++ t.rest ∷ [], rw m.1 (append_assoc old m.0 (t.rest ∷ []))))) (λ other. m)

lines_more : (old : List (List ℕ)) (t : TypedLines) (bytes : List ℕ) → Adds old t.lines
    → Adds old (fold with_typed_byte t bytes).lines
lines_more old t [] m = m
lines_more old t (b ∷ bytes) m = lines_more old (with_typed_byte t b) bytes (byte_more old t b m)

pub grows : (old : List (List ℕ)) (bytes more : List ℕ) → Adds old (typed_of bytes).lines
    → Adds old (typed_of (bytes ++ more)).lines
grows old bytes more m = rw (fold-append with_typed_byte nothing_typed bytes more)
    (lines_more old (typed_of bytes) more m)

-- the next byte that was not taken
pub next_byte : (came slice : List ℕ) (taken : ℕ) → slice ≡ came → taken < length came
    → drop taken came ≡ get_or slice taken 0 ∷ drop (taken + 1) came
next_byte came slice taken is inside = rw is (drop_more came taken 0 inside)

module _ (kept : TypedKept) (b : ℕ) (unread bytes : List ℕ) (taken : List (List ℕ))
    (next : kept.unread ≡ b ∷ unread) (stands : TypedStands kept bytes taken) where
  -- the byte goes into the line
  pub stands_byte : (b ≡ 10 → ⊥)
      → TypedStands (record { unread = unread; line = take 201 (kept.line ++ b ∷ []) }) bytes taken
  stands_byte other =
      let differs : (b == 10) ≡ false = grind (arith, nat_tests) in rw (next, differs) at stands

  -- or ends it
  pub stands_line : (silent : Bool) → b ≡ 10 → says_nothing kept.line ≡ silent
      → TypedStands (record { unread = unread; line = [] }) bytes
      (cond silent taken (taken ++ kept.line ∷ []))
  stands_line silent lf says =
      let same : (b == 10) ≡ true = grind (arith, nat_tests) in rw (next, same, says) at stands

-- a line that was just taken
pub is_next : (taken : List (List ℕ)) (line rest unread bytes : List ℕ)
    → fold with_typed_byte (record { lines = taken ++ line ∷ []; rest = rest }) unread
    ≡ typed_of bytes
    → IsNext line bytes taken
is_next taken line rest unread bytes e =
    let t : TypedLines = record { lines = taken ++ line ∷ []; rest = rest } in
    let m = lines_more t.lines t unread ([], sym (append-nil t.lines)) in
    (m.0, rw (← e, m.1, append_assoc) (drop-append_seam taken (line ∷ m.0)))

-- where all was taken no line is left
pub none_left : (kept : TypedKept) (bytes : List ℕ) (taken : List (List ℕ))
    → TypedStands kept bytes taken → kept.unread ≡ []
    → drop (length taken) (typed_of bytes).lines ≡ []
none_left kept bytes taken stands none = rw (← (rw none at stands)) (drop-length taken)

-- and more bytes come
pub more_typed : (bytes more : List ℕ)
    → typed_of (bytes ++ more) ≡ fold with_typed_byte (typed_of bytes) more
more_typed bytes more = fold-append with_typed_byte nothing_typed bytes more
