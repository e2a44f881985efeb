-- What lines stand for when bytes were looked at.
use Rattle.std.proofs.Common.{◌≡◌, ℕ, ◌+◌, ◌-◌, ◌<◌, ◌≤◌, List}
use Rattle.std.proofs.Common.{[], ◌∷◌, ◌++◌, map, length, take, drop}
use Rattle.std.proofs.Common.{Bool, true, false, cond, leb, min, ◌^◌, subst}
use Rattle.std.proofs.Common.{sym, ap, ◌∙◌, arith, append_assoc, length-append}
use Rattle.std.specs.List.{slice_range}
use Rattle.std.proofs.lemmas.Bool.Decides.{nat_tests}
use Rattle.std.proofs.lemmas.List.{append-nil, drop-drop, drop-take}
use Rattle.std.proofs.lemmas.List.{length-take, length-take-le, take_min}
use Rattle.memchr.specs.Find.{NoneBefore, Nowhere, Passes, is_byte}
use Rattle.ascii_text.specs.Lines.{Cut, cut_of}
use Rattle.night_record.specs.WholeLines.{front_of, line_fronts, whole_length, whole_lines}
use Rattle.night_record.specs.Coming.{AsksBehind, KeepsPart, StandsFor, part_to_keep}
use Rattle.night_record.specs.Coming.{bytes_given, unseen_bytes}
use Rattle.night_record.specs.declared.lines.NightLines.{NightLines}
use Rattle.night_record.proofs.Ends.{around, no_newline, none_before}
use Rattle.night_record.proofs.Parting.{cut_line, cut_plain, cut_whole, front_more, length_whole}

-- what is behind bytes that were looked at
pub seen_all : (block : List ℕ) (came : ℕ) → slice_range block came came ≡ []
seen_all block came =
    let none : came - came ≡ 0 = omega arith in ap (λ n. take n (drop came block)) none

pub seen_more : (block : List ℕ) (seen came k : ℕ) → k < length (slice_range block seen came)
    → slice_range block (seen + (k + 1)) came ≡ drop (k + 1) (slice_range block seen came)
seen_more block seen came k lt =
    let left = came - (seen + (k + 1)) in
    let size = length-take (came - seen) (drop seen block) in
    let more : k + 1 + left ≡ came - seen = omega (arith, size, lt) in
    ap (λ l. take left l) (sym (drop-drop (k + 1) seen block))
    ∙ (sym (drop-take (k + 1) left (drop seen block))
    ∙ ap (λ n. drop (k + 1) (take n (drop seen block))) more)

-- no whole line is left: all that came was looked at
pub none_left : (old new : NightLines) (text : List ℕ) (given : List (List ℕ))
    → Nowhere (Passes (is_byte 10) (unseen_bytes old)) 0 (length (unseen_bytes old))
    → unseen_bytes new ≡ [] → new.line.items ≡ front_of (old.line.items ++ unseen_bytes old)
    → new.place + new.seen ≡ old.place + old.seen + length (unseen_bytes old)
    → bytes_given new ≡ bytes_given old → StandsFor old text given
    → StandsFor new text given × (given ≡ line_fronts text) × (unseen_bytes new ≡ [])
none_left old new text given nowhere seen line place taken s =
    let unseen = unseen_bytes old in
    let cut = ap (λ t. cut_of t) s.came
    ∙ cut_plain s.looked_at unseen (no_newline unseen nowhere) in
    let lines : (cut_of text).lines ≡ (cut_of s.looked_at).lines = ap (λ (c : Cut). c.lines) cut in
    let rest : (cut_of text).rest ≡ (cut_of s.looked_at).rest ++ unseen
    = ap (λ (c : Cut). c.rest) cut in
    let gave : given ≡ line_fronts text = s.gave ∙ sym (ap (map front_of) lines) in
    let size : length text ≡ length s.looked_at + length unseen
    = ap length s.came ∙ length-append s.looked_at unseen in
    let left : length (cut_of text).rest ≡ length (cut_of s.looked_at).rest + length unseen
    = ap length rest ∙ length-append (cut_of s.looked_at).rest unseen in (
      record {
        looked_at = text;
        came = sym (ap (λ u. text ++ u) seen ∙ append-nil text);
        gave = gave;
        begun = line ∙ (ap (λ l. front_of (l ++ unseen)) s.begun
            ∙ (front_more (cut_of s.looked_at).rest unseen ∙ sym (ap front_of rest)));
        place = place ∙ omega (arith, s.place);
        taken = taken ∙ (s.taken ∙ omega arith);
      },
      gave,
      seen,
    )

-- the next line
pub next_given : (old new : NightLines) (k : ℕ) (text : List ℕ) (given : List (List ℕ))
    (line : List ℕ)
    → NoneBefore (Passes (is_byte 10) (unseen_bytes old)) 0 (length (unseen_bytes old)) k
    × Passes (is_byte 10) (unseen_bytes old) k
    → unseen_bytes new ≡ drop (k + 1) (unseen_bytes old)
    → line ≡ front_of (old.line.items ++ take k (unseen_bytes old)) → new.line.items ≡ []
    → new.place + new.seen ≡ old.place + old.seen + (k + 1)
    → bytes_given new ≡ new.place + new.seen → StandsFor old text given
    → StandsFor new text (line ∷ given)
next_given old new k text given line at unseen is begun place taken s =
    let front = take k (unseen_bytes old) in
    let seen = s.looked_at ++ (front ++ 10 ∷ []) in
    let cut = cut_line s.looked_at front (none_before (unseen_bytes old) k at) in
    let rest : (cut_of seen).rest ≡ [] = ap (λ (c : Cut). c.rest) cut in
    let none : length (cut_of seen).rest ≡ 0 = ap length rest in
    let few : length front ≡ k = length-take-le k (unseen_bytes old) (omega (arith, at.0.high)) in
    let size : length seen ≡ length s.looked_at + (k + 1)
    = length-append s.looked_at (front ++ 10 ∷ [])
    ∙ ap (λ n. length s.looked_at + n) (length-append front (10 ∷ []) ∙ ap (λ n. n + 1) few) in
    let at_place : new.place + new.seen ≡ length seen = place ∙ omega (arith, s.place) in
    record {
      looked_at = seen;
      came = s.came ∙ (ap (λ u. s.looked_at ++ u) (around (unseen_bytes old) k at.0.high at.1)
          ∙ (sym (append_assoc s.looked_at (front ++ 10 ∷ []) (drop (k + 1) (unseen_bytes old)))
          ∙ ap (λ u. seen ++ u) (sym unseen)));
      gave = ap (λ l. l ∷ given) (is ∙ (ap (λ l. front_of (l ++ front)) s.begun
          ∙ front_more (cut_of s.looked_at).rest front))
          ∙ (ap (λ g. front_of ((cut_of s.looked_at).rest ++ front) ∷ g) s.gave
          ∙ sym (ap (λ (c : Cut). map front_of c.lines) cut));
      begun = begun ∙ sym (ap front_of rest);
      place = at_place;
      taken = taken ∙ (at_place ∙ omega arith);
    }

-- what came of a line that began is forgotten
pub after_forget : (old new : NightLines) (text : List ℕ) (given : List (List ℕ))
    → unseen_bytes old ≡ [] → unseen_bytes new ≡ [] → new.line.items ≡ []
    → new.place ≡ bytes_given old
    → new.seen ≡ 0 → bytes_given new ≡ bytes_given old → StandsFor old text given
    → StandsFor new (whole_lines text) given
after_forget old new text given none none_now line place seen taken s =
    let all : text ≡ s.looked_at = s.came
    ∙ (ap (λ u. s.looked_at ++ u) none ∙ append-nil s.looked_at) in
    let cut = cut_whole text in
    let rest : (cut_of (whole_lines text)).rest ≡ [] = ap (λ (c : Cut). c.rest) cut in
    let size = length_whole text in
    let was : bytes_given old ≡ whole_length text = s.taken ∙ ap whole_length (sym all) in
    let left : length (cut_of (whole_lines text)).rest ≡ 0 = ap length rest in
    record {
      looked_at = whole_lines text;
      came = sym (ap (λ u. whole_lines text ++ u) none_now ∙ append-nil (whole_lines text));
      gave = s.gave ∙ (ap line_fronts (sym all) ∙ sym (ap (λ (c : Cut). map front_of c.lines) cut));
      begun = line ∙ sym (ap front_of rest);
      place = omega (arith, place, seen, was, size);
      taken = taken ∙ (was ∙ omega (arith, size, left));
    }

within : (m n : ℕ) → m ≤ n → leb m n ≡ true
within m n h = grind (arith, nat_tests)

beyond : (m n : ℕ) → n < m → leb m n ≡ false
beyond m n h = grind (arith, nat_tests)

-- whether what came is kept whole, by the line that began: of it stands there what came behind the
-- last LF, as far as it is kept
rest_begun : (lines : NightLines) (text : List ℕ) (given : List (List ℕ)) → unseen_bytes lines ≡ []
    → StandsFor lines text given
    → length lines.line.items ≡ min 201 (length (cut_of text).rest)
rest_begun lines text given none s =
    let all : text ≡ s.looked_at = s.came
    ∙ (ap (λ u. s.looked_at ++ u) none ∙ append-nil s.looked_at) in
    ap length s.begun ∙ (length-take 201 (cut_of s.looked_at).rest
    ∙ ap (λ t. min 201 (length (cut_of t).rest)) (sym all))

pub keeps_whole : (old new : NightLines) → unseen_bytes old ≡ []
    → ((text : List ℕ) (given : List (List ℕ)) → length text < 2 ^ 64 → StandsFor old text given
    → StandsFor new (whole_lines text) given)
    → length old.line.items ≤ 200 → KeepsPart true old new
keeps_whole old new none h few text given small s =
    let is : leb (length (cut_of text).rest) 200 ≡ true
    = within (length (cut_of text).rest) 200 (omega (arith, rest_begun old text given none s, few))
    in
    subst (λ b. StandsFor new (cond b (whole_lines text) text) given) (sym is)
    (h text given small s)

pub keeps_long : (old new : NightLines) → unseen_bytes old ≡ [] → KeepsPart false old new
    → 201 ≤ length old.line.items → KeepsPart true old new
keeps_long old new none h long text given small s =
    let is : leb (length (cut_of text).rest) 200 ≡ false
    = beyond (length (cut_of text).rest) 200 (omega (arith, rest_begun old text given none s, long))
    in
    subst (λ b. StandsFor new (cond b (whole_lines text) text) given) (sym is)
    (h text given small s)

-- the next bytes are asked for behind what counts
pub asks_behind : (is_file : Bool) (old new : NightLines) → KeepsPart is_file old new
    → unseen_bytes new ≡ [] → new.seen ≡ 0 → AsksBehind is_file old new new.place
asks_behind is_file old new h none front text given few s =
    let m = h text given few s in
    let all : part_to_keep is_file text ≡ m.looked_at = m.came
    ∙ (ap (λ u. m.looked_at ++ u) none ∙ append-nil m.looked_at) in
    (m, omega (arith, m.place, front, ap length all))
