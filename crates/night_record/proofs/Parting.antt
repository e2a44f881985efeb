-- Bytes as lines: more of them, and where LF stands.
use Rattle.std.proofs.Common.{⊎_elim, ◌≡◌, ℕ, ◌+◌, ◌<◌, ◌≤◌, min, Bool}
use Rattle.std.proofs.Common.{true, false, not, cond, eqb, List, [], ◌∷◌, ◌++◌}
use Rattle.std.proofs.Common.{length, take, subst, refl}
use Rattle.std.proofs.Common.{sym, ap, ◌∙◌, arith, append_assoc, length-append}
use Rattle.std.specs.Prelude.{fold}
use Rattle.std.specs.List.{position_or_len}
use Rattle.std.proofs.lemmas.Bool.{cases_lt}
use Rattle.std.proofs.lemmas.List.{append-nil, length-take-le, take-append-le, take_all, take_min}
use Rattle.std.proofs.lemmas.List.Sums.{fold-append}
use Rattle.std.proofs.Math.Seq.{take-append-add, take-append_seam}
use Rattle.ascii_text.specs.Text.{is_newline}
use Rattle.ascii_text.specs.Lines.{Cut, cut_of, no_bytes, with_byte}
use Rattle.night_record.specs.WholeLines.{front_of, whole_length, whole_lines}

-- bytes without an LF go behind those of the line
plain : (xs : List ℕ) (lines : List (List ℕ)) (rest : List ℕ)
    → position_or_len is_newline xs ≡ length xs
    → fold with_byte (record { lines = lines; rest = rest }) xs
    ≡ record { lines = lines; rest = rest ++ xs }
plain [] lines rest h = ap (λ r. record { lines = lines; rest = r }) (sym (append-nil rest))
plain (x ∷ xs) lines rest h =
    elim (eqb x 10) as (λ b. cond (not b) (1 + position_or_len is_newline xs) 0 ≡ length (x ∷ xs)
    → fold with_byte (cond b (record { lines = rest ∷ lines; rest = [] })
    (record { lines = lines; rest = rest ++ x ∷ [] })) xs
    ≡ record { lines = lines; rest = rest ++ x ∷ xs }) [
      | true ↦ λ e. absurd (omega arith)
      | false ↦ λ e. plain xs lines (rest ++ x ∷ []) (omega arith)
          ∙ ap (λ r. record { lines = lines; rest = r }) (append_assoc rest (x ∷ []) xs)
    ] h

pub cut_plain : (seen xs : List ℕ) → position_or_len is_newline xs ≡ length xs
    → cut_of (seen ++ xs)
    ≡ record { lines = (cut_of seen).lines; rest = (cut_of seen).rest ++ xs }
cut_plain seen xs h = fold-append with_byte no_bytes seen xs
    ∙ plain xs (cut_of seen).lines (cut_of seen).rest h

-- behind an LF no line has begun
pub ends_with_none : (front : List ℕ) → (cut_of (front ++ 10 ∷ [])).rest ≡ []
ends_with_none front = ap (λ (c : Cut). c.rest) (fold-append with_byte no_bytes front (10 ∷ []))

pub cut_line : (seen xs : List ℕ) → position_or_len is_newline xs ≡ length xs
    → cut_of (seen ++ (xs ++ 10 ∷ []))
    ≡ record { lines = ((cut_of seen).rest ++ xs) ∷ (cut_of seen).lines; rest = [] }
cut_line seen xs h = ap cut_of (sym (append_assoc seen xs (10 ∷ [])))
    ∙ fold-append with_byte no_bytes (seen ++ xs) (10 ∷ [])
    ∙ ap (λ (c : Cut). with_byte c 10) (cut_plain seen xs h)

-- of a front and more bytes, the front is that of all
pub front_more_at : (n : ℕ) (line more : List ℕ) → take n (take n line ++ more)
    ≡ take n (line ++ more)
front_more_at n line more = ⊎_elim
    (λ (lt : n < length line).
    let le : n ≤ length (take n line) = omega (arith, length-take-le n line (omega arith)) in
    let same : length (take n line) ≡ n = length-take-le n line (omega arith) in
    take-append-le n (take n line) more le
    ∙ (take_all n (take n line) (omega arith) ∙ sym (take-append-le n line more (omega arith))))
    (λ (ge : length line ≤ n). ap (λ l. take n (l ++ more)) (take_all n line ge))
    (cases_lt n (length line))

pub front_more : (line more : List ℕ) → front_of (front_of line ++ more) ≡ front_of (line ++ more)
front_more line more = front_more_at 201 line more

-- as many bytes go behind others as there is room for
pub front_room : (n room : ℕ) (kept more : List ℕ) → room + length kept ≡ n
    → kept ++ take (min room (length more)) more ≡ take n (kept ++ more)
front_room n room kept more h = ap (λ m. kept ++ m) (take_min room more)
    ∙ (sym (take-append-add kept more room)
    ∙ ap (λ k. take k (kept ++ more)) (omega arith))

-- the whole lines of a text, and what stands behind them
record IsParted (text front : List ℕ) : Type 0 where
  is : text ≡ front ++ (cut_of text).rest
  cut : cut_of front ≡ record { lines = (cut_of text).lines; rest = [] }

abbrev Parted : List ℕ → Type 0
Parted text = (front : List ℕ) × IsParted text front

parting_at : (text : List ℕ) (byte : ℕ) (b : Bool) → eqb byte 10 ≡ b → Parted text
    → cut_of (text ++ byte ∷ []) ≡ cond b (record {
      lines
          = (cut_of text).rest ∷ (cut_of text).lines;
      rest = [];
    })
    (record { lines = (cut_of text).lines; rest = (cut_of text).rest ++ byte ∷ [] })
    → Parted (text ++ byte ∷ [])
parting_at text byte true e p cut =
    let rest : (cut_of (text ++ byte ∷ [])).rest ≡ [] = ap (λ (c : Cut). c.rest) cut in (
      text ++ byte ∷ [],
      record {
        is = sym (ap (λ r. (text ++ byte ∷ []) ++ r) rest ∙ append-nil (text ++ byte ∷ []));
        cut = cut ∙ ap (λ (c : Cut). record { lines = c.lines; rest = [] }) (sym cut);
      },
    )
parting_at text byte false e p cut =
    let rest : (cut_of (text ++ byte ∷ [])).rest ≡ (cut_of text).rest ++ byte ∷ []
    = ap (λ (c : Cut). c.rest) cut in (
      p.0,
      record {
        is = ap (λ t. t ++ byte ∷ []) p.1.is
            ∙ (append_assoc p.0 (cut_of text).rest (byte ∷ []) ∙ ap (λ r. p.0 ++ r) (sym rest));
        cut = p.1.cut ∙ ap (λ (c : Cut). record { lines = c.lines; rest = [] }) (sym cut);
      },
    )

parting_more : (text xs : List ℕ) → Parted text → Parted (text ++ xs)
parting_more text [] p = subst Parted (sym (append-nil text)) p
parting_more text (x ∷ xs) p = subst Parted (append_assoc text (x ∷ []) xs)
    (parting_more (text ++ x ∷ []) xs (parting_at text x (eqb x 10) refl p
    (fold-append with_byte no_bytes text (x ∷ []))))

parting : (text : List ℕ) → Parted text
parting text = parting_more [] text ([], record { is = refl; cut = refl })

-- the whole lines of a text have its lines, and no line begins behind them
pub cut_whole : (text : List ℕ)
    → cut_of (whole_lines text) ≡ record { lines = (cut_of text).lines; rest = [] }
cut_whole text =
    let p = parting text in
    let size : length text ≡ length p.0 + length (cut_of text).rest
    = ap length p.1.is ∙ length-append p.0 (cut_of text).rest in
    let whole : whole_length text ≡ length p.0 = omega arith in
    ap cut_of (ap (λ n. take n text) whole
    ∙ (ap (λ t. take (length p.0) t) p.1.is ∙ take-append_seam p.0 (cut_of text).rest))
    ∙ p.1.cut

pub length_whole : (text : List ℕ) → length (whole_lines text) ≡ whole_length text
length_whole text = length-take-le (whole_length text) text (omega arith)
