-- Lines that are printed one after another.
use Rattle.std.proofs.Common.{◌≡◌, inl, inr, ℕ, ◌+◌, ◌<◌, ◌≤◌, List, [], ◌∷◌, ◌++◌, length, drop}
use Rattle.std.proofs.Common.{get_or, map, Option, Some, None, Result, Ok, Err, IsErr, Bor, Iter}
use Rattle.std.proofs.Common.{ap, sym, refl, ◌∙◌, add-one, append-nil, append_assoc}
use Rattle.std.specs.declared.iter.Zip.{Zip}
use Rattle.std.specs.Iterator.Adapters.{zip_first, zip_second}
use Rattle.std.specs.List.{concat, enumerate_from}
use Rattle.std.specs.Slice.Iter.{iter_rest}
use Rattle.std.proofs.Math.Seq.{drop-cons}
use Rattle.std.proofs.iter.Yields.{fronts}
use Rattle.std.proofs.lemmas.Iterator.{zips}
use Rattle.std.proofs.lemmas.List.{drop_all}
use Rattle.std.proofs.lemmas.List.Folds.{concat-append}
use Rattle.std.proofs.lemmas.Slice.Zip.{Zip-more, either_empty_from_Zip}
use Rattle.devices.specs.Tape.{Tape, with_more, with_failure}
use Rattle.devices.proofs.Tapes.{with_more-none, with_more-twice}
use Rattle.sacn_receiver.specs.Replies.{end_line}
use Rattle.wire_world.specs.declared.reply.Reply.{Reply}
use Rattle.cmd_rehearse.specs.Printed.{PrintsLines}
use Rattle.cmd_rehearse.specs.Texts.{event_line, event_lines}

-- of these lines, the rest is still to be printed; where the output tells, it took those before
pub record Printing (lines rest : List (List ℕ)) (tells : Type 0) (before now : Tape ℕ)
    : Type 0 where
  pub front : List (List ℕ)
  pub parts : lines ≡ front ++ rest
  pub took : tells → now ≡ with_more before (concat front)

-- nothing was printed yet
pub printing_none : (lines rest : List (List ℕ)) (tells : Type 0) (before : Tape ℕ)
    → lines ≡ rest → Printing lines rest tells before before
printing_none lines rest tells before all = record {
  front = [];
  parts = all;
  took = λ _. sym (with_more-none before);
}

-- one line more
pub printing_more : (lines rest behind : List (List ℕ)) (line : List ℕ) (told tells : Type 0)
    (before mid after : Tape ℕ) → Printing lines rest told before mid → rest ≡ line ∷ behind
    → (tells → told) → (tells → after ≡ with_more mid line)
    → Printing lines behind tells before after
printing_more lines rest behind line told tells before mid after so_far next still more = record {
  front = so_far.front ++ line ∷ [];
  parts = so_far.parts ∙ ap (λ left. so_far.front ++ left) next
      ∙ sym (append_assoc so_far.front (line ∷ []) behind);
  took = λ telling.
      more telling ∙ ap (λ tape. with_more tape line) (so_far.took (still telling))
      ∙ with_more-twice before (concat so_far.front) line
      ∙ ap (λ end. with_more before (concat so_far.front ++ end)) (sym (append-nil line))
      ∙ ap (with_more before) (sym (concat-append so_far.front (line ∷ [])));
}

-- the output failed at the next line
pub printing_stops : {X E : Type 0} (r : Result X E) (lines rest behind : List (List ℕ))
    (line : List ℕ) (told : Type 0) (before mid after : Tape ℕ) → IsErr r
    → Printing lines rest told before mid → rest ≡ line ∷ behind → told
    → after ≡ with_failure mid → PrintsLines r lines before after
printing_stops (Ok x) lines rest behind line told before mid after is so_far next telling fails =
    cc
printing_stops (Err e) lines rest behind line told before mid after is so_far next telling fails =
    record {
      front = so_far.front;
      line = line;
      rest = behind;
      parts = so_far.parts ∙ ap (λ left. so_far.front ++ left) next;
      took = fails ∙ ap with_failure (so_far.took telling);
    }

-- all lines were printed
pub printing_all : (lines rest : List (List ℕ)) (tells : Type 0) (before now : Tape ℕ)
    → Printing lines rest tells before now → rest ≡ [] → tells
    → now ≡ with_more before (concat lines)
printing_all lines rest tells before now so_far over telling =
    so_far.took telling
    ∙ ap (λ front. with_more before (concat front)) (sym (so_far.parts
    ∙ ap (λ left. so_far.front ++ left) over ∙ append-nil so_far.front))

-- ---- the lines of events

-- those that an iterator over their numbers and replies has not given yet
abbrev pub lines_left : Zip (Iter ℕ) (Iter Reply) → List (List ℕ)
lines_left it = event_lines (iter_rest (zip_first it)) (iter_rest (zip_second it))

pub next_line : (s t : Zip (Iter ℕ) (Iter Reply)) (r : Option (Bor ℕ × Bor Reply))
    (p : Bor ℕ × Bor Reply) → r ≡ Some p → zips fronts fronts s r t
    → lines_left s ≡ event_line (p.0.now, p.1.now) ∷ lines_left t
next_line s t r p is step =
    let next = Zip-more s t r p is step in
    ap (λ numbers. event_lines numbers (iter_rest (zip_second s))) next.0
    ∙ ap (λ replies. event_lines (p.0.now ∷ iter_rest (zip_first t)) replies) next.1

no_replies : (numbers : List ℕ) → event_lines numbers [] ≡ []
no_replies [] = refl
no_replies (number ∷ numbers) = refl

pub no_line : (s t : Zip (Iter ℕ) (Iter Reply)) (r : Option (Bor ℕ × Bor Reply))
    → r ≡ None
    → zips fronts fronts s r t → lines_left s ≡ []
no_line s t r is step =
    elim (either_empty_from_Zip s t r is step) [
      | inl first ↦ ap (λ numbers. event_lines numbers (iter_rest (zip_second s))) first
      | inr second ↦ ap (event_lines (iter_rest (zip_first s))) second
          ∙ no_replies (iter_rest (zip_first s))
    ]

-- ---- the lines of receivers

-- those of this receiver and of the ones behind it
abbrev pub ends_left : ℕ → List (List ℕ) → List (List ℕ)
ends_left i last = map (λ p. end_line p.0 p.1) (enumerate_from i (drop i last))

pub next_end : (last : List (List ℕ)) (i : ℕ) → i < length last
    → ends_left i last ≡ end_line i (get_or last i []) ∷ ends_left (i + 1) last
next_end last i within =
    ap (λ slots. map (λ (p : ℕ × List ℕ). end_line p.0 p.1) (enumerate_from i slots))
    (drop-cons last i [] within)
    ∙ ap (λ n. end_line i (get_or last i [])
    ∷ map (λ (p : ℕ × List ℕ). end_line p.0 p.1) (enumerate_from (i + 1) (drop n last)))
    (sym (add-one i))

pub no_end : (last : List (List ℕ)) (i : ℕ) → length last ≤ i → ends_left i last ≡ []
no_end last i over =
    ap (λ slots. map (λ (p : ℕ × List ℕ). end_line p.0 p.1) (enumerate_from i slots))
    (drop_all i last over)

-- ---- both

-- the first lines were printed, and then the others, or some of them
pub printed_both : {X E : Type 0} (r : Result X E) (first second : List (List ℕ))
    (before mid after : Tape ℕ) → mid ≡ with_more before (concat first)
    → PrintsLines r second mid after → PrintsLines r (first ++ second) before after
printed_both (Ok x) first second before mid after printed more =
    more ∙ ap (λ tape. with_more tape (concat second)) printed
    ∙ with_more-twice before (concat first) (concat second)
    ∙ ap (with_more before) (sym (concat-append first second))
printed_both (Err e) first second before mid after printed stops = record {
  front = first ++ stops.front;
  line = stops.line;
  rest = stops.rest;
  parts = ap (λ lines. first ++ lines) stops.parts
      ∙ sym (append_assoc first stops.front (stops.line ∷ stops.rest));
  took = stops.took
      ∙ ap (λ tape. with_failure (with_more tape (concat stops.front))) printed
      ∙ ap with_failure (with_more-twice before (concat first) (concat stops.front)
      ∙ ap (with_more before) (sym (concat-append first stops.front)));
}
