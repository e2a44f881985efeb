-- The notes on the lines of a text, one line after the other.
use Rattle.cmd_explain.proofs.Terms.{◌≡◌, ◌∙◌, ℕ, ◌+◌, ◌++◌, ◌≤◌, true, false, cond, List, [], ◌∷◌}
use Rattle.cmd_explain.proofs.Terms.{length, refl, sym, ap, Option, Some}
use Rattle.cmd_explain.proofs.Terms.{None, arith, Vec, Global}
use Rattle.cmd_explain.proofs.Terms.{words_of, Tables, Keyword, Reading, Record, Cue, Group, Sub}
use Rattle.cmd_explain.proofs.Terms.{Statement, Table, Cues, Groups, Subs, keyword_of, may_own}
use Rattle.cmd_explain.proofs.Terms.{desk_limits, line_reading, Words, owns, Part, Heading}
use Rattle.cmd_explain.proofs.Terms.{LineNotes, Openings, CuePart, part_of_line, newest_first}
use Rattle.cmd_explain.proofs.Terms.{with_part, parts_below, parts_after, heading_below, heading_of}
use Rattle.cmd_explain.proofs.Terms.{is_unknown, keyword_in, owner_of, notes_of_kind}
use Rattle.cmd_explain.proofs.Terms.{desk_statement, link_note_on, link_note, times_on}
use Rattle.cmd_explain.proofs.Terms.{comma_note_on, comma_note, hour_by, hour_note, again_by}
use Rattle.cmd_explain.proofs.Terms.{openings, openings_after, AreMore, AreNotesOf, AreOpeningsOf}
use Rattle.cmd_explain.proofs.Terms.{IsTaken, unknown_count, unknown_in, AreNumberedOf}
use Rattle.cmd_explain.proofs.Terms.{IsNumberedTaken, has_no_words, list_above, list_after}
use Rattle.cmd_explain.proofs.Terms.{numbers_above, numbers_after, run_by, NumberedLines}
use Rattle.cmd_explain.proofs.Terms.{ArePatchNotesOf, IsPatchTaken, patch_note_on, sheet_after}
use Rattle.cmd_explain.proofs.Terms.{sheet_below, PatchNotes, words_in}
use Rattle.cmd_explain.specs.declared.heading.Heading.TheVariants as heading
use Rattle.cmd_explain.proofs.Lines.{keyword_is, reading_is, statement_is}

-- ---- what is read of a line

-- a line that may own has a keyword that may
pub owns_is : (l : Words) → owns l ≡ may_own (keyword_in l)
owns_is [] = refl
owns_is (word ∷ words) = refl

-- what has no words is read as nothing, and only that
pub no_words : (owner : Option Record) (l : Words) → None ≡ line_reading desk_limits owner l
    → l ≡ []
no_words owner [] e = refl
no_words owner (word ∷ words) e = cc

-- what is read of a line has words
pub has_words : (owner : Option Record) (l : Words) (reading : Reading)
    → Some reading ≡ line_reading desk_limits owner l → has_no_words l ≡ false
has_words owner [] reading e = cc
has_words owner (word ∷ words) reading e = refl

-- no note is on a line without words
pub no_link : (show : Tables) (n : ℕ) (h : Heading) → link_note_on show n h [] ≡ []
no_link show n (heading.Opened (Cue c)) = refl
no_link show n (heading.Opened (Group g)) = refl
no_link show n (heading.Opened (Sub s)) = refl
no_link show n heading.Maker = refl
no_link show n heading.OtherPage = refl
no_link show n heading.Nothing = refl

-- ---- a line more

-- lists that are equal stay so with a line more
more : {a b x y : List ℕ} → a ≡ b → x ≡ y → a ++ x ≡ b ++ y
more {a} {b} {x} {y} e f = ap (λ l. l ++ x) e ∙ ap (λ l. b ++ l) f

module _ (lines : List (List ℕ)) (bytes : List ℕ) (number : ℕ) (says : Statement)
    (numbered : number ≡ length lines + 1) (is : says ≡ desk_statement lines bytes) where
  comma_more : {old new : List ℕ} → old ≡ notes_of_kind comma_note lines
      → new ≡ old ++ comma_note_on number (times_on says) bytes
      → new ≡ notes_of_kind comma_note (bytes ∷ lines)
  comma_more was e =
      e ∙ more was (ap (λ n. comma_note_on n (times_on says) bytes) numbered
      ∙ ap (λ s. comma_note_on (length lines + 1) (times_on s) bytes) is)

  hour_more : {old new : List ℕ} → old ≡ notes_of_kind hour_note lines
      → new ≡ old ++ hour_by number says
      → new ≡ notes_of_kind hour_note (bytes ∷ lines)
  hour_more was e =
      e ∙ more was (ap (λ n. hour_by n says) numbered ∙ ap (hour_by (length lines + 1)) is)

  openings_more : (table : Table) {old new : Openings} → AreOpeningsOf table lines old
      → IsTaken number says old new → AreOpeningsOf table (bytes ∷ lines) new
  openings_more table {old} {new} was taken = record {
    of_table = taken.of_table ∙ was.of_table;
    list =
        taken.list ∙ ap (λ t. openings_after t number says old.list.items) was.of_table
        ∙ ap (openings_after table number says) was.list
        ∙ ap (λ n. openings_after table n says (openings table lines)) numbered
        ∙ ap (λ s. openings_after table (length lines + 1) s (openings table lines)) is;
    notes =
        taken.notes ∙ more was.notes
        (ap (λ t. again_by t number says old.list.items) was.of_table
        ∙ ap (again_by table number says) was.list
        ∙ ap (λ n. again_by table n says (openings table lines)) numbered
        ∙ ap (λ s. again_by table (length lines + 1) s (openings table lines)) is);
  }

  patches_more : {old new : PatchNotes} → ArePatchNotesOf lines old
      → IsPatchTaken number says old new → ArePatchNotesOf (bytes ∷ lines) new
  patches_more was taken = record {
    sheet =
        taken.sheet ∙ ap (sheet_after number says) was.sheet
        ∙ ap (λ n. sheet_after n says (sheet_below lines)) numbered
        ∙ ap (λ s. sheet_after (length lines + 1) s (sheet_below lines)) is;
    notes =
        taken.notes ∙ more was.notes
        (ap (patch_note_on number says) was.sheet
        ∙ ap (λ n. patch_note_on n says (sheet_below lines)) numbered
        ∙ ap (λ s. patch_note_on (length lines + 1) s (sheet_below lines)) is);
  }

  numbered_more : {above : Heading} {k : Keyword} {old new : NumberedLines}
      → above ≡ heading_below (words_in lines) → k ≡ keyword_in (words_of bytes)
      → has_no_words (words_of bytes) ≡ false → AreNumberedOf lines old
      → IsNumberedTaken above number k says (words_of bytes) old new
      → AreNumberedOf (bytes ∷ lines) new
  numbered_more {above} {k} {old} {new} heads keyed words was taken =
      let l = words_of bytes in
      let h = heading_below (words_in lines) in
      record {
        list =
            taken.list ∙ ap (list_after above number k says l) was.list
            ∙ ap (λ a. list_after a number k says l (list_above lines)) heads
            ∙ ap (λ n. list_after h n k says l (list_above lines)) numbered
            ∙ ap (λ k'. list_after h (length lines + 1) k' says l (list_above lines)) keyed
            ∙ ap (λ s. list_after h (length lines + 1) (keyword_in l) s l (list_above lines)) is
            ∙ ap (λ b. cond b (list_above lines) (list_after h (length lines + 1) (keyword_in l)
            (desk_statement lines bytes) l (list_above lines))) (sym words);
        numbers =
            taken.numbers ∙ ap (numbers_after above number k l) was.numbers
            ∙ ap (λ a. numbers_after a number k l (numbers_above lines)) heads
            ∙ ap (λ n. numbers_after h n k l (numbers_above lines)) numbered
            ∙ ap (λ k'. numbers_after h (length lines + 1) k' l (numbers_above lines)) keyed
            ∙ ap (λ b. cond b (numbers_above lines) (numbers_after h (length lines + 1)
            (keyword_in l) l (numbers_above lines))) (sym words);
        notes =
            taken.notes ∙ more was.notes
            (ap (λ x. run_by above k l x old.numbers.items) was.list
            ∙ ap (run_by above k l (list_above lines)) was.numbers
            ∙ ap (λ a. run_by a k l (list_above lines) (numbers_above lines)) heads
            ∙ ap (λ k'. run_by h k' l (list_above lines) (numbers_above lines)) keyed
            ∙ ap (λ b. cond b [] (run_by h (keyword_in l) l (list_above lines)
            (numbers_above lines))) (sym words));
      }

  parts_more : {above : Heading} {old begun new : List CuePart}
      → above ≡ heading_below (words_in lines) → old ≡ parts_below lines
      → begun ≡ with_part (part_of_line above number says (words_of bytes)) old
      → new ≡ parts_after says begun → new ≡ parts_below (bytes ∷ lines)
  parts_more {above} {old} {begun} {new} heads was first then =
      let l = words_of bytes in
      let h = heading_below (words_in lines) in
      then
      ∙ ap (parts_after says) (first ∙ ap (with_part (part_of_line above number says l)) was
      ∙ ap (λ a. with_part (part_of_line a number says l) (parts_below lines)) heads
      ∙ ap (λ n. with_part (part_of_line h n says l) (parts_below lines)) numbered)
      ∙ ap (λ s. parts_after s
      (with_part (part_of_line h (length lines + 1) s l) (parts_below lines)))
      is

  -- a line adds its notes
  module _ (show : Tables) (k : Keyword) (keyed : k ≡ keyword_in (words_of bytes))
      (words : has_no_words (words_of bytes) ≡ false) (old new : LineNotes)
      (was : AreNotesOf show lines old) (parts : Vec Part Global)
      (begun : newest_first parts.items
      ≡ with_part (part_of_line old.above number says (words_of bytes))
      (newest_first old.parts.items))
      (added : AreMore show number k says bytes (record old { parts = parts }) new)
      (above : Heading)
      (heads : above ≡ heading_below (words_in (bytes ∷ lines))) (unknown : ℕ)
      (counts : unknown ≡ unknown_count (bytes ∷ lines)) where
    link_more : new.links.items ≡ notes_of_kind (link_note show) (bytes ∷ lines)
    link_more =
        added.links ∙ more was.links
        (ap (λ n. link_note_on show n old.above (words_of bytes)) numbered
        ∙ ap (λ h. link_note_on show (length lines + 1) h (words_of bytes)) was.heads)

    pub notes_more : AreNotesOf show (bytes ∷ lines)
        (record new { above = above; unknown_lines = unknown })
    notes_more = record {
      heads = heads;
      numbered = numbered_more was.heads keyed words was.numbered added.numbered;
      parts = parts_more was.heads was.parts begun added.parts;
      patches = patches_more was.patches added.patches;
      links = link_more;
      commas = comma_more was.commas added.commas;
      cues = openings_more Cues was.cues added.cues;
      subs = openings_more Subs was.subs added.subs;
      groups = openings_more Groups was.groups added.groups;
      hours = hour_more was.hours added.hours;
      unknown_lines = counts;
    }

-- what heads the line below a line that was read
pub heading_more : (lines : List (List ℕ)) (bytes : List ℕ) (above : Heading)
    (heads : above ≡ heading_below (words_in lines)) (reading : Reading)
    → Some reading ≡ line_reading desk_limits (owner_of above) (words_of bytes)
    → cond (may_own reading.keyword) (heading_of reading.keyword reading.statement) above
    ≡ heading_below (words_in (bytes ∷ lines))
heading_more lines bytes above heads reading read =
    let k = keyword_is lines bytes above heads reading read in
    let s = statement_is lines bytes above heads reading read in
    ap (λ k'. cond (may_own k') (heading_of k' reading.statement) above) k
    ∙ ap (λ s'. cond (may_own (keyword_in (words_of bytes)))
    (heading_of (keyword_in (words_of bytes)) s') above) s
    ∙ ap (λ h. cond (may_own (keyword_in (words_of bytes)))
    (heading_of (keyword_in (words_of bytes)) (desk_statement lines bytes)) h) heads
    ∙ ap (λ b. cond b (heading_of (keyword_in (words_of bytes)) (desk_statement lines bytes))
    (heading_below (words_in lines))) (sym (owns_is (words_of bytes)))

-- ---- lines of unknown keywords

-- no more of them than lines
pub few_unknown : (lines : List (List ℕ)) → unknown_count lines ≤ length lines
few_unknown [] = omega arith
few_unknown (line ∷ above) =
    omega (arith, few_unknown above, one (heading_below (words_in above)) (words_of line))
  where
    one : (h : Heading) (l : Words) → unknown_in h l ≤ 1
    one h [] = omega arith
    one h (word ∷ words) =
        elim (is_unknown h (keyword_of word)) as (λ b. cond b 1 0 ≤ 1) [
          | true ↦ omega arith
          | false ↦ omega arith
        ]

-- a line that was read counts by its keyword
pub unknown_is : (owner : Option Record) (h : Heading) (l : Words) (reading : Reading)
    → Some reading ≡ line_reading desk_limits owner l
    → unknown_in h l ≡ cond (is_unknown h reading.keyword) 1 0
unknown_is owner h [] reading e = cc
unknown_is owner h (word ∷ words) reading e =
    ap (λ k. cond (is_unknown h k) 1 0)
    (sym (reading_is owner (word ∷ words) reading e).keyword)
