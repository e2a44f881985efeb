-- What is made of the lines of a text, one after the other.
use Rattle.cmd_explain.proofs.Terms.{◌≡◌, ℕ, ◌+◌, ◌≤◌, Bool, true, false, cond, List, [], ◌∷◌}
use Rattle.cmd_explain.proofs.Terms.{length, reverse, take, refl, sym, ap, subst, ◌∙◌, arith}
use Rattle.cmd_explain.proofs.Terms.{Option, Some, None, ◌<◌, reverse_onto, length-reverse}
use Rattle.cmd_explain.proofs.Terms.{reverse-reverse, take_all}
use Rattle.cmd_explain.proofs.Terms.{take-append_seam, reverse_aux, lines_of, numbered_from}
use Rattle.cmd_explain.proofs.Terms.{words_of, Keyword, Reading, Record, keyword_of, desk_limits}
use Rattle.cmd_explain.proofs.Terms.{record_opened, line_reading, statement_in, is_skipped, Words}
use Rattle.cmd_explain.proofs.Terms.{owner_below, owns, said_under, statement_below, Heading}
use Rattle.cmd_explain.proofs.Terms.{heading_below, heading_by, heading_of, is_clear, is_maker}
use Rattle.cmd_explain.proofs.Terms.{keyword_in, operands, owner_of, reason_of}
use Rattle.cmd_explain.proofs.Terms.{skipped_line_below, skipped_line, words_in}
use Rattle.cmd_explain.specs.declared.heading.Heading.TheVariants as heading

-- ---- one line

-- what was read of a line
pub record IsReading (owner : Option Record) (l : Words) (reading : Reading) : Type 0 where
  pub statement : reading.statement ≡ said_under desk_limits owner l
  pub keyword : reading.keyword ≡ keyword_in l

pub reading_is : (owner : Option Record) (l : Words) (reading : Reading)
    → Some reading ≡ line_reading desk_limits owner l → IsReading owner l reading
reading_is owner [] reading e = cc
reading_is owner (w ∷ words) reading e =
    let is : reading
    ≡ record {
      keyword = keyword_of w;
      statement = statement_in desk_limits owner (keyword_of w)
          words;
    } =
    cc in
    record {
      statement = ap (λ (r : Reading). r.statement) is;
      keyword = ap (λ (r : Reading). r.keyword) is;
    }

-- ---- what heads it

skipped_owner : (maker clear : Bool)
    → owner_of (cond maker heading.Maker (cond clear heading.Nothing heading.OtherPage)) ≡ None
skipped_owner true clear = refl
skipped_owner false true = refl
skipped_owner false false = refl

heading_owner : (o : Option Record) (skipped : Bool) (k : Keyword)
    → owner_of (heading_by o skipped k) ≡ o
heading_owner (Some r) skipped k = refl
heading_owner None true k = skipped_owner (is_maker k) (is_clear k)
heading_owner None false k = refl

-- the record that owns the lines below is the one that the reader keeps
owner_is : (ls : List Words) → owner_of (heading_below ls) ≡ owner_below desk_limits ls
owner_is [] = refl
owner_is (l ∷ above) = go (owns l) (owner_is above)
  where
    go : (b : Bool) → owner_of (heading_below above) ≡ owner_below desk_limits above
        → owner_of (cond b (heading_of (keyword_in l) (statement_below desk_limits above l))
        (heading_below above))
        ≡ cond b (record_opened (statement_below desk_limits above l))
        (owner_below desk_limits above)
    go true is =
        let s = statement_below desk_limits above l in
        heading_owner (record_opened s) (is_skipped s) (keyword_in l)
    go false is = is

-- ---- a line below others

module _ (lines : List (List ℕ)) (bytes : List ℕ) (above : Heading)
    (heads : above ≡ heading_below (words_in lines)) where
  abbrev l : Words
  l = words_of bytes

  module _ (reading : Reading) (read : Some reading ≡ line_reading desk_limits (owner_of above) l)
    where
      pub statement_is : reading.statement ≡ statement_below desk_limits (words_in lines) l
      statement_is =
          (reading_is (owner_of above) l reading read).statement
          ∙ ap (λ o. said_under desk_limits o l) (ap owner_of heads ∙ owner_is (words_in lines))

      pub keyword_is : reading.keyword ≡ keyword_in l
      keyword_is = (reading_is (owner_of above) l reading read).keyword

      -- what is printed of it
      pub skipped_line_here : (number : ℕ) (b : Bool) → number ≡ length lines + 1
          → is_skipped reading.statement ≡ b
          → cond b (skipped_line number (reason_of above reading.keyword (operands l)) bytes) []
          ≡ skipped_line_below lines bytes
      skipped_line_here number b numbered skips =
          let line : ℕ → Heading → Keyword → List ℕ =
          λ n h k. skipped_line n (reason_of h k (operands l)) bytes in
          ap (λ b'. cond b' (line number above reading.keyword) [])
          (sym skips ∙ ap is_skipped statement_is)
          ∙ ap (λ text. cond (is_skipped (statement_below desk_limits (words_in lines) l)) text [])
          (ap (λ n. line n above reading.keyword) numbered
          ∙ ap (line (length lines + 1) above) keyword_is
          ∙ ap (λ h. line (length lines + 1) h (keyword_in l)) heads)

-- ---- all lines

-- numbered lines are a line and those behind it
pub next_numbered : (n : ℕ) (left : List (List ℕ)) (number : ℕ) (bytes : List ℕ)
    (behind : List (ℕ × List ℕ)) → (number, bytes) ∷ behind ≡ numbered_from n left
    → (rest : List (List ℕ)) × (left ≡ bytes ∷ rest) × (behind ≡ numbered_from (n + 1) rest)
    × (number ≡ n)
next_numbered n [] number bytes behind e = cc
next_numbered n (l ∷ rest) number bytes behind e =
    let first : ◌≡◌ {A = ℕ × List ℕ} (number, bytes) (n, l) = cc in
    (rest, ap (λ b. b.1 ∷ rest) (sym first), cc, ap (λ b. b.0) first)

-- where none is numbered, none is left
pub none_left : (n : ℕ) (left : List (List ℕ)) → numbered_from n left ≡ [] → left ≡ []
none_left n [] e = refl
none_left n (l ∷ left) e = cc

front_of : (lines left : List (List ℕ))
    → take (length lines) (reverse_aux lines left) ≡ reverse lines
front_of lines left =
    ap (λ n. take n (reverse_aux lines left)) (sym (length-reverse lines)) ∙ go left
  where
    go : (left : List (List ℕ))
        → take (length (reverse lines)) (reverse_aux lines left) ≡ reverse lines
    go [] = take_all (length (reverse lines)) (reverse lines) (omega arith)
    go (l ∷ left) =
        ap (take (length (reverse lines))) (reverse_onto lines l left)
        ∙ take-append_seam (reverse lines) (l ∷ left)

-- lines that are as many as are read are all that are read
pub all_that_are_read : (text : List ℕ) (count : ℕ) (lines left : List (List ℕ))
    → lines_of text ≡ reverse_aux lines left → length lines ≡ count
    → lines ≡ reverse (take count (lines_of text))
all_that_are_read text count lines left all is =
    sym (ap (λ ls. reverse (take count ls)) all
    ∙ ap (λ n. reverse (take n (reverse_aux lines left))) (sym is)
    ∙ ap reverse (front_of lines left) ∙ reverse-reverse lines)

-- so are fewer, where the text has no line more
pub all_that_are_there : (text : List ℕ) (count : ℕ) (lines : List (List ℕ))
    → lines_of text ≡ reverse lines → length lines ≤ count
    → lines ≡ reverse (take count (lines_of text))
all_that_are_there text count lines whole within =
    let short : length (reverse lines) ≤ count = omega (arith, length-reverse lines, within) in
    sym (ap (λ ls. reverse (take count ls)) whole
    ∙ ap reverse (take_all count (reverse lines) short) ∙ reverse-reverse lines)

-- of so many lines of a text the first are read, and this holds of them, the newest first; the
-- others are ahead, with their numbers
pub record FirstRead (text : List ℕ) (count : ℕ) (ahead : List (ℕ × List ℕ))
    (Holds : List (List ℕ) → Type 0) : Type 0 where
  pub lines : List (List ℕ)
  pub left : List (List ℕ)
  pub numbered : ahead ≡ numbered_from (length lines + 1) left
  pub all : lines_of text ≡ reverse_aux lines left
  pub within : length lines ≤ count
  pub holds : Holds lines

pub no_line : {text : List ℕ} {count : ℕ} {ahead : List (ℕ × List ℕ)}
    {Holds : List (List ℕ) → Type 0} → ahead ≡ numbered_from 1 (lines_of text) → Holds []
    → FirstRead text count ahead Holds
no_line {text} is holds = record {
  lines = [];
  left = lines_of text;
  numbered = is;
  all = refl;
  within = omega arith;
  holds = holds;
}

module _ {text : List ℕ} {count : ℕ} {ahead behind : List (ℕ × List ℕ)} {number : ℕ}
    {bytes : List ℕ} {Held : List (List ℕ) → Type 0} (read : FirstRead text count ahead Held)
    (steps : ahead ≡ (number, bytes) ∷ behind) where
  -- one line more
  pub one_line : {Holds : List (List ℕ) → Type 0} → number ≤ count
      → ((lines : List (List ℕ)) → Held lines → number ≡ length lines + 1 → Holds (bytes ∷ lines))
      → FirstRead text count behind Holds
  one_line within more =
      let next = next_numbered (length read.lines + 1) read.left number bytes behind
      (sym steps ∙ read.numbered) in
      let longer : length read.lines + 1 + 1 ≡ length (bytes ∷ read.lines) + 1 = omega arith in
      record {
        lines = bytes ∷ read.lines;
        left = next.0;
        numbered = next.2 ∙ ap (λ n. numbered_from n next.0) longer;
        all = read.all ∙ ap (reverse_aux read.lines) next.1;
        within = omega (arith, next.3, within);
        holds = more read.lines read.holds next.3;
      }

  -- so many lines are read
  pub all_read : count < number → Held (reverse (take count (lines_of text)))
  all_read beyond =
      let next = next_numbered (length read.lines + 1) read.left number bytes behind
      (sym steps ∙ read.numbered) in
      subst Held (all_that_are_read text count read.lines read.left read.all
      (omega (arith, read.within, next.3, beyond))) read.holds

-- the text has no line more
pub no_more : {text : List ℕ} {count : ℕ} {ahead : List (ℕ × List ℕ)}
    {Held : List (List ℕ) → Type 0} → FirstRead text count ahead Held → ahead ≡ []
    → Held (reverse (take count (lines_of text)))
no_more {text} {count} {ahead} {Held} read none =
    let empty = none_left (length read.lines + 1) read.left (sym read.numbered ∙ none) in
    subst Held (all_that_are_there text count read.lines
    (read.all ∙ ap (reverse_aux read.lines) empty) read.within) read.holds
