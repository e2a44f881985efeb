-- What a reader has made of the lines so far, with one line more, and what it answers in the end.
use Rattle.std.proofs.Common.{◌≡◌, ℕ, ◌+◌, Bool, false, cond, List, [], ◌∷◌, IsTrue, length, refl}
use Rattle.std.proofs.Common.{sym, ap, ◌∙◌, arith, Option, Some, None, All, ◌++◌, is_some, inl, inr}
use Rattle.std.proofs.Common.{add-zero, ◌≤◌, map, ◌⊎◌}
use Rattle.std.specs.Prelude.{IfSome, nat_lt, option_map}
use Rattle.std.specs.FinMap as maps
use Rattle.std.proofs.lemmas.Bool.Decides.{nat_tests}
use Rattle.std.proofs.lemmas.List.Elements.{All-head, All-tail}
use Rattle.std.proofs.lemmas.List.Sums.{sum_by-cons}
use Rattle.std.proofs.lemmas.Option.{none-some, same_Some}
use Rattle.show_reader.specs.Terms.{CueData, Tables, Limits, Record, Statement, Levels, Patches}
use Rattle.show_line.specs.declared.line.Reading.{Reading}
use Rattle.show_line.specs.Keywords.{keyword_of, may_own}
use Rattle.show_line.specs.Said.{desk_limits, record_opened, line_reading}
use Rattle.show_line.specs.Sound.{IsSound}
use Rattle.show_line.proofs.Ranged.{IsSaid, said_is}
use Rattle.show_reader.specs.declared.apply.Refusal.{Refusal}
use Rattle.show_reader.specs.declared.fault.ShowFault.{ShowFault}
use Rattle.show_reader.specs.declared.apply.Refusal.TheVariants as refusal
use Rattle.show_reader.specs.declared.fault.ShowFault.TheVariants as show_fault
use Rattle.show_reader.specs.declared.draft.Draft.{Draft}
use Rattle.show_reader.specs.declared.read.Reader.{Reader}
use Rattle.show_reader.specs.Text.{Words, owns, said_under, owner_below, ends, up_to_end, lines_in}
use Rattle.show_reader.specs.Text.{statement_below}
use Rattle.show_reader.specs.Keys.{There}
use Rattle.show_reader.specs.Meaning.{Silent, after, newer, last_news, says, cue_count, is_skipped}
use Rattle.show_reader.specs.Meaning.{is_record_there}
use Rattle.show_reader.specs.Shows.{IsShowOf}
use Rattle.show_reader.specs.Reading.{fault_at, fault_below, first_fault, faultless_front, grows}
use Rattle.show_reader.specs.Reading.{text_fault, longest_text, NothingGrows}
use Rattle.show_reader.specs.Applied.{show_after, refused_by, HasOwner}
use Rattle.show_reader.specs.Reads.{show_of_draft, IsDraft, IsSettled, ExplainsRefusal}
use Rattle.show_reader.specs.Reads.{statements_in, NoneGrows, Reads}
use Rattle.show_reader.specs.Reads.{EndsAt, refusal_at}
use Rattle.show_reader.proofs.Found.{step, count_step, nothing, nothing_found}
use Rattle.std.specs.Ordering.{nat_cmp}
use mathlib.Core.List.{reverse_aux}
use Rattle.ascii_text.specs.Text.{words_of, numbered_from}
use Rattle.show_reader.proofs.OneShow.{same_tables}

-- what a line says under an owner
pub line_said : (lim : Limits) (owner : Option Record) (l : Words)
    → IsSaid lim owner (owns l) (said_under lim owner l)
line_said lim owner [] = tt
line_said lim owner (w ∷ words) = said_is lim owner (keyword_of w) words

-- ---- the owner of a line is there, above it and below

-- a statement of an owner that is there has what it needs
owned : (owner : Option Record) (own : Bool) (s : Statement) (ss : List Statement) (show : Tables)
    → IsSaid desk_limits owner own s → IfSome owner (λ q. IsTrue (is_record_there q ss))
    → IsShowOf ss show → HasOwner show s
owned owner own s ss show of there h = grind arith

-- a list of which none has news
no_news : {X Y : Type 0} (xs : List X) → last_news {X = X} {Y = Y} (λ x. Silent) xs ≡ Silent
no_news [] = refl
no_news (x ∷ xs) = ap (λ news. newer news Silent) (no_news xs)

-- a statement that does not clear leaves a record
left_there : (owner : Option Record) (s : Statement) → IsSaid desk_limits owner false s
    → (q : Record) (o : Option (Unit {0})) → IsTrue (is_some o)
    → IsTrue (is_some (after (says s (There q)) o))
left_there owner (Levels r ps) of q o h = rw (no_news ps) h
left_there owner (Patches ts) of q o h = rw (no_news ts) h
left_there owner s of q o h = grind arith

-- one that opens a record has it there, and so the owner of what stands below lines is there
owner_there : (lines : List Words)
    → IfSome (owner_below desk_limits lines) (λ q. IsTrue (is_record_there q (statements_in lines)))
owner_there [] = tt
owner_there (l ∷ above) =
    go (owner_below desk_limits above) (owns l) (statement_below desk_limits above l)
    (line_said desk_limits (owner_below desk_limits above) l) (owner_there above)
  where
    go : (owner : Option Record) (own : Bool) (s : Statement) → IsSaid desk_limits owner own s
        → IfSome owner (λ q. IsTrue (is_record_there q (statements_in above)))
        → IfSome (cond own (record_opened s) owner)
        (λ q. IsTrue (is_record_there q (s ∷ statements_in above)))
    go (Some q) false s of h = left_there (Some q) s of q _ h
    go owner own s of h = grind (arith, nat_tests)

-- ---- the show refuses what the text's meaning refuses

-- a show that the statements mean refuses the next one where it has a fault
refused_is : (ss : List Statement) (s : Statement) (show : Tables) → IsSound s → IsShowOf ss show
    → cue_count ss ≡ maps.len show.cues → refused_by show s ≡ fault_below ss s
refused_is ss s show numbered h count = grind (arith, nat_tests)

-- ---- a line below those that were read

-- what was read of a line with words, in the words of its meaning
pub reading_is : (lines : List Words) (l : Words) (r : Reader) (reading : Reading) → Reads lines r
    → Some reading ≡ line_reading desk_limits r.owner l
    → (reading.statement ≡ statement_below desk_limits lines l) × (may_own reading.keyword ≡ owns l)
reading_is lines [] r reading h e = absurd (none-some reading (sym e))
reading_is lines (w ∷ words) r reading h e = rw (same_Some reading _ e, h.owner) (refl, refl)

-- ---- what grows

-- a statement that grows no show
abbrev IsStill : Statement → Type 0
IsStill s = grows s ≡ false

-- where no statement grows a show, none does above the last one, nor that one without a fault
pub none_grows : (s : Statement) (ss : List Statement) → NoneGrows (s ∷ ss)
    → NoneGrows ss × (first_fault (s ∷ ss) ≡ None → IsStill s)
none_grows s ss = go (first_fault (s ∷ ss))
  where
    go : (o : Option ShowFault) → All IsStill (cond (is_some o) [] (s ∷ []) ++ faultless_front ss)
        → NoneGrows ss × (o ≡ None → IsStill s)
    go None all = (All-tail IsStill s (faultless_front ss) all, λ e. All-head IsStill s _ all)
    go (Some f) all = (all, λ e. cc)

-- ---- one line more

module _ (lines : List Words) (l : Words) (r : Reader) (h : Reads lines r) where
  -- what the line says
  abbrev s : Statement
  s = statement_below desk_limits lines l

  -- it has the owner that it needs, since its owner is there
  pub owner_here : HasOwner (show_of_draft r.draft) s
  owner_here =
      let owner = owner_below desk_limits lines in
      owned owner (owns l) s (statements_in lines) (show_of_draft r.draft)
      (line_said desk_limits owner l)
      (owner_there lines) h.shows

  -- the fault is the line's where the show refuses what it says
  fault_here : IsSound s → first_fault (statements_in (l ∷ lines))
      ≡ option_map (fault_at (r.lines + 1)) (refused_by (show_of_draft r.draft) s)
  fault_here sound =
      rw (
        h.faultless,
        h.number,
        refused_is (statements_in lines) s (show_of_draft r.draft) sound
            h.shows h.count,
      )
      refl

  no_fault : IsSound s → refused_by (show_of_draft r.draft) s ≡ None
      → first_fault (statements_in (l ∷ lines)) ≡ None
  no_fault sound fine = rw (fault_here sound, fine) refl

  -- the reader behind it
  pub line_read : (d : Draft) → IsSound s → refused_by (show_of_draft r.draft) s ≡ None → IsDraft d
      → show_of_draft d ≡ show_after s (show_of_draft r.draft)
      → (IsSettled r.draft → grows s ≡ false → IsSettled d)
      → (skipped : ℕ) → skipped ≡ r.skipped + cond (is_skipped s) 1 0
      → Reads (l ∷ lines) (record {
        draft = d;
        owner = cond (owns l) (record_opened s) r.owner;
        lines = r.lines + 1;
        skipped = skipped;
      })
  line_read d sound fine drafted ok settled skipped counted =
      let ss = statements_in lines in
      record {
        shows = rw ok (step ss s (show_of_draft r.draft) owner_here h.shows);
        drafted = drafted;
        settled = λ none.
            let below = none_grows s ss none in
            settled (h.settled below.0) (below.1 (no_fault sound fine));
        faultless = no_fault sound fine;
        owner = rw h.owner refl;
        count = rw ok (count_step ss s (show_of_draft r.draft) h.shows h.count);
        number = omega (arith, h.number);
        skipped = omega
            (arith, counted, h.skipped, sum_by-cons (λ t. cond (is_skipped t) 1 0) s ss);
      }

  -- why reading ends at it
  pub line_ends : IsSound s → (e : Refusal) → ExplainsRefusal r.draft s e
      → EndsAt lines l (refusal_at (r.lines + 1) e)
  line_ends sound (refusal.Fault f) is = inr (rw (fault_here sound, is) refl)
  line_ends sound refusal.Memory is =
      inl (
        refl,
        λ none.
            let below = none_grows s (statements_in lines) none in
            let why = is (h.settled below.0) in
            why.1 (below.1 (no_fault sound why.0)),
      )

-- a line without words says nothing
pub quiet_line : (lines : List Words) (l : Words) (r : Reader) (n : ℕ) → Reads lines r
    → n ≡ r.lines + 1 → None ≡ line_reading desk_limits r.owner l
    → Reads (l ∷ lines) (record r { lines = n })
quiet_line lines [] r n h next none =
    rw next (line_read lines [] r h r.draft tt refl h.drafted refl (λ settled none. settled)
    r.skipped (sym (add-zero r.skipped)))
quiet_line lines (w ∷ words) r n h next none = absurd (none-some _ none)

-- ---- a whole text

-- lines that are numbered from n on
abbrev pub IsNumbered : ℕ → List (ℕ × List ℕ) → Type 0
IsNumbered n [] = Unit {0}
IsNumbered n (l ∷ ls) = (l.0 ≡ n) × IsNumbered (n + 1) ls

pub numbered : (n : ℕ) (ls : List (List ℕ)) → IsNumbered n (numbered_from n ls)
numbered n [] = tt
numbered n (l ∷ ls) = (refl, numbered (n + 1) ls)

-- the words of lines that have numbers
abbrev pub words_ahead : List (ℕ × List ℕ) → List Words
words_ahead = map (λ l. words_of l.1)

pub same_words : (n : ℕ) (ls : List (List ℕ)) → map words_of ls ≡ words_ahead (numbered_from n ls)
same_words n [] = refl
same_words n (l ∷ ls) = ap (λ ws. words_of l ∷ ws) (same_words (n + 1) ls)

-- a reader stands behind these lines of a text, and these are left, with their numbers
pub record StandsBehind (text : List ℕ) (lines : List Words) (ahead : List (ℕ × List ℕ))
    (r : Reader) : Type 0 where
  pub reads : Reads lines r
  pub numbered : IsNumbered (r.lines + 1) ahead
  pub all : lines_in text ≡ reverse_aux (up_to_end (words_ahead ahead)) lines

-- a new reader stands behind no line
pub nothing_read : (d : Draft) → (show_of_draft d).cues ≡ maps.empty → (show_of_draft d).subs
    ≡ maps.empty
    → (show_of_draft d).groups ≡ maps.empty → (show_of_draft d).patch ≡ maps.empty → IsDraft d
    → IsSettled d
    → Reads [] (record { draft = d; owner = None; lines = 0; skipped = 0 })
nothing_read d cues subs groups patch drafted settled = record {
  shows = rw (same_tables (show_of_draft d) nothing cues subs groups patch) nothing_found;
  drafted = drafted;
  settled = λ none. settled;
  faultless = refl;
  owner = refl;
  count = sym (ap maps.len cues ∙ maps.len-empty nat_cmp CueData);
  number = refl;
  skipped = refl;
}

-- a fault stays, whatever is read below it
fault_stays : (more lines : List Words) (f : ShowFault) → first_fault (statements_in lines) ≡ Some f
    → first_fault (statements_in (reverse_aux more lines)) ≡ Some f
fault_stays [] lines f h = h
fault_stays (m ∷ more) lines f h = fault_stays more (m ∷ lines) f (rw h refl)

-- where no statement grows a show, none does in the first lines
none_before : (more lines : List Words) → NoneGrows (statements_in (reverse_aux more lines))
    → NoneGrows (statements_in lines)
none_before [] lines h = h
none_before (m ∷ more) lines h =
    (none_grows _ (statements_in lines) (none_before more (_ ∷ lines) h)).0

-- the next line, with its number and its bytes, and what is left behind it
module _ {text : List ℕ} {lines : List Words} {r : Reader} {number : ℕ} {bytes : List ℕ}
    {behind : List (ℕ × List ℕ)} (next : StandsBehind text lines ((number, bytes) ∷ behind) r) where
  -- behind a line that ends the text, nothing is left; behind another, the rest is
  pub go_on : (b : Bool) → ends (words_of bytes) ≡ b → lines_in text
      ≡ reverse_aux (cond b [] (up_to_end (words_ahead behind))) (words_of bytes ∷ lines)
  go_on b is = rw (← is) next.all

  -- the lines that are read below the next one
  abbrev below : List Words
  below = cond (ends (words_of bytes)) [] (up_to_end (words_ahead behind))

  -- why reading ends at it is why the text is refused, for where nothing grows in the text, nothing
  -- does down to it
  pub refused_at : (f : ShowFault) → length text ≤ 1048576 → EndsAt lines (words_of bytes) f
      → ((f ≡ show_fault.Memory) ⊎ (text_fault desk_limits text ≡ Some f))
      × (NothingGrows desk_limits text → text_fault desk_limits text ≡ Some f)
  refused_at f short (inl memory) = (
    inl memory.0,
    λ none. absurd (memory.1 (none_before below (words_of bytes ∷ lines) (rw next.all at none))),
  )
  refused_at f short (inr fault) =
      let small : nat_lt longest_text (length text) ≡ false = grind (arith, nat_tests) in
      let refused : text_fault desk_limits text ≡ Some f
      = rw (small, next.all) (fault_stays below (words_of bytes ∷ lines) f fault) in
      (inr refused, λ none. refused)
