-- What a statement does to a show is what it says: at each key the show answers as it did, but for
-- the statement's news.
use Rattle.std.proofs.Common.{◌≡◌, ℕ, cond, IsTrue, List, [], ◌∷◌, refl, sym, ap, ◌∙◌, Option, Some}
use Rattle.std.proofs.Common.{None, is_some, arith, ◌++◌}
use Rattle.std.specs.Prelude.{◌==◌}
use Rattle.std.specs.Ordering.{nat_cmp}
use Rattle.std.specs.Cmp.{nat_cmp_total, unsigned_tied}
use Rattle.std.specs.FinMap as maps
use Rattle.std.proofs.lemmas.Bool.Decides.{nat_tests}
use Rattle.show_reader.specs.Terms.{PatchMap, Tables, Record, Cue, Statement, Levels, SetsTime}
use Rattle.show_reader.specs.Terms.{Patches, Clears, All, Triple}
use Rattle.show_core.specs.Builders.{patched_with, all_patched}
use Rattle.show_core.proofs.Cues.{time_set, no_time, levels_stay}
use Rattle.show_reader.specs.Keys.{Key, There, Level, Time, Dimmer, has_record, answer_for}
use Rattle.show_reader.specs.Meaning.{after, pair_says, triple_says, says, cue_count}
use Rattle.show_reader.specs.Meaning.{is_record_there}
use Rattle.show_reader.specs.Shows.{IsShowOf}
use Rattle.show_reader.specs.Applied.{with_pairs, with_triples, show_after, HasOwner}
use Rattle.show_reader.specs.Reads.{with_listing}

-- a key that was set
get-insert : {V : Type 0} (m : maps.FinMap nat_cmp V) (n : ℕ) (v : V) (q : ℕ)
    → maps.get (maps.insert m n v) q ≡ cond (q == n) (Some v) (maps.get m q)
get-insert m n v q = grind (arith, maps.gets, nat_tests)

-- ---- CHAN

-- the first pair, and then the others
abbrev with_pair : Tables → Record → ℕ × ℕ → Tables
with_pair show r p = with_pairs show r (p ∷ [])

one_by_one : (show : Tables) (r : Record) (p : ℕ × ℕ) (ps : List (ℕ × ℕ))
    → with_pairs show r (p ∷ ps) ≡ with_pairs (with_pair show r p) r ps
one_by_one show r p ps = grind arith

-- here and below, cases that name a record of the key make `grind` meet each kind of key and record
pair_found : (show : Tables) (r : Record) (p : ℕ × ℕ) → IsTrue (has_record show r) → (k : Key)
    → answer_for (with_pair show r p) k ≡ after (pair_says r p k) (answer_for show k)
pair_found show r p there (There (Cue m)) = grind (arith, get-insert, nat_tests)
pair_found show r p there (Level (Cue m) c) = grind (arith, get-insert, nat_tests)
pair_found show r p there k = grind (arith, get-insert, nat_tests)

pairs_found : (show : Tables) (r : Record) (ps : List (ℕ × ℕ)) → IsTrue (has_record show r)
    → (k : Key) → answer_for (with_pairs show r ps) k
    ≡ after (says (Levels r ps) k) (answer_for show k)
pairs_found show r [] there k = grind arith
pairs_found show r (p ∷ ps) there k =
    let left : IsTrue (has_record (with_pair show r p) r) = grind (arith, get-insert, nat_tests) in
    rw (one_by_one show r p ps, pairs_found (with_pair show r p) r ps left k)
    (rw (pair_found show r p there k) (grind arith))

-- ---- PATCH

-- a show with another patch
abbrev repatched : Tables → PatchMap → Tables
repatched show patch = record show { patch = patch }

triple_found : (show : Tables) (t : Triple) (k : Key)
    → answer_for (repatched show (patched_with show.patch t.dimmer t.channel t.level)) k
    ≡ after (triple_says t k) (answer_for show k)
triple_found show t (Dimmer d) =
    grind (arith, get-insert, maps.get-remove {X = ℕ × ℕ} nat_cmp_total, unsigned_tied)
triple_found show t k = refl

triples_found : (show : Tables) (ts : List Triple) (k : Key)
    → answer_for (repatched show (with_triples show.patch ts)) k
    ≡ after (says (Patches ts) k) (answer_for show k)
triples_found show [] k = refl
triples_found show (t ∷ ts) k =
    let patch = patched_with show.patch t.dimmer t.channel t.level in
    grind (arith, triple_found show t k, triples_found (repatched show patch) ts k)

-- ---- one statement

-- a statement that has its owner does to the show what it says
pub applied_found : (s : Statement) (show : Tables) → HasOwner show s → (k : Key)
    → answer_for (show_after s show) k ≡ after (says s k) (answer_for show k)
applied_found (Levels r ps) show owned k = pairs_found show r ps owned k
applied_found (Patches ts) show owned k = triples_found show ts k
applied_found (SetsTime n time) show owned (Time m name) =
    grind (arith, get-insert, time_set, nat_tests)
applied_found (SetsTime n time) show owned (Level (Cue m) c) =
    grind (arith, get-insert, levels_stay, nat_tests)
applied_found s show owned (Time m name) =
    grind (arith, get-insert, maps.get-empty, no_time, nat_tests)
applied_found s show owned (There (Cue m)) = grind (arith, get-insert, maps.get-empty, nat_tests)
applied_found s show owned (Level (Cue m) c) = grind (arith, get-insert, maps.get-empty, nat_tests)
applied_found s show owned k = grind (arith, get-insert, maps.get-empty, nat_tests)

-- a show with nothing in it
abbrev pub nothing : Tables
nothing = record { cues = maps.empty; subs = maps.empty; groups = maps.empty; patch = maps.empty }

pub nothing_found : (k : Key) → answer_for nothing k ≡ None
nothing_found k = applied_found (Clears All) nothing tt k

-- so it leads on from the show that the statements above it mean
pub step : (ss : List Statement) (s : Statement) (show : Tables) → HasOwner show s
    → IsShowOf ss show → IsShowOf (s ∷ ss) (show_after s show)
step ss s show owned h k = applied_found s show owned k ∙ ap (after (says s k)) (h k)

-- a show has the records that it answers to
pub record_is : (show : Tables) (r : Record) → is_some (answer_for show (There r))
    ≡ has_record show r
record_is show r = grind arith

-- a show has the records that the statements have
pub record_there : (ss : List Statement) (show : Tables) (r : Record) → IsShowOf ss show
    → has_record show r ≡ is_record_there r ss
record_there ss show r h = sym (record_is show r) ∙ ap is_some (h (There r))

-- ---- how many cues there are

len-with_pairs : (show : Tables) (r : Record) (ps : List (ℕ × ℕ))
    → maps.len (with_pairs show r ps).cues ≡ maps.len show.cues
len-with_pairs show r [] = grind arith
len-with_pairs show r (p ∷ ps) =
    grind (arith, maps.gets, len-with_pairs (with_pair show r p) r ps)

pub count_step : (ss : List Statement) (s : Statement) (show : Tables) → IsShowOf ss show
    → cue_count ss ≡ maps.len show.cues → cue_count (s ∷ ss) ≡ maps.len (show_after s show).cues
count_step ss s show h e = grind (arith, maps.gets, len-with_pairs)

-- ---- what is kept aside

-- pairs behind others
pub pairs_more : (show : Tables) (r : Record) (ps qs : List (ℕ × ℕ))
    → with_pairs show r (ps ++ qs) ≡ with_pairs (with_pairs show r ps) r qs
pairs_more show r [] qs = grind arith
pairs_more show r (p ∷ ps) qs =
    rw (one_by_one show r p (ps ++ qs), one_by_one show r p ps)
    (pairs_more (with_pair show r p) r ps qs)

patched_more : (patch : PatchMap) (es fs : List (ℕ × (ℕ × ℕ)))
    → all_patched patch (es ++ fs) ≡ all_patched (all_patched patch es) fs
patched_more patch [] fs = refl
patched_more patch (e ∷ es) fs = patched_more (patched_with patch e.0 e.1.0 e.1.1) es fs

-- a dimmer that is patched behind others
pub patched_last : (show : Tables) (which : Option Record) (ps : List (ℕ × ℕ))
    (es : List (ℕ × (ℕ × ℕ))) (e : ℕ × (ℕ × ℕ))
    → let with = λ (patch : PatchMap). with_listing (record show { patch = patch }) which ps in
    with (all_patched show.patch (es ++ e ∷ []))
    ≡ record (with (all_patched show.patch es)) {
      patch = patched_with (with (all_patched show.patch es)).patch e.0 e.1.0 e.1.1;
    }
patched_last show which ps es e = grind (arith, patched_more)
