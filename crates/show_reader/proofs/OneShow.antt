-- Statements mean one show alone.
use Rattle.std.proofs.Common.{subst, ◌≡◌, ◌∙◌, sym, ap, ℕ, List, Option, Some, is_some, arith}
use Rattle.std.proofs.Common.{option_and_then}
use Rattle.std.specs.Ordering.{nat_cmp}
use Rattle.std.specs.FinMap as maps
use Rattle.std.proofs.lemmas.Cmp.{nat_cmp_total}
use Rattle.show_core.proofs.Cues.{same_cue}
use Rattle.show_reader.specs.Terms.{CueData, LevelMap, Tables, TimeName, time_in, Record, Cue}
use Rattle.show_reader.specs.Terms.{Group, Sub, Statement}
use Rattle.show_line.specs.Said.{desk_limits}
use Rattle.show_reader.specs.Text.{statements_of}
use Rattle.show_reader.specs.ItsShow.{OfItsShow}
use Rattle.show_reader.specs.Keys.{Key, There, Level, Time, Dimmer, has_record, answer_for}
use Rattle.show_reader.specs.Shows.{IsShowOf}
use Rattle.show_reader.proofs.Found.{record_is}

-- two maps with the same value at each key are one
same_map : {X : Type 0} (m n : maps.FinMap nat_cmp X) → ((q : ℕ) → maps.get m q ≡ maps.get n q)
    → m ≡ n
same_map m n is = maps.same_map nat_cmp_total maps.nat_cmp-IsAntisymmetric m n is

-- masters that are there alike and list alike are alike
same_levels : (a b : Option LevelMap) → is_some a ≡ is_some b
    → ((c : ℕ) → option_and_then (λ levels. maps.get levels c) a
    ≡ option_and_then (λ levels. maps.get levels c) b) → a ≡ b
same_levels (Some a) (Some b) there each = ap Some (same_map a b each)
same_levels a b there each = grind arith

-- cues that are there alike, with alike levels and times, are alike
same_cues : (a b : Option CueData) → is_some a ≡ is_some b
    → ((c : ℕ) → option_and_then (λ cue. maps.get cue.levels c) a
    ≡ option_and_then (λ cue. maps.get cue.levels c) b)
    → ((name : TimeName) → option_and_then (λ cue. time_in cue name) a
    ≡ option_and_then (λ cue. time_in cue name) b) → a ≡ b
same_cues (Some a) (Some b) there levels times =
    ap Some (same_cue a b (same_map a.levels b.levels levels) times)
same_cues a b there levels times = grind arith

-- tables that are alike one by one
pub same_tables : (s t : Tables) → s.cues ≡ t.cues → s.subs ≡ t.subs → s.groups ≡ t.groups
    → s.patch ≡ t.patch → s ≡ t
same_tables s t cues subs groups patch = grind arith

-- statements mean one show alone
pub same_show : (ss : List Statement) (s t : Tables) → IsShowOf ss s → IsShowOf ss t → s ≡ t
same_show ss s t a b =
    let same : (k : Key) → answer_for s k ≡ answer_for t k = λ k. a k ∙ sym (b k) in
    let there : (r : Record) → has_record s r ≡ has_record t r = λ r.
    sym (record_is s r) ∙ ap is_some (same (There r)) ∙ record_is t r in
    same_tables s t (same_map _ _ (λ n. same_cues _ _ (there (Cue n)) (λ c. same (Level (Cue n) c))
    (λ name. same (Time n name))))
    (same_map _ _ (λ n. same_levels _ _ (there (Sub n)) (λ c. same (Level (Sub n) c))))
    (same_map _ _ (λ n. same_levels _ _ (there (Group n)) (λ c. same (Level (Group n) c))))
    (same_map _ _ (λ d. same (Dimmer d)))

-- what holds of one show that a text means holds of each
pub of_its_show : (text : List ℕ) (P : Tables → Type 0) (s : Tables)
    → IsShowOf (statements_of desk_limits text) s → P s → OfItsShow text P
of_its_show text P s is p =
    ((s, is), λ t it. subst P (same_show (statements_of desk_limits text) s t is it) p)
