-- Words that pass have a text for each argument that has to be there.
use Rattle.std.proofs.Common.{ℕ, zero, suc, List, [], ◌∷◌, ◌++◌, Bool, true, false, not, ◌&&◌}
use Rattle.std.proofs.Common.{◌||◌, Option, Some, None, is_some, ◌≡◌, ◌∙◌, sym, ap, ap₂, refl}
use Rattle.std.proofs.Common.{length, drop}
use Rattle.std.specs.Prelude.{nat_lt, find, fold, slice_get, encode_utf8, option_and_then, cond}
use Rattle.std.specs.List.{list_all, list_any}
use Rattle.std.specs.Option.{option_map_or}
use Rattle.std.specs.Str.{bytes_eq, chars}
use Rattle.clap.specs.Lexer.{long_of, short_of}
use Rattle.clap.specs.Values.{is_request}
use Rattle.clap.specs.Facts.{explicit_source, unwrap_or_range}
use Rattle.clap.specs.Kinds.{Kinds, check_kinds, or_else, request_kinds}
use Rattle.clap.specs.Walk.{Held, Names, Outcome, Row, Rule, Step, Text, Waiting, Walk, action_of}
use Rattle.clap.specs.Walk.{after_flag, after_step, arg_by_id, arg_by_index, arg_by_long}
use Rattle.clap.specs.Walk.{arg_by_short, at_row, attached_value, bundle_met, bundle_step}
use Rattle.clap.specs.Walk.{default_rows, finished, first_of, flag_met, has_row, long_met}
use Rattle.clap.specs.Walk.{more_values, nothing_held, option_met, option_word, plain_word, plain}
use Rattle.clap.specs.Walk.{done, waits, refused}
use Rattle.clap.specs.Walk.{idle, option, positional, next, trailing, subcommand, value}
use Rattle.clap.specs.Walk.{reacted, reading_by, rows_after, settled, settled_rows, short_met}
use Rattle.clap.specs.Walk.{subcommand_met, takes_several, takes_values, to_positional, used}
use Rattle.clap.specs.Walk.{used_as, used_by_id, values_or_missing, walk, walk_from, walked}
use Rattle.clap.specs.Walk.{with_default, with_values, without, word_met, is_pending}
use Rattle.clap.specs.Walk.{positional_held, walked_from}
use Rattle.clap.specs.Walk.{bundle, long_or_other, short_or_plain, subcommand_or_other}
use Rattle.clap.specs.Simple.{App, Shape, argument_words, built, entered, label_of, names_of}
use Rattle.clap.specs.Simple.{rows_at, subcommand_of}
use Rattle.clap.specs.Faults.{defaults_fault, entered_fault, fault_of}
use Rattle.clap.specs.Walk.{answers_to, stop_after}
use Rattle.std.specs.Prelude.{option_map}
use Rattle.std.proofs.Common.{◌⊎◌, inl, inr}
use Rattle.clap.proofs.OnLiterals.{clap_on_literals}
use Rattle.cmd_words.specs.Program.{program, rules_of}
use Rattle.cmd_words.specs.Misfit.{IsWhole, has_texts, is_line}
use Rattle.std.proofs.Common.{codes}
use Rattle.std.proofs.lemmas.Slice.Eq.{bytes_eq-Decides}
use Rattle.clap.specs.Takes.{is_given}
use Rattle.clap.specs.Faults.{bundle_step_fault, check_fault, flags_fault, level_fault}
use Rattle.clap.specs.Faults.{long_fault, option_fault, other_fault, positional_fault, react_fault}
use Rattle.clap.specs.Faults.{settle_fault, short_fault, step_fault, stray_fault, turn_fault}
use Rattle.clap.specs.Faults.{bundle_fault, flag_word_fault, use_fault, walk_fault, word_fault}
use Rattle.clap.specs.declared.builder.action.ArgAction.{ArgAction}
use Rattle.clap.specs.declared.builder.action.ArgAction.TheVariants.{Set, Append, SetTrue, SetFalse}
use Rattle.clap.specs.declared.builder.action.ArgAction.TheVariants.{Count, Help, HelpShort}
use Rattle.clap.specs.declared.builder.action.ArgAction.TheVariants.{HelpLong, Version}
use Rattle.clap.specs.declared.builder.value_parser.Reading.{Reading}
use Rattle.clap.specs.declared.error.kind.ErrorKind.TheVariants as kind
use Rattle.clap.specs.declared.parser.matches.ValueSource.{ValueSource}
use Rattle.clap.specs.declared.parser.matches.ValueSource.TheVariants.{DefaultValue, CommandLine}
use Rattle.clap.proofs.FaultLemmas.{request_fault}
use Rattle.clap.proofs.WalkLemmas.{both}

abbrev has_value : List Text → Bool
has_value [] = false
has_value (v ∷ vs) = true

-- each row has a value
abbrev are_full : List Row → Bool
are_full = list_all (λ r. has_value r.values)

-- a use of the argument that does not fail has a value
abbrev pub brings_value : Rule → Bool
brings_value a = nat_lt 0 (unwrap_or_range a.range).start_inclusive || (has_value a.missing
    || is_request (action_of a))

abbrev Brings : Option Rule → Type 0
Brings None = Unit {0}
Brings (Some a) = brings_value a ≡ true

none_first : (a b : Kinds) → or_else a b ≡ [] → (a ≡ []) × (b ≡ [])
none_first [] b e = (refl, e)
none_first (k ∷ ks) b e = cc

-- ---- rows

joined : (xs ys : List Text) → has_value ys ≡ true → has_value (xs ++ ys) ≡ true
joined [] ys h = h
joined (x ∷ xs) ys h = refl

appended : (xs ys : List Row) → are_full xs ≡ true → are_full ys ≡ true
    → are_full (xs ++ ys) ≡ true
appended [] ys f g = g
appended (x ∷ xs) ys f g =
    let each = both (has_value x.values) (are_full xs) f in
    ap₂ (λ a b. a && b) each.0 (appended xs ys each.1 g)

at_row_full : (id : Text) (change : Row → List Row) (missing rows : List Row)
    → ((r : Row) → are_full (change r) ≡ true) → are_full missing ≡ true → are_full rows ≡ true
    → are_full (at_row id change missing rows) ≡ true
at_row_full id change missing [] c m f = m
at_row_full id change missing (r ∷ rs) c m f =
    go (bytes_eq r.id id) (both (has_value r.values) (are_full rs) f)
    (λ g. at_row_full id change missing rs c m g)
  where
    go : (t : Bool) → (has_value r.values ≡ true) × (are_full rs ≡ true)
        → (are_full rs ≡ true → are_full (at_row id change missing rs) ≡ true)
        → are_full (cond t (change r ++ rs) (r ∷ at_row id change missing rs)) ≡ true
    go true each rest = appended (change r) rs (c r) each.1
    go false each rest = ap₂ (λ a b. a && b) each.0 (rest each.1)

with_values_full : (id : Text) (how : Reading) (s : ValueSource) (values : List Text)
    (rows : List Row) → has_value values ≡ true → are_full rows ≡ true
    → are_full (with_values id how s values rows) ≡ true
with_values_full id how s values rows h f = at_row_full id (more_values s values) _ rows
    (λ r. ap (λ b. b && true) (joined r.values values h)) (ap (λ b. b && true) h) f

without_full : (id : Text) (rows : List Row) → are_full rows ≡ true
    → are_full (without id rows) ≡ true
without_full id rows f = at_row_full id (λ _. []) [] rows (λ r. refl) refl f

used_as_full : (x : ArgAction) (id : Text) (how : Reading) (values : List Text) (rows : List Row)
    → has_value values ≡ true → are_full rows ≡ true
    → are_full (used_as x id how values rows) ≡ true
used_as_full Append id how values rows h f =
    with_values_full id how CommandLine values rows h f
used_as_full Count id how [] rows h f = absurd (cc)
used_as_full Count id how (v ∷ vs) rows h f =
    with_values_full id how CommandLine (v ∷ vs) (without id rows) h (without_full id rows f)
used_as_full Set id how values rows h f =
    with_values_full id how CommandLine values (without id rows) h (without_full id rows f)
used_as_full SetTrue id how values rows h f =
    with_values_full id how CommandLine values (without id rows) h (without_full id rows f)
used_as_full SetFalse id how values rows h f =
    with_values_full id how CommandLine values (without id rows) h (without_full id rows f)
used_as_full _ id how values rows h f = f

-- ---- one use of an argument

requests : (x : ArgAction) → is_request x ≡ true → request_kinds x ≡ [] → ⊥
requests Help is none = cc
requests HelpShort is none = cc
requests HelpLong is none = cc
requests Version is none = cc
requests _ is none = cc

valued : (again : Bool) (a : Rule) (values : List Text) (rows : List Row) → brings_value a ≡ true
    → use_fault again a values rows ≡ [] → has_value (values_or_missing a values) ≡ true
valued again a (v ∷ vs) rows brings passes = refl
valued again a [] rows brings passes =
    go (nat_lt 0 (unwrap_or_range a.range).start_inclusive) (has_value a.missing)
    (is_request (action_of a)) _ (none_first _ _ passes).0
    (λ is. requests (action_of a) is (request_fault (action_of a) again a
    (values_or_missing a []) rows is ∙ (none_first _ _ passes).1)) brings
  where
    go : (l m r : Bool) (rest : Kinds) → cond (l && true) (kind.InvalidValue ∷ []) rest ≡ []
        → (r ≡ true → ⊥) → (l || (m || r)) ≡ true → m ≡ true
    go l true r rest none never brings = refl
    go true false r rest none never brings = cc
    go false false true rest none never brings = absurd (never refl)
    go false false false rest none never brings = brings

used_full : (again : Bool) (a : Rule) (values : List Text) (rows : List Row)
    → brings_value a ≡ true → use_fault again a values rows ≡ [] → are_full rows ≡ true
    → are_full (used a values rows) ≡ true
used_full again a values rows brings passes f = used_as_full (action_of a) a.id (reading_by a)
    (values_or_missing a values) rows (valued again a values rows brings passes) f

-- ---- the walk

module _ (c : List Rule) (again : Bool) (good : list_all brings_value c ≡ true) where
  found : (p : Rule → Bool) (rules : List Rule) → list_all brings_value rules ≡ true
      → Brings (find p rules)
  found p [] h = tt
  found p (a ∷ rest) h =
      go (p a) (both (brings_value a) (list_all brings_value rest) h) (λ g. found p rest g)
    where
      go : (b : Bool) → (brings_value a ≡ true) × (list_all brings_value rest ≡ true)
          → (list_all brings_value rest ≡ true → Brings (find p rest))
          → Brings (cond b (Some a) (find p rest))
      go true each then = each.0
      go false each then = then each.1

  settled_full : (h : Held) → settle_fault c again h ≡ [] → are_full h.rows ≡ true
      → are_full (settled c h).rows ≡ true
  settled_full h passes f = pend h.pending passes
    where
      by_id : (o : Option Rule) (values : List Text) → Brings o
          → option_map_or (λ a. use_fault again a values h.rows) o [] ≡ []
          → are_full (used_by_id o values h.rows) ≡ true
      by_id None values b p = f
      by_id (Some a) values b p = used_full again a values h.rows b p f

      pend : (o : Option (Text × List Text))
          → option_map_or (λ q. option_map_or (λ a. use_fault again a q.1 h.rows)
          (arg_by_id c q.0) []) o [] ≡ [] → are_full (settled_rows c o h.rows) ≡ true
      pend None p = f
      pend (Some q) p = by_id (arg_by_id c q.0) q.1 (found _ c good) p

  reacted_full : (a : Rule) (values : List Text) (h : Held) → brings_value a ≡ true
      → react_fault c again a values h ≡ [] → are_full h.rows ≡ true
      → are_full (reacted c a values h).rows ≡ true
  reacted_full a values h brings passes f =
      let steps = none_first (settle_fault c again h) _ passes in
      used_full again a values (settled c h).rows brings steps.1 (settled_full h steps.0 f)

  option_full : (a : Rule) (v : Option Text) (h : Held) → brings_value a ≡ true
      → option_fault c again a v h ≡ [] → are_full h.rows ≡ true
      → are_full (option_met c a v h).0.rows ≡ true
  option_full a (Some v) h brings passes f = reacted_full a (v ∷ []) h brings passes f
  option_full a None h brings passes f = settled_full h passes f

  long_full : (o : Option Rule) (v : Option Text) (h : Held) → Brings o
      → long_fault c again o v h ≡ [] → are_full h.rows ≡ true
      → are_full (long_met c o v h).0.rows ≡ true
  long_full None v h brings passes f = f
  long_full (Some a) v h brings passes f = go (takes_values a) passes
    where
      flag : (x : Option Text)
          → cond (is_some x) (kind.TooManyValues ∷ []) (react_fault c again a [] h) ≡ []
          → are_full (flag_met c a x h).0.rows ≡ true
      flag None p = reacted_full a [] h brings p f
      flag (Some x) p = f

      go : (t : Bool) → cond t (option_fault c again a v h)
          (cond (is_some v) (kind.TooManyValues ∷ []) (react_fault c again a [] h)) ≡ []
          → are_full (cond t (option_met c a v h) (flag_met c a v h)).0.rows ≡ true
      go true p = option_full a v h brings p f
      go false p = flag v p

  -- what is read of a bundle after its first flag
  abbrev Goes : ℕ → Type 0
  Goes k = (flags : Text) (skip : ℕ) (so_far : Outcome) (h : Held)
      → flags_fault c again k flags skip h ≡ [] → are_full h.rows ≡ true
      → are_full (bundle_met c k flags skip so_far h).0.rows ≡ true

  short_full : (k : ℕ) (o : Option Rule) (rest : Text) (h : Held) → Brings o → Goes k
      → short_fault c again o rest h (flags_fault c again k rest 0) ≡ [] → are_full h.rows ≡ true
      → are_full (short_met c o rest h (bundle_met c k rest 0 done)).0.rows ≡ true
  short_full k None rest h brings goes passes f = f
  short_full k (Some a) rest h brings goes passes f = go (takes_values a) passes
    where
      go : (t : Bool) → cond t (option_fault c again a (attached_value rest) h)
          (or_else (react_fault c again a [] h) (flags_fault c again k rest 0 (reacted c a [] h)))
          ≡ [] → are_full (cond t (option_met c a (attached_value rest) h)
          (bundle_met c k rest 0 done (reacted c a [] h))).0.rows ≡ true
      go true p = option_full a (attached_value rest) h brings p f
      go false p =
          let steps = none_first (react_fault c again a [] h) _ p in
          goes rest 0 done (reacted c a [] h) steps.1 (reacted_full a [] h brings steps.0 f)

  bundle_full : (k : ℕ) → Goes k
  unfolding flags_fault bundle_met
  bundle_full zero flags skip so_far h passes f = f
  bundle_full (suc k) flags skip so_far h passes f =
      step (slice_get (chars flags) 0) skip (bundle_full k) passes
    where
      step : (x : Option ℕ) (n : ℕ) → Goes k
          → bundle_step_fault c again x flags n h (flags_fault c again k) ≡ []
          → are_full (bundle_step c x flags n so_far h (bundle_met c k)).0.rows ≡ true
      step None n goes p = f
      step (Some x) zero goes p =
          short_full k (arg_by_short c x) (drop (length (encode_utf8 x)) flags) h (found _ c good)
          goes p f
      step (Some x) (suc n) goes p = goes _ n so_far h p f

  plain_full : (waiting : Waiting) (word : Text) (h : Held) → are_full h.rows ≡ true
      → are_full (plain_word c waiting word h).0.rows ≡ true
  plain_full idle word h f = f
  plain_full positional word h f = f
  plain_full (option id) word h f = go (arg_by_id c id)
    where
      go : (o : Option Rule) → are_full (option_word o id word h).0.rows ≡ true
      go None = f
      go (Some a) = f

  after_full : (waiting : Waiting) (word : Text) (h : Held) (o : Outcome)
      → are_full h.rows ≡ true → are_full (after_flag c waiting word h o).0.rows ≡ true
  after_full waiting word h done f = f
  after_full waiting word h (waits id) f = f
  after_full waiting word h plain f = plain_full waiting word h f
  after_full waiting word h refused f = plain_full waiting word h f

module _ (s : Shape) (names : Names) (good : list_all brings_value s.rules ≡ true) where
  word_full : (is_trailing : Bool) (waiting : Waiting) (position : ℕ) (word : Text) (h : Held)
      → word_fault s names is_trailing waiting word h ≡ [] → are_full h.rows ≡ true
      → are_full (word_met s.rules names is_trailing waiting position word h).0.rows ≡ true
  word_full true waiting position word h passes f = f
  word_full false waiting position word h passes f = go (subcommand_met names waiting word) passes
    where
      bundled : (o : Option Text)
          → option_map_or (λ flags. bundle_fault s.rules s.args_override_self flags h) o [] ≡ []
          → are_full (short_or_plain s.rules waiting word o h).0.rows ≡ true
      bundled None p = plain_full s.rules s.args_override_self good waiting word h f
      bundled (Some flags) p = after_full s.rules s.args_override_self good waiting word
          (bundle s.rules flags h).0 (bundle s.rules flags h).1
          (bundle_full s.rules s.args_override_self good (length flags) flags h.skip plain
          (record h { skip = 0 }) p f)

      long : (o : Option (Text × Option Text))
          → flag_word_fault s.rules s.args_override_self o word h ≡ []
          → are_full (long_or_other s.rules waiting word o h).0.rows ≡ true
      long None p = bundled (short_of word) p
      long (Some q) p = after_full s.rules s.args_override_self good waiting word
          (long_met s.rules (arg_by_long s.rules q.0) q.1 h).0
          (long_met s.rules (arg_by_long s.rules q.0) q.1 h).1
          (long_full s.rules s.args_override_self good (arg_by_long s.rules q.0) q.1 h
          (found s.rules s.args_override_self good _ s.rules good) p f)

      dashes : (t : Bool) → cond t [] (flag_word_fault s.rules s.args_override_self (long_of word)
          word h) ≡ [] → are_full (cond t (h, trailing position)
          (long_or_other s.rules waiting word (long_of word) h)).0.rows ≡ true
      dashes true p = f
      dashes false p = long (long_of word) p

      go : (o : Option Text) → other_fault s o word h ≡ []
          → are_full (subcommand_or_other s.rules o waiting position word h).0.rows ≡ true
      go (Some name) p = f
      go None p = dashes (bytes_eq word (45 ∷ 45 ∷ [])) p

  positional_full : (a : Rule) (word : Text) (h : Held)
      → positional_fault s.rules s.args_override_self a h ≡ [] → are_full h.rows ≡ true
      → are_full (positional_held s.rules a word h).rows ≡ true
  positional_full a word h passes f = go (is_pending a h.pending && takes_several a) passes
    where
      go : (t : Bool) → cond t [] (settle_fault s.rules s.args_override_self h) ≡ []
          → are_full (cond t h (settled s.rules h)).rows ≡ true
      go true p = f
      go false p = settled_full s.rules s.args_override_self good h p f

  step_full : (w : Walk) (word : Text) (h : Held) (step : Step)
      → step_fault s w.position h step ≡ [] → are_full h.rows ≡ true
      → are_full (after_step s.rules word w h step).held.rows ≡ true
  step_full w word h (next waiting) passes f = f
  step_full w word h (trailing position) passes f = f
  step_full w word h (subcommand name) passes f = f
  step_full w word h value passes f = go (arg_by_index s.rules w.position) passes
    where
      go : (o : Option Rule) → option_map_or (λ a.
          positional_fault s.rules s.args_override_self a h) o (stray_fault s) ≡ []
          → are_full (to_positional s.rules o word w h).held.rows ≡ true
      go None p = f
      go (Some a) p = positional_full a word h p f

  turn_full : (w : Walk) (word : Text) → turn_fault s names w word ≡ []
      → are_full w.held.rows ≡ true → are_full (walked s.rules names w word).held.rows ≡ true
  unfolding walked
  turn_full w word passes f = go w.stopped passes
    where
      go : (o : Option (Text × List Text)) → cond (is_some o) []
          (or_else (word_fault s names w.is_trailing w.waiting word w.held)
          (step_fault s w.position
          (word_met s.rules names w.is_trailing w.waiting w.position word w.held).0
          (word_met s.rules names w.is_trailing w.waiting w.position word w.held).1)) ≡ []
          → are_full (walked_from s.rules names o w word).held.rows ≡ true
      go (Some p) passes = f
      go None passes =
          let fault = word_fault s names w.is_trailing w.waiting word w.held in
          let steps = none_first fault _ passes in
          step_full w word _ _ steps.1
          (word_full w.is_trailing w.waiting w.position word w.held steps.0 f)

  walk_full : (w : Walk) (words : List Text) → walk_fault s names w words ≡ []
      → are_full w.held.rows ≡ true
      → are_full (fold (walked s.rules names) w words).held.rows ≡ true
  unfolding walk_fault
  walk_full w [] passes f = f
  walk_full w (word ∷ rest) passes f =
      let steps = none_first (turn_fault s names w word) _ passes in
      walk_full (walked s.rules names w word) rest steps.1 (turn_full w word steps.0 f)

-- ---- the subcommand at which a walk stops

-- the step enters no subcommand
abbrev IsOwn : Step → Type 0
IsOwn (subcommand name) = ⊥
IsOwn _ = Unit {0}

plain_own : (c : List Rule) (waiting : Waiting) (word : Text) (h : Held)
    → IsOwn (plain_word c waiting word h).1
plain_own c idle word h = tt
plain_own c positional word h = tt
plain_own c (option id) word h = tt

after_own : (c : List Rule) (waiting : Waiting) (word : Text) (h : Held) (o : Outcome)
    → IsOwn (after_flag c waiting word h o).1
after_own c waiting word h done = tt
after_own c waiting word h (waits id) = tt
after_own c waiting word h plain = plain_own c waiting word h
after_own c waiting word h refused = plain_own c waiting word h

flag_own : (c : List Rule) (waiting : Waiting) (word : Text) (flags : Option Text) (h : Held)
    → IsOwn (short_or_plain c waiting word flags h).1
flag_own c waiting word None h = plain_own c waiting word h
flag_own c waiting word (Some flags) h =
    after_own c waiting word (bundle c flags h).0 (bundle c flags h).1

long_own : (c : List Rule) (waiting : Waiting) (word : Text) (o : Option (Text × Option Text))
    (h : Held) → IsOwn (long_or_other c waiting word o h).1
long_own c waiting word None h = flag_own c waiting word (short_of word) h
long_own c waiting word (Some q) h = after_own c waiting word
    (long_met c (arg_by_long c q.0) q.1 h).0 (long_met c (arg_by_long c q.0) q.1 h).1

module _ (s : Shape) (names : Names) where
  -- the name is not that of the subcommand that asks for help
  abbrev IsWork : Text → Type 0
  IsWork name = (bytes_eq name (codes "help") && not s.disable_help_subcommand) ≡ false

  abbrev Enters : Step → Type 0
  Enters (subcommand name) = IsWork name
  Enters _ = Unit {0}

  abbrev Stops : Option (Text × List Text) → Type 0
  Stops None = Unit {0}
  Stops (Some p) = IsWork p.0

  own_enters : (step : Step) → IsOwn step → Enters step
  own_enters (next waiting) own = tt
  own_enters (trailing position) own = tt
  own_enters (subcommand name) own = absurd own
  own_enters value own = tt

  word_enters : (is_trailing : Bool) (waiting : Waiting) (position : ℕ) (word : Text) (h : Held)
      → word_fault s names is_trailing waiting word h ≡ []
      → Enters (word_met s.rules names is_trailing waiting position word h).1
  word_enters true waiting position word h passes = tt
  word_enters false waiting position word h passes = go (subcommand_met names waiting word) passes
    where
      no_help : (b : Bool) → cond b (kind.DisplayHelp ∷ kind.InvalidSubcommand ∷ []) [] ≡ []
          → b ≡ false
      no_help true p = cc
      no_help false p = refl

      dashes : (t : Bool) → Enters (cond t (h, trailing position)
          (long_or_other s.rules waiting word (long_of word) h)).1
      dashes true = tt
      dashes false = own_enters (long_or_other s.rules waiting word (long_of word) h).1
          (long_own s.rules waiting word (long_of word) h)

      go : (o : Option Text) → other_fault s o word h ≡ []
          → Enters (subcommand_or_other s.rules o waiting position word h).1
      go (Some name) p = no_help _ p
      go None p = dashes (bytes_eq word (45 ∷ 45 ∷ []))

  step_stops : (w : Walk) (word : Text) (h : Held) (step : Step) → Stops w.stopped → Enters step
      → Stops (after_step s.rules word w h step).stopped
  step_stops w word h (next waiting) so enters = so
  step_stops w word h (trailing position) so enters = so
  step_stops w word h (subcommand name) so enters = enters
  step_stops w word h value so enters = go (arg_by_index s.rules w.position)
    where
      go : (o : Option Rule) → Stops (to_positional s.rules o word w h).stopped
      go None = so
      go (Some a) = tt

  turn_stops : (w : Walk) (word : Text) → turn_fault s names w word ≡ [] → Stops w.stopped
      → Stops (walked s.rules names w word).stopped
  unfolding walked
  turn_stops w word passes so = go w.stopped passes so
    where
      go : (o : Option (Text × List Text)) → cond (is_some o) []
          (or_else (word_fault s names w.is_trailing w.waiting word w.held)
          (step_fault s w.position
          (word_met s.rules names w.is_trailing w.waiting w.position word w.held).0
          (word_met s.rules names w.is_trailing w.waiting w.position word w.held).1)) ≡ []
          → Stops o → Stops (walked_from s.rules names o w word).stopped
      go (Some p) passes o = o
      go None passes o =
          let met = word_met s.rules names w.is_trailing w.waiting w.position word w.held in
          let fault = word_fault s names w.is_trailing w.waiting word w.held in
          let steps = none_first fault _ passes in
          step_stops w word met.0 met.1 so
          (word_enters w.is_trailing w.waiting w.position word w.held steps.0)

  walk_stops : (w : Walk) (words : List Text) → walk_fault s names w words ≡ [] → Stops w.stopped
      → Stops (fold (walked s.rules names) w words).stopped
  unfolding walk_fault
  walk_stops w [] passes so = so
  walk_stops w (word ∷ rest) passes so =
      let steps = none_first (turn_fault s names w word) _ passes in
      walk_stops (walked s.rules names w word) rest steps.1 (turn_stops w word steps.0 so)

-- ---- after the walk

default_full : (rows : List Row) (a : Rule) → are_full rows ≡ true
    → are_full (with_default rows a) ≡ true
default_full rows a f = go (has_row a.id rows)
  where
    given : (values : List Text)
        → are_full (default_rows a.id (reading_by a) values rows) ≡ true
    given [] = f
    given (v ∷ vs) = with_values_full a.id (reading_by a) DefaultValue (v ∷ vs) rows refl f

    go : (t : Bool)
        → are_full (cond t rows (default_rows a.id (reading_by a) a.defaults rows)) ≡ true
    go true = f
    go false = given a.defaults

rows_full : (rows : List Row) (c : List Rule) → are_full rows ≡ true
    → are_full (fold with_default rows c) ≡ true
rows_full rows [] f = f
rows_full rows (a ∷ rest) f =
    rows_full (with_default rows a) rest (default_full rows a f)

given_text : (id : Text) (rows : List Row) → are_full rows ≡ true → is_given id rows ≡ true
    → is_some (first_of id rows) ≡ true
given_text id [] f given = cc
given_text id (r ∷ rows) f given = go (bytes_eq r.id id)
    (both (has_value r.values) (are_full rows) f) given (λ g k. given_text id rows g k)
  where
    first : (values : List Text) → has_value values ≡ true → is_some (slice_get values 0) ≡ true
    first [] h = cc
    first (v ∷ vs) h = refl

    go : (t : Bool) → (has_value r.values ≡ true) × (are_full rows ≡ true)
        → option_map_or (λ x. explicit_source x.source)
        (cond t (Some r) (find (λ x. bytes_eq x.id id) rows)) false ≡ true
        → (are_full rows ≡ true → is_given id rows ≡ true → is_some (first_of id rows) ≡ true)
        → is_some (option_and_then (λ x. slice_get x.values 0)
        (cond t (Some r) (find (λ x. bytes_eq x.id id) rows))) ≡ true
    go true each g then = first r.values each.0
    go false each g then = then each.1 g

all_given : (rules : List Rule) (rows : List Row) → are_full rows ≡ true
    → list_any (λ a. a.required && not (is_given a.id rows)) rules ≡ false
    → has_texts rules rows ≡ true
all_given [] rows f none = refl
all_given (a ∷ rest) rows f none = go a.required (is_given a.id rows) refl none
    (λ g. all_given rest rows f g)
  where
    go : (r g : Bool) → is_given a.id rows ≡ g
        → ((r && not g) || list_any (λ x. x.required && not (is_given x.id rows)) rest) ≡ false
        → (list_any (λ x. x.required && not (is_given x.id rows)) rest ≡ false
        → has_texts rest rows ≡ true)
        → ((not r || is_some (first_of a.id rows)) && has_texts rest rows) ≡ true
    go false g is none then = then none
    go true true is none then = ap₂ (λ x y. x && y) (given_text a.id rows f is) (then none)
    go true false is none then = cc

checked : (a b c : Bool) → check_kinds a b c ≡ [] → c ≡ false
checked true b c e = cc
checked false true c e = cc
checked false false true e = cc
checked false false false e = refl

wants : (negates any : Bool) → (not (negates && false) && any) ≡ false → any ≡ false
wants true any e = e
wants false any e = e

-- one level of the parse
level_texts : (s : Shape) (words : List Text) → list_all brings_value s.rules ≡ true
    → level_fault s [] nothing_held words false [] ≡ []
    → has_texts s.rules (rows_after s.rules [] words) ≡ true
level_texts s words good passes =
    let end = (walk s.rules [] nothing_held words).held in
    let a = none_first (walk_fault s [] (walk_from nothing_held) words) _ passes in
    let b = none_first (settle_fault s.rules s.args_override_self end) _ a.1 in
    let c = none_first _ _ b.1 in
    let rows = finished s.rules end in
    let full = rows_full (settled s.rules end).rows s.rules
    (settled_full s.rules s.args_override_self good end b.0
    (walk_full s [] good (walk_from nothing_held) words a.0 refl)) in
    all_given s.rules rows full (wants s.subcommand_negates_reqs _ (checked _ _ _ c.1))

-- ---- the program

-- each of a list, as so many facts
abbrev Each : {X : Type 0} → (X → Type 0) → List X → Type 0
Each P [] = Unit {0}
Each P (x ∷ xs) = P x × Each P xs

-- what is found passes, and is one of the list
abbrev Found : {X : Type 0} → (X → Type 0) → (X → Bool) → Option X → Type 0
Found P p None = Unit {0}
Found P p (Some x) = P x × (p x ≡ true)

each_found : {X : Type 0} (P : X → Type 0) (p : X → Bool) (xs : List X) → Each P xs
    → Found P p (find p xs)
each_found P p [] all = tt
each_found P p (x ∷ xs) all = go (p x) refl (each_found P p xs all.1)
  where
    go : (b : Bool) → p x ≡ b → Found P p (find p xs) → Found P p (cond b (Some x) (find p xs))
    go true is rest = (all.0, is)
    go false is rest = rest

-- the subcommand is a line, whose arguments are among its own and have a value in each use; or it
-- is the one that asks for help
abbrev Suits : Shape → Type 0
Suits s = ((list_all brings_value s.rules ≡ true) × (is_line s.name ≡ true)
    × ((rows : List Row) → has_texts s.rules rows ≡ true
    → has_texts (rules_of s.name) rows ≡ true)) ⊎ (label_of s ≡ (codes "help", []))

program_suits : Each Suits (built program).subs
unfolding clap_on_literals
program_suits = (
  inl (refl, refl, λ rows h. h),
  (
    inl (refl, refl, λ rows h. h),
    (
      inl (refl, refl, λ rows h. h),
      (
        inl (refl, refl, λ rows h. h),
        (
          inl (refl, refl, λ rows h. h),
          (
            inl (refl, refl, λ rows h. h),
            (
              inl (refl, refl, λ rows h. h),
              (
                inl (refl, refl, λ rows h. h),
                (
                  inl (refl, refl, λ rows h. h),
                  (
                    inl (refl, refl, λ rows h. h),
                    (inr refl, tt),
                  ),
                ),
              ),
            ),
          ),
        ),
      ),
    ),
  ),
)

help_enabled : (built program).top.disable_help_subcommand ≡ false
unfolding clap_on_literals
help_enabled = refl

-- a subcommand that has to be there is entered
needed : (s : Shape) (rows : List Row) (has : Bool) → s.subcommand_required ≡ true
    → check_fault s rows has ≡ [] → has ≡ true
needed s rows true is passes = refl
needed s rows false is passes = absurd (go
    (s.arg_required_else_help && not (list_any (λ r. explicit_source r.source) rows))
    s.subcommand_required (not (s.subcommand_negates_reqs && false)
    && list_any (λ a. a.required && not (is_given a.id rows)) s.rules) is passes)
  where
    go : (a b c : Bool) → b ≡ true → check_kinds a b c ≡ [] → ⊥
    go true b c is e = cc
    go false true c is e = cc
    go false false c is e = cc

level_whole : (s : Shape) (name : Text) (words : List Text) → Suits s
    → answers_to name (label_of s) ≡ true → bytes_eq name (codes "help") ≡ false
    → level_fault s [] nothing_held words false [] ≡ [] → IsWhole (rows_at s words)
level_whole s name words (inl suits) answers work passes =
    (suits.1, suits.2 (rows_after s.rules [] words) (level_texts s words suits.0 passes))
level_whole s name words (inr help) answers work passes =
    let same : answers_to name (codes "help", []) ≡ true =
    ap (answers_to name) (sym help) ∙ answers in
    let is : name ≡ codes "help" = sym ((bytes_eq-Decides (codes "help") name).0 (either _ same)) in
    let no : true ≡ false = sym (ap (λ n. bytes_eq n (codes "help")) is ∙ refl) ∙ work in
    cc
  where
    either : (b : Bool) → (b || false) ≡ true → b ≡ true
    either true e = refl
    either false e = e

entered_whole : (a : App) (stop : Option (Text × List Text)) → Each Suits a.subs
    → Stops a.top (names_of a) stop → a.top.disable_help_subcommand ≡ false
    → entered_fault a stop ≡ [] → is_some (entered a stop) ≡ true
    → (line : Text × List Row) × (entered a stop ≡ Some line) × IsWhole line
entered_whole a None suits work enabled passes is = cc
entered_whole a (Some p) suits work enabled passes is =
    go (find (λ s. answers_to p.0 (label_of s)) a.subs)
    (each_found Suits (λ s. answers_to p.0 (label_of s)) a.subs suits) passes is
  where
    no_help : (b d : Bool) → (b && not d) ≡ false → d ≡ false → b ≡ false
    no_help true true w e = cc
    no_help true false w e = w
    no_help false d w e = refl

    go : (o : Option Shape) → Found Suits (λ s. answers_to p.0 (label_of s)) o
        → option_map_or (λ s. level_fault s [] nothing_held p.1 false []) o [] ≡ []
        → is_some (option_map (λ s. rows_at s p.1) o) ≡ true
        → (line : Text × List Row) × (option_map (λ s. rows_at s p.1) o ≡ Some line) × IsWhole line
    go None found passes is = cc
    go (Some s) found passes is = (
      rows_at s p.1,
      refl,
      level_whole s p.0 p.1 found.0 found.1
          (no_help _ a.top.disable_help_subcommand work enabled) passes,
    )

-- words that pass name a line, and have a text for each argument that has to be there
pub passing_line : (words : List Text) → fault_of program words ≡ []
    → (line : Text × List Row) × (subcommand_of program words ≡ Some line) × IsWhole line
passing_line words passes =
    let a = built program in
    let rest = argument_words a words in
    let stop = stop_after a.top.rules (names_of a) rest in
    let end = (walk a.top.rules (names_of a) nothing_held rest).held in
    let walks = none_first (walk_fault a.top (names_of a) (walk_from nothing_held) rest) _ passes in
    let level = none_first (entered_fault a stop) _ walks.1 in
    let settle =
    none_first (settle_fault a.top.rules a.top.args_override_self end) _ level.1 in
    let ends = none_first (defaults_fault (settled a.top.rules end).rows a.top.rules) _ settle.1 in
    entered_whole a stop program_suits
    (walk_stops a.top (names_of a) (walk_from nothing_held) rest walks.0 tt) help_enabled level.0
    (needed a.top (finished a.top.rules end) (is_some (entered a stop)) refl ends.1)
