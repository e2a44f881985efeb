-- The live records of a receiver, one more at a time.
use Rattle.std.proofs.Common.{◌≡◌, ℕ, ◌+◌, ◌<◌, ◌≤◌, true, false, cond, max, refl, ap, replicate}
use Rattle.std.proofs.Common.{inl, inr, arith, sym, ◌∙◌, List, [], ◌∷◌, map, length, take, get_or}
use Rattle.std.proofs.Common.{Option, Some, not}
use Rattle.std.specs.Prelude.{filter, find, count_by, slice_get, slice_index, ◌==◌, if◌then◌else◌}
use Rattle.std.proofs.lemmas.Bool.{cases_lt}
use Rattle.std.proofs.lemmas.List.{take_more, get_or_past, get_or-replicate, length-replicate}
use Rattle.std.proofs.lemmas.List.Folds.{fold-map}
use Rattle.std.proofs.lemmas.List.FromFn.{fill_by_all}
use Rattle.std.proofs.lemmas.List.Recursion.{max_push}
use Rattle.std.proofs.lemmas.List.Sums.{length-filter}
use Rattle.std.proofs.lemmas.Map.Entries.{option_filter}
use Rattle.sacn_receiver.specs.declared.record.Record.{Record}
use Rattle.sacn_receiver.specs.Source.{Entry, same_cid, records, while_there}
use Rattle.sacn_receiver.specs.Shown.{Light, light_of, live, greatest, merged_slot, shown_slot}
use Rattle.sacn_receiver.specs.Shown.{shown_slots}
use Rattle.sacn_receiver.specs.Kept.{ReceiverState, StandsFor}
use Rattle.sacn_receiver.specs.Records.{entries, kept_entry, is_live_at, leads_at, lights_at}
use Rattle.sacn_receiver.specs.Records.{top_at, lit}
use Rattle.sacn_receiver.specs.Places.{AreDistinct}
use Rattle.sacn_receiver.proofs.Members.{In, In_map, In_mapped}
use Rattle.sacn_receiver.proofs.Apart.{find_kept, kept_distinct, find_records, records_distinct}
use Rattle.sacn_receiver.proofs.Apart.{FindSame, same_in, as_many}
use Rattle.sacn_receiver.proofs.Same.{merged_same}

-- the greatest priority, one record on
module _ (t : ℕ) where
  abbrev live_priority : Record → ℕ
  live_priority r = if is_live_at t (kept_entry r) then r.priority else 0

  top_first : (r : Record) (rs : List Record)
      → top_at t (r ∷ rs) ≡ max (live_priority r) (top_at t rs)
  top_first r rs = grind arith

  module _ (rs : List Record) (i : ℕ) (d : Record) (lt : i < length rs) where
    top_more : top_at t (take (i + 1) rs)
        ≡ max (top_at t (take i rs)) (live_priority (get_or rs i d))
    top_more = ap (top_at t) (take_more rs i d lt)
        ∙ max_push (top_at t) live_priority refl top_first (take i rs) (get_or rs i d)

    pub top_live : is_live_at t (kept_entry (get_or rs i d)) ≡ true
        → top_at t (take (i + 1) rs) ≡ max (get_or rs i d).priority (top_at t (take i rs))
    top_live q = grind (arith, top_more, q)

    pub top_dark : is_live_at t (kept_entry (get_or rs i d)) ≡ false
        → top_at t (take (i + 1) rs) ≡ top_at t (take i rs)
    top_dark q = grind (arith, top_more, q)

-- the greatest slot of the records that lead, where the others count for 0
abbrev pub greatest_lit : ℕ → ℕ → ℕ → List Record → ℕ
greatest_lit t top s rs = greatest (map (lit t top s) rs)

module _ (t top s : ℕ) (rs : List Record) (i : ℕ) (d : Record) (lt : i < length rs) where
  lit_more : greatest_lit t top s (take (i + 1) rs)
      ≡ max (greatest_lit t top s (take i rs)) (lit t top s (get_or rs i d))
  lit_more = ap (greatest_lit t top s) (take_more rs i d lt)
      ∙ max_push (greatest_lit t top s) (lit t top s) refl (λ r rs. refl) (take i rs) (get_or rs i d)

  pub lit_leads : leads_at t top (kept_entry (get_or rs i d)) ≡ true
      → greatest_lit t top s (take (i + 1) rs)
      ≡ max (greatest_lit t top s (take i rs)) (slice_index (get_or rs i d).slots s)
  lit_leads q = grind (arith, lit_more, q)

  pub lit_other : leads_at t top (kept_entry (get_or rs i d)) ≡ false
      → greatest_lit t top s (take (i + 1) rs) ≡ greatest_lit t top s (take i rs)
  lit_other q = grind (arith, lit_more, q)

pub lit_merged : (t top s : ℕ) (rs : List Record) → greatest_lit t top s rs
    ≡ greatest (map (λ l. slice_index l.slots s) (filter (λ l. l.priority == top) (lights_at t rs)))
lit_merged t top s [] = refl
lit_merged t top s (r ∷ rs) =
    let ih = lit_merged t top s rs in grind (arith, ih)

lights_in : (es fs : List Entry) → ((e : Entry) → In e es → In e fs) → (l : Light)
    → In l (map light_of es) → In l (map light_of fs)
lights_in es fs h l i =
    let m = In_mapped light_of l es i in rw m.2 (In_map light_of m.0 fs (h m.0 m.1))

pub live_distinct : (h : List Entry) (t : ℕ) → AreDistinct (live h t)
live_distinct h t = kept_distinct (λ e. not e.ended) (records h t) (records_distinct h t)

-- what a receiver counts and shows at moment t, where it stands for a history
module _ (r : ReceiverState) (h : List Entry) (t : ℕ) (d : AreDistinct r.records)
    (time : r.latest ≤ t)
    (s : StandsFor r h) where
  live_kept : (o : Option Entry) → option_filter (is_live_at t) o
      ≡ option_filter (λ e. not e.ended) (while_there t o)
  live_kept o = grind arith

  same_live : FindSame (filter (is_live_at t) r.records) (live h t)
  same_live c =
      find_kept (is_live_at t) c r.records d ∙ live_kept (find (same_cid c) r.records)
      ∙ ap (option_filter (λ e. not e.ended)) (s.records_are t c time ∙ sym (find_records h t c))
      ∙ sym (find_kept (λ e. not e.ended) c (records h t) (records_distinct h t))

  live_apart : AreDistinct (filter (is_live_at t) r.records)
  live_apart = kept_distinct (is_live_at t) r.records d

  pub counts_live : (rs : List Record) (n : ℕ) → r.records ≡ entries rs
      → n ≡ count_by (λ r. is_live_at t (kept_entry r)) rs → n ≡ length (live h t)
  counts_live rs n is c =
      c ∙ sym (fold-map (λ n e. n + cond (is_live_at t e) 1 0) kept_entry 0 rs)
      ∙ ap (count_by (is_live_at t)) (sym is) ∙ sym (length-filter (is_live_at t) r.records)
      ∙ as_many _ (live h t) live_apart (live_distinct h t) same_live

  pub shows : (out : List ℕ) → length out ≡ 512 → ((s : ℕ) → s < 512
      → get_or out s 0 ≡ merged_slot (map light_of (filter (is_live_at t) r.records)) s)
      → out ≡ shown_slots h t
  shows out size each =
      fill_by_all (shown_slot h t) out 512 0 size (λ i lt. each i lt ∙ merged_same _ _ i
      (lights_in _ _ (same_in _ (live h t) live_apart same_live))
      (lights_in _ _ (same_in (live h t) _ (live_distinct h t) (λ c. sym (same_live c)))))
