use Rattle.patch_core.proofs.Terms.{◌≡◌, ℕ, ◌+◌, List, IsTrue, length, refl, sym, ap, ◌∙◌, arith}
use Rattle.patch_core.proofs.Terms.{with_items, with_items_is, All-map, length_permutation, len_fits}
use Rattle.patch_core.proofs.Terms.{AreSources, All, nat_cmp, is_dimmer, PatchMap, to_true}
use Rattle.std.specs.FinMap as map
use Rattle.patch_core.proofs.Frames.{from_sorted-entries}
use Rattle.patch_core.proofs.rig.Rig.new.Goals as goal

pub invariant_of-result : goal.invariant_of-result
invariant_of-result c =
    let patch : PatchMap = c.args.show.now.patch in
    let dimmers : List (ℕ × (ℕ × ℕ)) = c.in_ok-dimmers.dimmers.items in
    let same : dimmers ≡ map.entries patch =
    c.in_ok-dimmers.ensures.items ∙ c.patch.ensures.entries in
    let is : map.from_sorted {R = nat_cmp} dimmers ≡ patch =
    from_sorted-entries patch dimmers same in
    let sources : List ℕ = c.write_sources.new.sources in
    let bytes : List ℕ = c.write_sources.new.bytes in
    let kept : (with_items c.in_ok-sources.sources sources).items ≡ sources =
    with_items_is c.in_ok-sources.sources sources (omega (arith, c.in_ok-sources.sources.ok.0)) in
    let kept_bytes : (with_items c.in_ok-bytes.bytes bytes).items ≡ bytes =
    with_items_is c.in_ok-bytes.bytes bytes (omega (arith, c.in_ok-bytes.bytes.ok.0)) in
    let own : AreSources patch sources bytes = record {
      each_source = omega (arith, c.in_ok-sources.ensures.len, c.from.ensures);
      each_byte = omega (arith, c.in_ok-bytes.ensures.len, c.from-2.ensures);
      in_range = c.write_sources.ensures.in_range;
      slots = λ p lt level grand.
          rw (map.get-entries patch (p + 1), ← same, ← c.deref-3.ensures.value)
          (c.write_sources.ensures.slots p lt level grand);
    } in
    record {
      sorted = rw same (to_true (map.entries_sorted patch));
      channels_in = rw c.in_ok-dimmers.ensures.items (λ k d lt. (c.patch.ensures.range k d lt).1);
      numbers_in = rw c.in_ok-dimmers.ensures.items (λ k d lt. (c.patch.ensures.range k d lt).0);
      index = record {
        same = rw c.deref.ensures.value at c.in_ok-by_channel.ensures.same;
        each = c.in_ok-begins.ensures.each;
        places = rw c.deref-2.ensures.value at c.in_ok-begins.ensures.places;
      };
      sources = rw (kept, kept_bytes, is) own;
      each_kind = c.in_ok-kinds.ensures.each;
      kinds = rw c.deref-4.ensures.value at c.in_ok-kinds.ensures.kinds;
      base_in = rw is (sym c.has_numbers.ensures ∙ c.if-not-has_numbers.false);
    }

pub begins_of-requires-clause-few : goal.begins_of-requires-clause-few
begins_of-requires-clause-few c =
    let patch : PatchMap = c.args.show.now.patch in
    let keys : All (λ k. IsTrue (is_dimmer k)) (map.keys patch) =
    All-map (λ k. IsTrue (is_dimmer k)) (λ e. e.0) (map.entries patch)
    (rw (← c.patch.ensures.entries) (λ k d lt. (c.patch.ensures.range k d lt).0)) in
    omega (
      arith,
      len_fits 8192 patch keys,
      map.len-entries patch,
      ap length (c.in_ok-dimmers.ensures.items ∙ c.patch.ensures.entries),
      length_permutation c.deref.result.now c.in_ok-by_channel.by_channel.items
          c.in_ok-by_channel.ensures.same,
      ap length c.deref.ensures.value,
      ap length c.deref-2.ensures.value,
    )

pub write_sources-requires-clause-sorted : goal.write_sources-requires-clause-sorted
write_sources-requires-clause-sorted c =
    rw (c.deref-3.ensures.value, c.in_ok-dimmers.ensures.items, c.patch.ensures.entries)
    (to_true (map.entries_sorted c.args.show.now.patch))

pub returns-clause-rig : goal.returns-clause-rig
returns-clause-rig c = rw (from_sorted-entries c.args.show.now.patch c.in_ok-dimmers.dimmers.items
    (c.in_ok-dimmers.ensures.items ∙ c.patch.ensures.entries)) refl
