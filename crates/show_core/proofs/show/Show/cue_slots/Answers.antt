use Rattle.show_core.proofs.Terms.{◌≡◌, ℕ, ◌+◌, ◌*◌, ◌<◌, List, length, get_or, refl, sym, ◌∙◌, arith}
use Rattle.show_core.proofs.Terms.{map, range_with_len, ext_get_or, length-set, fill_by_more}
use Rattle.show_core.proofs.Terms.{length-map-range_with_len, get_or-map-range_with_len, look_slot}
use Rattle.show_core.proofs.show.Show.cue_slots.Goals as goal

frame_is : (f : ℕ → ℕ) (a n : ℕ) (xs : List ℕ) → length xs ≡ n
    → ((i : ℕ) → i < n → get_or xs i 0 ≡ f (a + i)) → xs ≡ map f (range_with_len a n)
frame_is f a n xs size each =
    ext_get_or 0 xs (map f (range_with_len a n)) (size ∙ sym (length-map-range_with_len f a n))
    (λ i lt. let within : i < n = omega arith in
    each i within ∙ sym (get_or-map-range_with_len f a n i (a + i) 0 within refl))

pub loop-place-preserved : goal.loop-place-preserved
loop-place-preserved c =
    let f : ℕ → ℕ = λ (i : ℕ). look_slot c.args.cue.now.levels c.args.self.now.patch
    (512 * c.args.ordinal + 1 + i) in
    let lt : c.loop-place.place < length c.loop-place.slots =
    omega (arith, c.loop-place.invariant.size) in
    record {
      size = simp length-set c.loop-place.invariant.size;
      so_far = rw (c.from.ensures, c.look_slot.ensures)
          (fill_by_more f c.loop-place.slots c.loop-place.place 0 lt c.loop-place.invariant.so_far);
    }

pub returns : goal.returns
returns c =
    frame_is (look_slot c.args.cue.now.levels c.args.self.now.patch)
    (512 * c.args.ordinal + 1) 512 c.loop-place.slots c.loop-place.invariant.size
    (λ i lt. let before : i < c.loop-place.place = omega arith in
    c.loop-place.invariant.so_far i before)
