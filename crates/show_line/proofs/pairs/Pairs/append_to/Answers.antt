use Rattle.show_line.proofs.Terms.{arith, ◌≡◌, ◌∙◌, ◌++◌, ◌-◌, List, ℕ, [], ap, drop, length}
use Rattle.show_line.proofs.Terms.{append_assoc, refl, sym, take, drop-length, take-append_seam}
use Rattle.show_line.proofs.Terms.{length-append, length-drop, nil_from_length, take_all}
use Rattle.show_line.proofs.Terms.{common_steps, pairs_in, words_left}
use Rattle.show_line.proofs.pairs.Pairs.append_to.Goals as goal

pub loop-pair-init : goal.loop-pair-init
loop-pair-init c =
    let kept : List (ℕ × ℕ) = c.self.inside.kept.items in
    let given : ℕ = c.self.inside.given in
    let left : List (ℕ × ℕ) = pairs_in (words_left c.self.inside.words) in
    let none : drop (length kept) kept ≡ [] = drop-length kept in
    let others : c.into_iter-pair-iterator.result ≡ left =
    rw (c.into_iter-pair-iterator.ensures.into_iter_gives, c.len.ensures.value, none) refl in
    let all : c.args.self ≡ drop given kept ++ left = sym c.self.view_is in
    let whole : take (length kept - given) (drop given kept) ≡ drop given kept =
    take_all _ _ (omega (arith, length-drop given kept)) in
    let put : c.extend_from_slice.new.self.items ≡ c.args.list.now.items ++ drop given kept =
    rw (c.in_ok-extend_from_slice.ensures.items, c.deref.ensures.0, whole) refl in
    record {
      kept = rw (put, others, all) (append_assoc c.args.list.now.items (drop given kept) left);
      none = λ is. others ∙ nil_from_length left
          (omega (arith, length-append (drop given kept) left, ap length (sym all ∙ is)));
      longer = rw put (omega (arith, length-append c.args.list.now.items (drop given kept)));
      front = rw put (take-append_seam c.args.list.now.items (drop given kept));
    }

pub loop-pair-preserved : goal.loop-pair-preserved
loop-pair-preserved c = grind (arith, common_steps)
