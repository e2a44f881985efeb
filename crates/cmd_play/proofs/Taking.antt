-- A stage that takes bytes.
use Rattle.cmd_play.proofs.Terms.{◌≡◌, ℕ, List, [], ◌∷◌, ◌++◌, refl, ap, ◌∙◌, arith, length-append}
use Rattle.cmd_play.proofs.Terms.{append_assoc, fold-append, Ghosts, Start, Production, PlayFault}
use Rattle.cmd_play.proofs.Terms.{Stage, Cut, with_byte, Emission, Ran, EndsPlay, PlayHasEnded}
use Rattle.cmd_play.proofs.Terms.{PlayHasTaken, PlayLeaves, StandsFor}

module _ {F : Type 0} {G : Ghosts F} {sf : F → List Start → Type 0} where
  -- no bytes
  pub taken_none : {a : Stage F G} {t : Type 0} {e : Emission} → PlayHasTaken sf [] a a t e e
  taken_none = record {
    stands = λ p cut s. s;
    ran = λ tell p cut start s r. r;
    room = omega arith;
  }

  -- some bytes, and then more
  pub taken_more : {xs ys : List ℕ} {a b c : Stage F G} {t u v w : Type 0} {d e f : Emission}
      → (v → t) × (w → u) → PlayHasTaken sf xs a b (t × u) d e → PlayHasTaken sf ys b c (v × w) e f
      → PlayHasTaken sf (xs ++ ys) a c (v × w) d f
  taken_more {xs = xs} {ys = ys} told first then = record {
    stands = λ p cut s. rw (fold-append with_byte cut xs ys)
        (then.stands p _ (first.stands p cut s));
    ran = λ tell p cut start s r. rw (fold-append with_byte cut xs ys)
        (then.ran tell p _ start (first.stands p cut s)
        (first.ran (told.0 tell.0, told.1 tell.1) p cut start s r));
    room = omega (arith, first.room, then.room, length-append xs ys);
  }

  -- the first byte ends the play
  pub ended_here : {fault : PlayFault} {byte : ℕ} {a : Stage F G} {t : Type 0} {d e : Emission}
      → ((p : Production) (cut : Cut) → StandsFor sf p a cut → EndsPlay fault cut byte)
      → (t → (p : Production) (cut : Cut) (start : Emission) → StandsFor sf p a cut
      → Ran p cut.lines start d a.lost → PlayLeaves fault p cut start e)
      → PlayHasEnded sf fault (byte ∷ []) a t d e
  ended_here ends leaves = record {
    front = [];
    byte = _;
    rest = [];
    bytes_are = refl;
    fine = λ p cut s. s.fine;
    ends = ends;
    leaves = leaves;
  }

  -- some bytes were taken, and one of those behind them ends the play
  pub ended_behind : {fault : PlayFault} {xs ys : List ℕ} {a b : Stage F G} {t u v w : Type 0}
      {d e f : Emission} (zs all : List ℕ) → all ≡ xs ++ (ys ++ zs) → (v → t) × (w → u)
      → PlayHasTaken sf xs a b (t × u) d e → PlayHasEnded sf fault ys b (v × w) e f
      → PlayHasEnded sf fault all a (v × w) d f
  ended_behind {xs = xs} zs all is told first then =
      let joined = λ (cut : Cut). fold-append with_byte cut xs then.front in
      record {
        front = xs ++ then.front;
        byte = then.byte;
        rest = then.rest ++ zs;
        bytes_are = is ∙ ap (λ l. xs ++ (l ++ zs)) then.bytes_are ∙ simp append_assoc;
        fine = λ p cut s. rw (joined cut) (then.fine p _ (first.stands p cut s));
        ends = λ p cut s. rw (joined cut) (then.ends p _ (first.stands p cut s));
        leaves = λ tell p cut start s r. rw (joined cut) (then.leaves tell p _ start
            (first.stands p cut s) (first.ran (told.0 tell.0, told.1 tell.1) p cut start s r));
      }
