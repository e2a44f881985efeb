-- A play over the bytes of an input.
use Rattle.cmd_play.proofs.Terms.{◌≡◌, ℕ, Bool, cond, ap, sym, ◌∙◌, List, [], ◌∷◌, ◌++◌, length}
use Rattle.cmd_play.proofs.Terms.{take, ◌⊎◌, inr, append-nil, ◌==◌, Ghosts, Start, Tape, with_more}
use Rattle.cmd_play.proofs.Terms.{with_more-none, with_more-twice, Production, PlayFault, Stage}
use Rattle.cmd_play.proofs.Terms.{with_last_lf, cut_of, no_bytes, PlayEndsEarly, PlaysAll, Emission}
use Rattle.cmd_play.proofs.Terms.{Ran, PlayHasEnded, PlayHasTaken, StandsFor}
use Rattle.cmd_play.proofs.Running.{ran_none}
use Rattle.cmd_play.proofs.Taking.{ended_behind}

-- what was read, and then more
pub read_more : {now earlier : Type 0} (a b c : Tape ℕ) (xs ys : List ℕ)
    → (now → c ≡ with_more b ys) → (now → earlier) → (earlier → b ≡ with_more a xs)
    → now → c ≡ with_more a (xs ++ ys)
read_more a b c xs ys later told before tell =
    later tell ∙ ap (λ t. with_more t ys) (before (told tell)) ∙ with_more-twice a xs ys

-- a read at the end
pub read_end : {now earlier : Type 0} (a b c : Tape ℕ) (xs buf : List ℕ) (n : ℕ) → n ≡ 0
    → (now → c ≡ with_more b (take n buf)) → (now → earlier) → (earlier → b ≡ with_more a xs)
    → now → c ≡ with_more a xs
read_end a b c xs buf n e later told before tell =
    later tell ∙ ap (λ k. with_more b (take k buf)) e ∙ with_more-none b ∙ before (told tell)

module _ {F : Type 0} {G : Ghosts F} {sf : F → List Start → Type 0} {a : Stage F G} where
  -- where something has come of a line, LF closes the bytes
  pub closed_with : {bytes : List ℕ} {b : Stage F G} {t : Type 0} {d e : Emission} {p : Production}
      {empty is : Bool} → PlayHasTaken sf bytes a b t d e → StandsFor sf p a no_bytes → empty ≡ is
      → empty ≡ (length b.pending.items == 0) → with_last_lf bytes
      ≡ cond is bytes (bytes ++ 10 ∷ [])
  closed_with {bytes = bytes} taken s test same = ap (λ b. cond b bytes (bytes ++ 10 ∷ []))
      (ap (λ (l : List ℕ). length l == 0) (sym (taken.stands _ no_bytes s).pending_is) ∙ sym same
      ∙ test)

  -- the run of all bytes
  pub ran_all : {bytes : List ℕ} {b : Stage F G} {t : Type 0} {d e : Emission} {p : Production}
      → PlayHasTaken sf bytes a b t d e → StandsFor sf p a no_bytes → a.lost ≡ 0 → t
      → Ran p (cut_of bytes).lines d e b.lost
  ran_all taken s none tell = taken.ran tell _ no_bytes _ s (rw none (ran_none _ _))

  -- an input of which all bytes were taken
  pub plays_all : {all : List ℕ} {b : Stage F G} {r t u : Type 0} {d e : Emission} (ended : Type 0)
      (fed feeds : Tape ℕ) (bytes : List ℕ) → (r → feeds ≡ with_more fed bytes) → (r → ended)
      → with_last_lf bytes ≡ all → a.lost ≡ 0 → PlayHasTaken sf all a b (t × u) d e
      → (p : Production) → StandsFor sf p a no_bytes → r → t → u
      → PlaysAll p ended fed feeds d e b.lost
  plays_all ended fed feeds bytes read at_end is none taken p s reads links prints = record {
    bytes = bytes;
    read = read reads;
    at_end = at_end reads;
    fine = rw is (taken.stands p no_bytes s).fine;
    ran = rw is (ran_all taken s none (links, prints));
  }

  -- an input of which a byte ended the play, behind those that were taken
  pub ends_behind : {fault : PlayFault} {xs ys : List ℕ} {b : Stage F G} {r t u v w : Type 0}
      {d e f : Emission} (ended : Type 0) (fed feeds : Tape ℕ) (bytes : List ℕ)
      → (r → feeds ≡ with_more fed bytes)
      → (r → (l : List ℕ) → xs ++ ys ≡ l → (bytes ≡ l) ⊎ (ended × (with_last_lf bytes ≡ l)))
      → a.lost ≡ 0 → (v → t) × (w → u) → PlayHasTaken sf xs a b (t × u) d e
      → PlayHasEnded sf fault ys b (v × w) e f
      → (p : Production) → StandsFor sf p a no_bytes → r → v → w
      → PlayEndsEarly p fault ended fed feeds d f
  ends_behind {xs = xs} {ys = ys} {d = d} ended fed feeds bytes read is none told taken then p s
      reads links prints =
      let end = ended_behind [] (xs ++ ys) (ap (λ l. xs ++ l) (sym (append-nil ys))) told taken then
      in
      inr (record {
        bytes = bytes;
        read = read reads;
        front = end.front;
        byte = end.byte;
        rest = end.rest;
        bytes_are = is reads _ end.bytes_are;
        fine = end.fine p no_bytes s;
        ends = end.ends p no_bytes s;
        leaves = end.leaves (links, prints) p no_bytes d s (rw none (ran_none p d));
      })
