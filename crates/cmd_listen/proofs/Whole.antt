-- A watch over the bytes of an input.
use Rattle.cmd_listen.proofs.Terms.{◌≡◌, ◌≢◌, ℕ, Bool, true, false, cond, ap, sym, refl, ◌∙◌, List}
use Rattle.cmd_listen.proofs.Terms.{[], ◌∷◌, ◌++◌, length, take, ◌⊎◌, inl, inr, append-nil, ◌==◌}
use Rattle.cmd_listen.proofs.Terms.{OnOk, Ok, Err, Tape, with_more, with_more-none, with_more-twice}
use Rattle.cmd_listen.proofs.Terms.{WatchFault, Stage, with_last_lf, cut_of, no_bytes}
use Rattle.cmd_listen.proofs.Terms.{WatchEndsEarly, WatchesAll, WatchHasEnded, WatchHasTaken}
use Rattle.cmd_listen.proofs.Terms.{LastTold, LeftBy, StageStandsFor, TellsLines, last_lf}
use Rattle.cmd_listen.proofs.Terms.{MonitorsStand, last_text, told_at, watch_after, WatchState}
use Rattle.std.specs.Prelude.{IfErr, Result}
use Rattle.cmd_listen.specs.declared.fault.WatchFault.TheVariants as early
use Rattle.cmd_listen.proofs.Taking.{ended_behind, left_by, taken_more}

-- what was read, and then more
pub read_more : {now earlier : Type 0} (a b c : Tape ℕ) (xs ys : List ℕ)
    → (now → c ≡ with_more b ys) → (now → earlier) → (earlier → b ≡ with_more a xs)
    → now → c ≡ with_more a (xs ++ ys)
read_more a b c xs ys later told before tell =
    later tell ∙ ap (λ t. with_more t ys) (before (told tell)) ∙ with_more-twice a xs ys

-- a read at the end
pub read_end : {now earlier : Type 0} (a b c : Tape ℕ) (xs buf : List ℕ) (n : ℕ) → n ≡ 0
    → (now → c ≡ with_more b (take n buf)) → (now → earlier) → (earlier → b ≡ with_more a xs)
    → now → c ≡ with_more a xs
read_end a b c xs buf n e later told before tell =
    later tell ∙ ap (λ k. with_more b (take k buf)) e ∙ with_more-none b ∙ before (told tell)

-- the bytes with the LF that they lack
close_with : (bytes : List ℕ) (t : Bool)
    → bytes ++ cond t [] (10 ∷ []) ≡ cond t bytes (bytes ++ 10 ∷ [])
close_with bytes true = append-nil bytes
close_with bytes false = refl

pub closed_by : (bytes pending : List ℕ) → pending ≡ (cut_of bytes).rest
    → bytes ++ last_lf pending ≡ with_last_lf bytes
closed_by bytes pending is =
    ap (λ p. bytes ++ last_lf p) is ∙ close_with bytes (length (cut_of bytes).rest == 0)

-- nothing was told before the first line
told_none : (us : List ℕ) (start : Tape ℕ) → TellsLines us [] start start
told_none us start = sym (with_more-none start)

module _ {a : Stage} where
  -- what is pending is the line that was not ended
  pub pending_of : {bytes : List ℕ} {b : Stage} {t : Type 0} {d e : Tape ℕ} {us : List ℕ}
      → WatchHasTaken bytes a b t d e → StageStandsFor us a no_bytes → b.pending.items
      ≡ (cut_of bytes).rest
  pending_of {us = us} taken s = (taken.stands us no_bytes s).pending_is

  pub told_all : {bytes : List ℕ} {b : Stage} {t : Type 0} {d e : Tape ℕ} {us : List ℕ}
      → WatchHasTaken bytes a b t d e → StageStandsFor us a no_bytes → t
      → TellsLines us (cut_of bytes).lines d e
  told_all {d = d} {us = us} taken s tell = taken.told tell us no_bytes d s (told_none us d)

  -- a whole input
  watches_all : (bytes : List ℕ) {b : Stage} {t u v : Type 0} {d e f : Tape ℕ} {us : List ℕ}
      (ended : Type 0) (fed feeds : Tape ℕ) → (u → feeds ≡ with_more fed bytes) → (u → ended)
      → StageStandsFor us a no_bytes → (pending : List ℕ) → pending ≡ (cut_of bytes).rest
      → WatchHasTaken (bytes ++ last_lf pending) a b t d e → (v → t)
      → ((w : WatchState) → MonitorsStand b.watching w → v → f ≡ with_more e (last_text w))
      → u → v → WatchesAll us ended fed feeds d f
  watches_all bytes {d = d} {us = us} ended fed feeds read at_end s pending is taken told
      last reads prints =
      let c = closed_by bytes pending is in
      let stands = taken.stands us no_bytes s in
      let w = watch_after us (cut_of (bytes ++ last_lf pending)).lines in
      let all = last w stands.watching_stands prints
      ∙ ap (λ t. with_more t (last_text w)) (told_all taken s (told prints))
      ∙ with_more-twice d (told_at us (cut_of (bytes ++ last_lf pending)).lines) (last_text w)
      in
      record {
        bytes = bytes;
        read = read reads;
        at_end = at_end reads;
        fine = rw (← c) stands.fine;
        told = rw (← c) all;
      }

  -- an input of which a byte ended the watch, behind those that were taken
  pub ends_behind : {fault : WatchFault} {xs ys : List ℕ} {b : Stage} {t u v : Type 0}
      {d e f : Tape ℕ} {us : List ℕ} (ended : Type 0) (fed feeds : Tape ℕ) (bytes : List ℕ)
      → (u → feeds ≡ with_more fed bytes)
      → (u → (l : List ℕ) → xs ++ ys ≡ l → (bytes ≡ l) ⊎ (ended × (with_last_lf bytes ≡ l)))
      → (v → t) → WatchHasTaken xs a b t d e → WatchHasEnded fault ys b v e f
      → StageStandsFor us a no_bytes → u → v → WatchEndsEarly us fault ended fed feeds d f
  ends_behind {xs = xs} {ys = ys} {d = d} {us = us} ended fed feeds bytes read is told taken then s
      reads prints =
      let end = ended_behind [] (xs ++ ys) (ap (λ l. xs ++ l) (sym (append-nil ys))) told taken then
      in
      inr (inl (record {
        bytes = bytes;
        read = read reads;
        front = end.front;
        byte = end.byte;
        rest = end.rest;
        bytes_are = is reads _ end.bytes_are;
        fine = end.fine us no_bytes s;
        ends = end.ends us no_bytes s;
        leaves = end.leaves prints us no_bytes d s (told_none us d);
      }))

  -- an input at whose end nothing more could be told
  ends_last : (bytes : List ℕ) {fault : WatchFault} {b : Stage} {t u v : Type 0}
      {d e f : Tape ℕ} {us : List ℕ} (ended : Type 0) (fed feeds : Tape ℕ)
      → (u → feeds ≡ with_more fed bytes) → (u → ended) → StageStandsFor us a no_bytes
      → (pending : List ℕ) → pending ≡ (cut_of bytes).rest
      → WatchHasTaken (bytes ++ last_lf pending) a b t d e → (v → t)
      → ((n : ℕ) → fault ≢ early.Line n) → (v → LeftBy fault e f)
      → u → v → WatchEndsEarly us fault ended fed feeds d f
  ends_last bytes {fault = fault} {d = d} {e = e} {f = f} {us = us} ended fed feeds read
      at_end s pending is taken told no_line left reads prints =
      let c = closed_by bytes pending is in
      let leaves = left_by fault us (cut_of (bytes ++ last_lf pending)).lines d e f
      (told_all taken s (told prints)) (left prints) in
      inr (inr (record {
        no_line = no_line;
        bytes = bytes;
        read = read reads;
        at_end = at_end reads;
        fine = rw (← c) (taken.stands us no_bytes s).fine;
        leaves = rw (← c) leaves;
      }))

  -- what the end of the lines leaves is what the whole input leaves
  pub last_all : {X : Type 0} (r : Result X WatchFault) (bytes : List ℕ) {b c : Stage}
      {t t' u v : Type 0} {d e e' : Tape ℕ} (f : Tape ℕ) (ended : Type 0) (fed feeds : Tape ℕ)
      → (u → feeds ≡ with_more fed bytes) → (u → ended) → WatchHasTaken bytes a b t d e → (t' → t)
      → WatchHasTaken (last_lf b.pending.items) b c t' e e' → (v → t')
      → LastTold r c.watching v e' f
      → OnOk r ((us : List ℕ) → StageStandsFor us a no_bytes → u → v
      → WatchesAll us ended fed feeds d f)
  last_all (Ok x) bytes f ended fed feeds read at_end first told rest printed last = λ us s.
      watches_all bytes ended fed feeds read at_end s _ (pending_of first s)
      (taken_more told first rest) printed last
  last_all (Err fault) bytes f ended fed feeds read at_end first told rest printed last = tt

  pub last_ends : {X : Type 0} (r : Result X WatchFault) (bytes : List ℕ) {b c : Stage}
      {t t' u v : Type 0} {d e e' : Tape ℕ} (f : Tape ℕ) (ended : Type 0) (fed feeds : Tape ℕ)
      → (u → feeds ≡ with_more fed bytes) → (u → ended) → WatchHasTaken bytes a b t d e → (t' → t)
      → WatchHasTaken (last_lf b.pending.items) b c t' e e' → (v → t')
      → LastTold r c.watching v e' f
      → IfErr r (λ fault. (us : List ℕ) → StageStandsFor us a no_bytes → u → v
      → WatchEndsEarly us fault ended fed feeds d f)
  last_ends (Ok x) bytes f ended fed feeds read at_end first told rest printed last = tt
  last_ends (Err fault) bytes f ended fed feeds read at_end first told rest printed last = λ us s.
      ends_last bytes ended fed feeds read at_end s _ (pending_of first s)
      (taken_more told first rest) printed last.0 last.1
