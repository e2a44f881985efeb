-- A stage that takes bytes.
use Rattle.cmd_listen.proofs.Terms.{◌≡◌, ◌≢◌, ◌<◌, ◌≤◌, ◌+◌, ℕ, List, [], ◌∷◌, ◌++◌, refl, ap, ◌∙◌}
use Rattle.cmd_listen.proofs.Terms.{arith, true, append_assoc, length, length-append, ◌==◌}
use Rattle.cmd_listen.proofs.Terms.{All-cons, fold-append, Tape, with_more, with_more-twice}
use Rattle.cmd_listen.proofs.Terms.{WatchFault, Device, Line, Memory, Stage, Cut, with_byte}
use Rattle.cmd_listen.proofs.Terms.{AreWatchLines, malformed, spelled_in, EndsWatch, WatchLeaves}
use Rattle.cmd_listen.proofs.Terms.{malformed_line, EndsWatchAt, WatchHasEnded, WatchHasTaken}
use Rattle.cmd_listen.proofs.Terms.{LeftBy, StageStandsFor, TellsLines, last_lf, MonitorsStand}
use Rattle.cmd_listen.proofs.Terms.{after_spelled, text_spelled, told_at, watch_after}

-- no bytes
pub taken_none : {a : Stage} {t : Type 0} {e : Tape ℕ} → WatchHasTaken [] a a t e e
taken_none = record {
  stands = λ us cut s. s;
  told = λ tell us cut start s r. r;
  room = omega arith;
}

-- some bytes, and then more
pub taken_more : {xs ys : List ℕ} {a b c : Stage} {t v : Type 0} {d e f : Tape ℕ} → (v → t)
    → WatchHasTaken xs a b t d e → WatchHasTaken ys b c v e f → WatchHasTaken (xs ++ ys) a c v d f
taken_more {xs = xs} {ys = ys} told first then = record {
  stands = λ us cut s. rw (fold-append with_byte cut xs ys)
      (then.stands us _ (first.stands us cut s));
  told = λ tell us cut start s r. rw (fold-append with_byte cut xs ys)
      (then.told tell us _ start (first.stands us cut s)
      (first.told (told tell) us cut start s r));
  room = omega (arith, first.room, then.room, length-append xs ys);
}

-- the first byte ends the watch
pub ended_here : {fault : WatchFault} {byte : ℕ} {a : Stage} {t : Type 0} {d e : Tape ℕ}
    → ((us : List ℕ) (cut : Cut) → StageStandsFor us a cut → EndsWatch fault cut byte)
    → (t → (us : List ℕ) (cut : Cut) (start : Tape ℕ) → StageStandsFor us a cut
    → TellsLines us cut.lines start d → WatchLeaves fault us cut.lines start e)
    → WatchHasEnded fault (byte ∷ []) a t d e
ended_here ends leaves = record {
  front = [];
  byte = _;
  rest = [];
  bytes_are = refl;
  fine = λ us cut s. s.fine;
  ends = ends;
  leaves = leaves;
}

-- some bytes were taken, and one of those behind them ends the watch
pub ended_behind : {fault : WatchFault} {xs ys : List ℕ} {a b : Stage} {t v : Type 0}
    {d e f : Tape ℕ} (zs all : List ℕ) → all ≡ xs ++ (ys ++ zs) → (v → t)
    → WatchHasTaken xs a b t d e → WatchHasEnded fault ys b v e f → WatchHasEnded fault all a v d f
ended_behind {xs = xs} zs all is told first then =
    let joined = λ (cut : Cut). fold-append with_byte cut xs then.front in
    record {
      front = xs ++ then.front;
      byte = then.byte;
      rest = then.rest ++ zs;
      bytes_are = is ∙ ap (λ l. xs ++ (l ++ zs)) then.bytes_are ∙ simp append_assoc;
      fine = λ us cut s. rw (joined cut) (then.fine us _ (first.stands us cut s));
      ends = λ us cut s. rw (joined cut) (then.ends us _ (first.stands us cut s));
      leaves = λ tell us cut start s r. rw (joined cut) (then.leaves tell us _ start
          (first.stands us cut s) (first.told (told tell) us cut start s r));
    }

-- ---- a line

pub fine_more : (line : List ℕ) (older : List (List ℕ)) → spelled_in line ≢ malformed
    → length line ≤ 3072 → length older < 4000000000 → AreWatchLines older
    → AreWatchLines (line ∷ older)
fine_more line older fine short few older_fine = record {
  none_malformed = All-cons (λ l. spelled_in l ≢ malformed) line older fine
      older_fine.none_malformed;
  none_long = All-cons (λ l. length l ≤ 3072) line older short older_fine.none_long;
  few = omega arith;
}

-- the line that LF ends was taken
pub line_stands : (us : List ℕ) (cut : Cut) (b : ℕ) (line : List ℕ) (old new : Stage) → b ≡ 10
    → line ≡ old.pending.items → StageStandsFor us old cut → old.number < 4000000000
    → spelled_in line ≢ malformed
    → MonitorsStand new.watching (after_spelled (spelled_in line) (watch_after us cut.lines))
    → new.pending.items ≡ [] → new.number ≡ old.number + 1
    → StageStandsFor us new (with_byte cut b)
line_stands us cut b line old new e is s few fine stands empty number =
    let same : line ≡ cut.rest = is ∙ s.pending_is in
    rw e (record {
      watching_stands = rw same at stands;
      pending_is = empty;
      number_is = omega (arith, number, s.number_is);
      fine = fine_more cut.rest cut.lines (rw same at fine) s.short (omega (arith, s.number_is))
          s.fine;
      short = omega arith;
    })

pub line_told : (us : List ℕ) (cut : Cut) (b : ℕ) (line : List ℕ) (start before after : Tape ℕ)
    → b ≡ 10 → line ≡ cut.rest → TellsLines us cut.lines start before
    → after ≡ with_more before (text_spelled (spelled_in line) (watch_after us cut.lines))
    → TellsLines us (with_byte cut b).lines start after
line_told us cut b line start before after e is told more =
    rw e (more ∙ ap (λ l. with_more before (text_spelled (spelled_in l) (watch_after us cut.lines)))
    is
    ∙ ap (λ t. with_more t (text_spelled (spelled_in cut.rest) (watch_after us cut.lines))) told
    ∙ with_more-twice start (told_at us cut.lines)
    (text_spelled (spelled_in cut.rest) (watch_after us cut.lines)))

-- what was told before is what is left
pub left_by : (fault : WatchFault) (us : List ℕ) (lines : List (List ℕ))
    (start before after : Tape ℕ) → TellsLines us lines start before → LeftBy fault before after
    → WatchLeaves fault us lines start after
left_by Device us lines start before after told left = rw told at left
left_by (Line n) us lines start before after told left = left ∙ told
left_by Memory us lines start before after told left = left ∙ told

-- the line that LF ends ended the watch
pub ends_line : (fault : WatchFault) (us : List ℕ) (cut : Cut) (b : ℕ) (line : List ℕ) (old : Stage)
    → b ≡ 10 → line ≡ old.pending.items → StageStandsFor us old cut → old.number < 4000000000
    → EndsWatchAt fault (old.number + 1) (spelled_in line) → EndsWatch fault cut b
ends_line (Line n) us cut b line old e is s few ends =
    let bad : spelled_in cut.rest ≡ malformed = rw (is ∙ s.pending_is) at ends.1 in
    (omega (arith, ends.0, s.number_is), malformed_line e bad)
ends_line Memory us cut b line old e is s few ends =
    record { ends = e; few = omega (arith, s.number_is); short = s.short }
ends_line Device us cut b line old e is s few ends = (
  record { ends = e; few = omega (arith, s.number_is); short = s.short },
  rw (is ∙ s.pending_is) at ends,
)

-- ---- the LF that a last line lacks

pub rest_none : {a : Stage} {t : Type 0} {e : Tape ℕ} (pending : List ℕ)
    → (length pending == 0) ≡ true → WatchHasTaken (last_lf pending) a a t e e
rest_none pending is = rw is taken_none
