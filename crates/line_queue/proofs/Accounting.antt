-- What each step of a queue does to its account.
use Rattle.std.proofs.Common.{◌≡◌, ◌≢◌, ◌≤◌, ◌<◌, ◌+◌, ◌∙◌, ℕ, add-zero, min, List, [], ◌∷◌, ◌++◌}
use Rattle.std.proofs.Common.{Option, Some, None, IsSome, false, is_some, append_assoc, append-nil}
use Rattle.std.proofs.Common.{ap, arith, drop, length, refl, sym, take, vec_capacity, vec_len}
use Rattle.std.proofs.lemmas.List.{flat_map_more, length-append, length-take-le, length-take}
use Rattle.std.proofs.lemmas.List.{nil_from_length, take-append-drop, take-take}
use Rattle.std.proofs.lemmas.List.Sums.{sum_by-append}
use Rattle.std.specs.declared.io.ErrorKind.{ErrorKind}
use Rattle.line_queue.specs.Entries.{QueueEntry, capped_count, gaps_of, entry_lines, queue_lines}
use Rattle.line_queue.specs.Entries.{text_in, queue_text}
use Rattle.line_queue.specs.Entries.QueueEntry.{Gap, Whole}
use Rattle.line_queue.specs.Notices.{notice_text}
use Rattle.line_queue.specs.Pipes.{PipeTape, lasting_failure}
use Rattle.line_queue.specs.Stands.{Accounts, Keeps, StandsFor}
use Rattle.line_queue.specs.declared.notice.Notice.{Notice}
use Rattle.line_queue.specs.declared.queue.LineQueue.{LineQueue}

-- more is counted
counted_more : (a b : ℕ) → min (capped_count a + b) 18446744073709551615 ≡ capped_count (a + b)
counted_more a b = omega arith

-- nothing is counted
none_counted : (xs : List (List ℕ)) → capped_count (length xs) ≡ 0 → xs ≡ []
none_counted xs is = nil_from_length xs (omega arith)

-- what is no `Some`
pub none_of : (o : Option ErrorKind) (n : ℕ) → (IsSome o → n ≡ 0) → 0 < n → o ≡ None
none_of None n over some = refl
none_of (Some kind) n over some = absurd (omega (arith, over refl))

pub none_is : (o : Option ErrorKind) → is_some o ≡ false → o ≡ None
none_is None is = refl
none_is (Some kind) is = cc

lines_more : (entries : List QueueEntry) (entry : QueueEntry)
    → queue_lines (entries ++ entry ∷ []) ≡ queue_lines entries ++ entry_lines entry
lines_more entries entry = sym (flat_map_more entry_lines [] entries entry)

text_more : (notice : Notice) (entries : List QueueEntry) (entry : QueueEntry)
    → queue_text notice (entries ++ entry ∷ []) ≡ queue_text notice entries ++ text_in notice entry
text_more notice entries entry = sym (flat_map_more (text_in notice) [] entries entry)

gaps_more : (entries : List QueueEntry) (entry : QueueEntry)
    → gaps_of (entries ++ entry ∷ []) ≡ gaps_of entries + gaps_of (entry ∷ [])
gaps_more entries entry = sum_by-append _ entries (entry ∷ [])

-- Two queues with the same words, bytes, numbers and failure.
pub record IsSame {P : Type 0} (old new : LineQueue P) : Type 0 where
  pub notice : new.notice ≡ old.notice
  pub waiting : new.waiting.items ≡ old.waiting.items
  pub taken : new.taken ≡ old.taken
  pub dropped : new.dropped ≡ old.dropped
  pub gaps : new.gaps ≡ old.gaps
  pub failure : new.failure ≡ old.failure

-- where only its pipe did something, a queue is the same
pub same_but_pipe : {P : Type 0} (queue : LineQueue P) (pipe : P)
    {room : 65536 ≤ vec_capacity queue.waiting} {bounded : vec_len queue.waiting ≤ 65536}
    {over : IsSome queue.failure → vec_len queue.waiting ≡ 0}
    → IsSame queue
    (record queue { pipe = pipe; room = room; bounded = bounded; over = over })
same_but_pipe queue pipe = record {
  notice = refl;
  waiting = refl;
  taken = refl;
  dropped = refl;
  gaps = refl;
  failure = refl;
}

-- they stand for the same lines, by tapes with the same bytes and the same lasting failure
pub same_stands : {P : Type 0} (old new : LineQueue P) (before after : PipeTape)
    (given : List (List ℕ))
    → IsSame old new → after.taken ≡ before.taken → lasting_failure after.fault
    ≡ lasting_failure before.fault
    → StandsFor old before given → StandsFor new after given
same_stands old new before after given same taken fault stands =
    let a = stands.account in record {
      account = record {
        entries = a.entries;
        untold = a.untold;
        left = a.left;
        in_order = a.in_order;
        whole = ap (λ xs. xs ++ a.left) taken ∙ a.whole ∙ ap (λ n. queue_text n a.entries)
            (sym same.notice);
        waits = λ alive. let was = a.waits (sym same.failure ∙ alive) in
            (same.waiting ∙ was.0, same.dropped ∙ was.1);
        fault = same.failure ∙ a.fault ∙ sym fault;
        count = same.taken ∙ a.count ∙ ap (λ xs. capped_count (length xs)) (sym taken);
        gaps = same.gaps ∙ a.gaps;
      };
      told = λ alive empty. same.dropped ∙ stands.told (sym same.failure ∙ alive)
          (sym same.waiting ∙ empty);
    }

-- the lines are the same with none behind them
pub none_more : {P : Type 0} (queue : LineQueue P) (tape : PipeTape) (given : List (List ℕ))
    → StandsFor queue tape given → StandsFor queue tape (given ++ [])
none_more queue tape given stands = rw append-nil stands

-- a queue that failed stands for whatever it is given
pub failed_more : {P : Type 0} (queue : LineQueue P) (tape : PipeTape) (given lines : List (List ℕ))
    → queue.failure ≢ None → StandsFor queue tape given → StandsFor queue tape (given ++ lines)
failed_more queue tape given lines over stands =
    let a = stands.account in record {
      account = record {
        entries = a.entries;
        untold = a.untold ++ lines;
        left = a.left;
        in_order = ap (λ xs. xs ++ lines) a.in_order ∙ append_assoc
            (queue_lines a.entries) a.untold lines;
        whole = a.whole;
        waits = λ alive. absurd (over alive);
        fault = a.fault;
        count = a.count;
        gaps = a.gaps;
      };
      told = λ alive. absurd (over alive);
    }

-- What a queue that has not failed does next: its words and its failure stay.
pub record IsNext {P : Type 0} (old new : LineQueue P) : Type 0 where
  pub alive : old.failure ≡ None
  pub notice : new.notice ≡ old.notice
  pub failure : new.failure ≡ old.failure

module _ {P : Type 0} (old new : LineQueue P) (tape : PipeTape) (given : List (List ℕ))
    (next : IsNext old new) where
  -- one line more was dropped
  pub dropped_more : (line : List ℕ) → new.waiting.items ≡ old.waiting.items
      → new.taken ≡ old.taken → new.gaps ≡ old.gaps
      → new.dropped ≡ min (old.dropped + 1) 18446744073709551615
      → StandsFor old tape given → Accounts new tape (given ++ line ∷ [])
  dropped_more line waiting taken gaps dropped stands =
      let a = stands.account in
      let was = a.waits next.alive in record {
        entries = a.entries;
        untold = a.untold ++ line ∷ [];
        left = a.left;
        in_order = ap (λ xs. xs ++ line ∷ []) a.in_order
            ∙ append_assoc (queue_lines a.entries) a.untold (line ∷ []);
        whole = a.whole ∙ ap (λ n. queue_text n a.entries) (sym next.notice);
        waits = λ _. (
          waiting ∙ was.0,
          dropped ∙ ap (λ n. min (n + 1) 18446744073709551615) was.1
              ∙ counted_more (length a.untold) 1
              ∙ ap capped_count (sym (length-append a.untold (line ∷ []))),
        );
        fault = next.failure ∙ a.fault;
        count = taken ∙ a.count;
        gaps = gaps ∙ a.gaps;
      }

  -- the first bytes were taken
  pub taken_more : (count : ℕ) → count ≤ length old.waiting.items
      → new.waiting.items ≡ drop count old.waiting.items
      → new.taken ≡ min (old.taken + count) 18446744073709551615
      → new.dropped ≡ old.dropped → new.gaps ≡ old.gaps
      → StandsFor old tape given
      → (writes : ℕ)
      → Accounts new (record tape {
        taken = tape.taken ++ take count old.waiting.items;
        writes = writes;
        fault = None;
      }) given
  taken_more count within waiting taken dropped gaps stands writes =
      let a = stands.account in
      let was = a.waits next.alive in
      let xs = old.waiting.items in record {
        entries = a.entries;
        untold = a.untold;
        left = drop count xs;
        in_order = a.in_order;
        whole = append_assoc tape.taken (take count xs) (drop count xs)
            ∙ ap (λ ys. tape.taken ++ ys) (take-append-drop count xs ∙ was.0)
            ∙ a.whole ∙ ap (λ n. queue_text n a.entries) (sym next.notice);
        waits = λ _. (waiting, dropped ∙ was.1);
        fault = next.failure ∙ next.alive;
        count = taken ∙ ap (λ n. min (n + count) 18446744073709551615) a.count
            ∙ counted_more (length tape.taken) count
            ∙ ap capped_count (ap (λ n. length tape.taken + n)
            (sym (length-take-le count xs within))
            ∙ sym (length-append tape.taken (take count xs)));
        gaps = gaps ∙ a.gaps;
      }

  -- a line was kept
  pub kept_more : (line : List ℕ) → new.waiting.items ≡ old.waiting.items ++ line
      → new.taken ≡ old.taken → new.gaps ≡ old.gaps → old.dropped ≡ 0 → new.dropped ≡ 0
      → StandsFor old tape given → StandsFor new tape (given ++ line ∷ [])
  kept_more line waiting taken gaps none still stands =
      let a = stands.account in
      let was = a.waits next.alive in
      let told = none_counted a.untold (sym was.1 ∙ none) in
      let text = queue_text old.notice a.entries in record {
        account = record {
          entries = a.entries ++ Whole line ∷ [];
          untold = [];
          left = a.left ++ line;
          in_order = ap (λ xs. xs ++ line ∷ []) (a.in_order ∙ ap
              (λ xs. queue_lines a.entries ++ xs) told
              ∙ append-nil (queue_lines a.entries))
              ∙ sym (lines_more a.entries (Whole line)) ∙ sym (append-nil _);
          whole = sym (append_assoc tape.taken a.left line) ∙ ap (λ xs. xs ++ line) a.whole
              ∙ sym (text_more old.notice a.entries (Whole line))
              ∙ ap (λ n. queue_text n (a.entries ++ Whole line ∷ [])) (sym next.notice);
          waits = λ _. (waiting ∙ ap (λ xs. xs ++ line) was.0, still);
          fault = next.failure ∙ a.fault;
          count = taken ∙ a.count;
          gaps = gaps ∙ a.gaps
              ∙ ap capped_count (sym (gaps_more a.entries (Whole line) ∙ add-zero _));
        };
        told = λ _ _. still;
      }

  module _ (waiting : new.waiting.items ≡ notice_text old.notice old.dropped)
      (taken : new.taken ≡ old.taken) (gaps : new.gaps ≡ min (old.gaps + 1) 18446744073709551615)
      (none : new.dropped ≡ 0) (empty : old.waiting.items ≡ []) (some : old.dropped ≢ 0)
      (a : Accounts old tape given) where
    gap_with : (untold : List (List ℕ)) → given ≡ queue_lines a.entries ++ untold
        → old.dropped ≡ capped_count (length untold) → StandsFor new tape given
    gap_with [] in_order dropped = absurd (some dropped)
    gap_with (first ∷ others) in_order dropped =
        let gap = Gap first others in
        let notice = notice_text old.notice old.dropped in record {
          account = record {
            entries = a.entries ++ gap ∷ [];
            untold = [];
            left = notice;
            in_order = in_order ∙ sym (lines_more a.entries gap) ∙ sym (append-nil _);
            whole = ap (λ xs. xs ++ notice) (sym (append-nil tape.taken)
                ∙ ap (λ xs. tape.taken ++ xs) (sym empty ∙ (a.waits next.alive).0) ∙ a.whole)
                ∙ ap (λ n. queue_text old.notice a.entries ++ notice_text old.notice n) dropped
                ∙ sym (text_more old.notice a.entries gap)
                ∙ ap (λ n. queue_text n (a.entries ++ gap ∷ [])) (sym next.notice);
            waits = λ _. (waiting, none);
            fault = next.failure ∙ a.fault;
            count = taken ∙ a.count;
            gaps = gaps ∙ ap (λ n. min (n + 1) 18446744073709551615) a.gaps
                ∙ counted_more (gaps_of a.entries) 1
                ∙ ap capped_count (sym (gaps_more a.entries gap));
          };
          told = λ _ _. none;
        }

    -- a notice was put in place of the lines that were dropped
    pub gap_told : StandsFor new tape given
    gap_told = gap_with a.untold a.in_order (a.waits next.alive).1

-- the first of the first bytes
pub take-front : (count n : ℕ) (xs : List ℕ) → count ≤ length (take n xs)
    → take count (take n xs) ≡ take count xs
take-front count n xs within = take-take count n xs (omega (arith, length-take n xs))

-- what a queue keeps it keeps on, as long as no write failed before it hands on more
pub keeps_on : {P : Type 0} (bytes : List ℕ) (old mid new : LineQueue P)
    (before between after : PipeTape) → mid.failure ≡ None → Keeps bytes old before mid between
    → Keeps [] mid between new after → Keeps bytes old before new after
keeps_on bytes old mid new before between after alive one two = record {
  left = two.left;
  whole = two.whole
      ∙ ap (λ xs. between.taken ++ xs) (append-nil mid.waiting.items ∙ (one.waits alive).0)
      ∙ one.whole;
  waits = two.waits;
}

-- the same where its pipe was asked in between, and took nothing then
pub keeps_past : {P : Type 0} {asked new : LineQueue P} {asked_tape after : PipeTape}
    → Keeps [] asked asked_tape new after → (old mid : LineQueue P) (before between : PipeTape)
    → asked.waiting.items ≡ mid.waiting.items → asked_tape.taken ≡ between.taken
    → mid.failure ≡ None → Keeps [] old before mid between → Keeps [] old before new after
keeps_past {P} {asked} two old mid before between waiting taken alive one = record {
  left = two.left;
  whole = two.whole ∙ ap (λ xs. xs ++ (asked.waiting.items ++ [])) taken
      ∙ ap (λ xs. between.taken ++ xs)
      (append-nil asked.waiting.items ∙ waiting ∙ (one.waits alive).0)
      ∙ one.whole;
  waits = two.waits;
}

-- a queue keeps what waits, where only its pipe did something and took nothing
pub keeps_all : {P : Type 0} (old new : LineQueue P) (before after : PipeTape)
    → new.waiting.items ≡ old.waiting.items → new.dropped ≡ 0 → after.taken ≡ before.taken
    → Keeps [] old before new after
keeps_all old new before after waiting none taken = record {
  left = old.waiting.items;
  whole = ap (λ xs. xs ++ old.waiting.items) taken
      ∙ ap (λ xs. before.taken ++ xs) (sym (append-nil old.waiting.items));
  waits = λ _. (waiting, none);
}

-- nor does a failure lose what the pipe took
pub keeps_failed : {P : Type 0} (old new : LineQueue P) (before after : PipeTape) (kind : ErrorKind)
    → new.failure ≡ Some kind → after.taken ≡ before.taken → Keeps [] old before new after
keeps_failed old new before after kind failed taken = record {
  left = old.waiting.items;
  whole = ap (λ xs. xs ++ old.waiting.items) taken
      ∙ ap (λ xs. before.taken ++ xs) (sym (append-nil old.waiting.items));
  waits = λ alive. absurd (let is = sym failed ∙ alive in cc);
}

-- a pipe took the first bytes
pub keeps_taken : {P : Type 0} (old new : LineQueue P) (before after : PipeTape) (count : ℕ)
    → after.taken ≡ before.taken ++ take count old.waiting.items
    → new.waiting.items ≡ drop count old.waiting.items → new.dropped ≡ 0
    → Keeps [] old before new after
keeps_taken old new before after count taken waiting none =
    let xs = old.waiting.items in record {
      left = drop count xs;
      whole = ap (λ ys. ys ++ drop count xs) taken
          ∙ append_assoc before.taken (take count xs) (drop count xs)
          ∙ ap (λ ys. before.taken ++ ys) (take-append-drop count xs ∙ sym (append-nil xs));
      waits = λ _. (waiting, none);
    }
