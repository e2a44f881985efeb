-- What `listen` prints of the datagrams that it receives. In a list of them the newest stands
-- first.
use Rattle.std.specs.Prelude.{◌≡◌, ◌⊎◌, ℕ, ◌+◌, ◌<◌, ◌≤◌, List, [], ◌∷◌, ◌++◌, length, reverse}
use Rattle.std.specs.Prelude.{Result, Ok, Err, codes, decimal}
use Rattle.sacn_receiver.specs.Source.{Entry}
use Rattle.sacn_receiver.specs.Taking.{answer, history_after}
use Rattle.sacn_receiver.specs.Shown.{shown_slots}
use Rattle.devices.specs.Tape.{Tape, with_more, with_failure}
use Rattle.cmd_faults.specs.declared.fault.RunFault.{RunFault}
use Rattle.cmd_faults.specs.declared.fault.RunFault.TheVariants as run
use Rattle.sacn_receiver.specs.Replies.{receiver_reply, slots_line}

-- the history of a receiver of a universe, with room for four sources, to which these datagrams
-- came, all of them at moment 0
abbrev pub history_at_0 : ℕ → List (List ℕ) → List Entry
history_at_0 universe [] = []
history_at_0 universe (datagram ∷ older) =
    history_after 4 universe (history_at_0 universe older) 0 datagram

-- the line of a datagram that came after older ones: its number, counted from 1, and the reply to
-- it
abbrev pub reply_line : ℕ → List ℕ → List (List ℕ) → List ℕ
reply_line universe datagram older =
    decimal (length older + 1) ++ codes " "
    ++ receiver_reply (answer 4 universe (history_at_0 universe older) 0 datagram) ++ codes "\n"

-- the lines of all datagrams, in the order in which they came
abbrev pub replies : ℕ → List (List ℕ) → List ℕ
replies universe [] = []
replies universe (datagram ∷ older) = replies universe older ++ reply_line universe datagram older

-- the text of `listen`: the replies, and then the slots at moment 0
abbrev pub listen_text : ℕ → List (List ℕ) → List ℕ
listen_text universe datagrams =
    replies universe datagrams ++ slots_line (shown_slots (history_at_0 universe datagrams) 0)

-- the source gave these datagrams too, and no call failed
abbrev pub GaveAll : List (List ℕ) → Tape (List ℕ) → Tape (List ℕ) → Type 0
GaveAll datagrams given gives = gives ≡ with_more given (reverse datagrams)

-- one datagram more: the source gave none, or it gave one and the output failed at its line
abbrev pub NextFails : Tape (List ℕ) → Tape (List ℕ) → Tape ℕ → Tape ℕ → Type 0
NextFails given gives before after =
    ((gives ≡ with_failure given) × (after ≡ before))
    ⊎ ((datagram : List ℕ) × (gives ≡ with_more given (datagram ∷ [])) ×
    (after ≡ with_failure before))

-- the source failed: it gave fewer datagrams than wanted, and the output took the replies to them
pub record SourceFailed (universe count : ℕ) (given gives : Tape (List ℕ)) (before after : Tape ℕ)
    : Type 0 where
  pub datagrams : List (List ℕ)
  pub fewer : length datagrams < count
  pub failed : gives ≡ with_failure (with_more given (reverse datagrams))
  pub took : after ≡ with_more before (replies universe datagrams)

-- the output failed at the line of the newest datagram, and took the replies to the older ones
pub record ReplyFailed (universe count : ℕ) (given gives : Tape (List ℕ)) (before after : Tape ℕ)
    : Type 0 where
  pub newest : List ℕ
  pub older : List (List ℕ)
  pub within : length (newest ∷ older) ≤ count
  pub gave : GaveAll (newest ∷ older) given gives
  pub failed : after ≡ with_failure (with_more before (replies universe older))

-- so many datagrams came, and of them the output has this
pub record HeardAll (count : ℕ) (given gives : Tape (List ℕ)) (Leaves : List (List ℕ) → Type 0)
    : Type 0 where
  pub datagrams : List (List ℕ)
  pub all : length datagrams ≡ count
  pub gave : GaveAll datagrams given gives
  pub leaves : Leaves datagrams

-- the output failed at the slots line, and took the replies to all datagrams
abbrev pub SlotsFailed : ℕ → ℕ → Tape (List ℕ) → Tape (List ℕ) → Tape ℕ → Tape ℕ → Type 0
SlotsFailed universe count given gives before after = HeardAll count given gives
    (λ datagrams. after ≡ with_failure (with_more before (replies universe datagrams)))

-- so many datagrams came, and the output took the text of `listen` for them
abbrev pub HasListened : ℕ → ℕ → Tape (List ℕ) → Tape (List ℕ) → Tape ℕ → Tape ℕ → Type 0
HasListened universe count given gives before after = HeardAll count given gives
    (λ datagrams. after ≡ with_more before (listen_text universe datagrams))

-- why `listen` ends with a fault of a device
abbrev pub DeviceFailed : ℕ → ℕ → Tape (List ℕ) → Tape (List ℕ) → Tape ℕ → Tape ℕ → Type 0
DeviceFailed universe count given gives before after =
    SourceFailed universe count given gives before after
    ⊎ (ReplyFailed universe count given gives before after
    ⊎ SlotsFailed universe count given gives before after)

-- a run of `listen`, by what its source gave and its output took
abbrev pub Listens : {X : Type 0} → Result X RunFault → ℕ → ℕ → Tape (List ℕ) → Tape (List ℕ)
    → Tape ℕ → Tape ℕ → Type 0
Listens (Ok x) universe count given gives before after =
    HasListened universe count given gives before after
Listens (Err run.Device) universe count given gives before after =
    DeviceFailed universe count given gives before after
Listens (Err fault) universe count given gives before after = ⊥
