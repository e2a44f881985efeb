-- A run of `listen`, as far as it has come.
use Rattle.cmd_listen.proofs.Terms.{ℕ, ◌≡◌, List, [], ◌∷◌, length, reverse, Result, ap, ◌∙◌}
use Rattle.cmd_listen.proofs.Terms.{reverse_onto, Tape, with_more, with_failure, with_more-twice}
use Rattle.cmd_listen.proofs.Terms.{ReceiverState, StandsFor, shown_slots, RunFault, slots_line}
use Rattle.cmd_listen.proofs.Terms.{GaveAll, Listens, DeviceFailed, SlotsFailed, history_at_0}
use Rattle.cmd_listen.proofs.Terms.{listen_text, replies, reply_line}
use Rattle.std.proofs.Common.{Ok, Err}
use Rattle.std.proofs.Common.{IsErrAnd}
use Rattle.cmd_faults.specs.declared.fault.RunFault.TheVariants as run

-- so many datagrams came, and the receiver stands for them; where the devices tell, the source gave
-- them, and the output took the replies to them
pub record Heard (universe count : ℕ) (receiver : ReceiverState)
    (source_tells output_tells : Type 0)
    (given gives : Tape (List ℕ)) (before after : Tape ℕ) : Type 0 where
  pub datagrams : List (List ℕ)
  pub count_is : length datagrams ≡ count
  pub stands : StandsFor receiver (history_at_0 universe datagrams)
  pub gave : source_tells → GaveAll datagrams given gives
  pub took : output_tells → after ≡ with_more before (replies universe datagrams)

-- the source gave one datagram more
pub gave_more : (datagram : List ℕ) (datagrams : List (List ℕ)) (given mid gives : Tape (List ℕ))
    → GaveAll datagrams given mid → gives ≡ with_more mid (datagram ∷ [])
    → GaveAll (datagram ∷ datagrams) given gives
gave_more datagram datagrams given mid gives so_far more =
    rw (more, so_far, reverse_onto datagrams datagram [])
    (with_more-twice given (reverse datagrams) (datagram ∷ []))

-- the output took one line more
pub took_more : (universe : ℕ) (datagram : List ℕ) (datagrams : List (List ℕ))
    (before mid after : Tape ℕ)
    → mid ≡ with_more before (replies universe datagrams)
    → after ≡ with_more mid (reply_line universe datagram datagrams)
    → after ≡ with_more before (replies universe (datagram ∷ datagrams))
took_more universe datagram datagrams before mid after so_far more =
    rw (more, so_far) (with_more-twice before (replies universe datagrams) _)

-- the output took the slots line too
pub took_all : (universe : ℕ) (datagrams : List (List ℕ)) (line : List ℕ)
    (before mid after : Tape ℕ)
    → line ≡ slots_line (shown_slots (history_at_0 universe datagrams) 0)
    → mid ≡ with_more before (replies universe datagrams) → after ≡ with_more mid line
    → after ≡ with_more before (listen_text universe datagrams)
took_all universe datagrams line before mid after is so_far more =
    rw (more, so_far, ← is) (with_more-twice before (replies universe datagrams) line)

-- the run ends with Device where a device failed
pub ends : {X : Type 0} (r : Result X RunFault) (universe count : ℕ) (given gives : Tape (List ℕ))
    (before after : Tape ℕ) → IsErrAnd r (λ e. e ≡ run.Device)
    → DeviceFailed universe count given gives before after
    → Listens r universe count given gives before after
ends (Ok x) universe count given gives before after is why = absurd is
ends (Err e) universe count given gives before after is why = rw is why

-- the output failed at the slots line
pub slots_failed : (universe count : ℕ) (datagrams : List (List ℕ)) (given gives : Tape (List ℕ))
    (before mid after : Tape ℕ) → length datagrams ≡ count → GaveAll datagrams given gives
    → mid ≡ with_more before (replies universe datagrams) → after ≡ with_failure mid
    → SlotsFailed universe count given gives before after
slots_failed universe count datagrams given gives before mid after all gave took fails = record {
  datagrams = datagrams;
  all = all;
  gave = gave;
  leaves = fails ∙ ap with_failure took;
}
