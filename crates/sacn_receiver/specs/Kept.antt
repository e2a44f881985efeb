-- What a receiver keeps in place of its history.
use Rattle.std.specs.Prelude.{◌≡◌, ℕ, ◌≤◌, List}
use Rattle.sacn_receiver.specs.Source.{Entry, record_of, last_moment}

-- its universe, the moment of the last packet that it accepted (0 before), and at most one packet
-- of each CID, in no order
pub record ReceiverState : Type 0 where
  pub universe : ℕ
  pub latest : ℕ
  pub records : List Entry

-- a receiver stands for a history: from now on, each CID has the record that the history gives it
pub record StandsFor (r : ReceiverState) (h : List Entry) : Type 0 where
  pub latest_is : r.latest ≡ last_moment h
  pub records_are : (t : ℕ) (cid : List ℕ) → r.latest ≤ t
      → record_of r.records t cid ≡ record_of h t cid
