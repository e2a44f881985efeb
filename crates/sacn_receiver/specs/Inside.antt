-- The fields of a receiver, seen as what it keeps.
use Rattle.sacn_receiver.specs.declared.receiver.Receiver.TheInside.{Inside}
use Rattle.sacn_receiver.specs.Kept.{ReceiverState}
use Rattle.sacn_receiver.specs.Records.{entries}
use Rattle.sacn_receiver.specs.Places.{AreDistinct}

abbrev pub receiver_view : Inside → ReceiverState
receiver_view r = record {
  universe = r.universe;
  latest = r.latest;
  records = entries r.records.items;
}

-- no two records are of one CID
abbrev pub IsReceiver : Inside → Type 0
IsReceiver r = AreDistinct (entries r.records.items)
