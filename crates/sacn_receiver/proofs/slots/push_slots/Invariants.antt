use Rattle.std.proofs.Common.{◌≡◌, ◌≤◌, ◌+◌, ◌*◌, ◌++◌, length, codes, take, flat_map}
use Rattle.std.specs.List.{enumerate_from}
use Rattle.sacn_receiver.specs.Replies.{slot_text}
use Rattle.sacn_receiver.proofs.slots.push_slots.Given as goal

-- the slots so far
abbrev pub invariant-loop-slot : goal.invariant-loop-slot
invariant-loop-slot l = record {
  room : length l.line.bytes ≤ 26 + 10 * l.slot;
  text : l.line.bytes ≡ (l.fn.line.bytes ++ codes "slots")
      ++ flat_map slot_text (take l.slot (enumerate_from 1 l.slots));
}
