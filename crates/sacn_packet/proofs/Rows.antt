-- The packet of the smallest show, and what is wrong with others like it, evaluated.
use Rattle.std.specs.Prelude.{◌≡◌, refl, ℕ, ◌+◌, ◌-◌, List, [], ◌∷◌, ◌++◌, map, take, drop}
use Rattle.std.specs.Prelude.{replicate, slice_index, slice_set, Option, Some, None, codes}
use Rattle.std.specs.List.{range_with_len}
use Rattle.sacn_packet.specs.declared.unreadable.Unreadable.{Unreadable}
use Rattle.sacn_packet.specs.declared.unreadable.Unreadable.TheVariants.{Short, Preamble}
use Rattle.sacn_packet.specs.declared.unreadable.Unreadable.TheVariants.{Identifier, RootVector}
use Rattle.sacn_packet.specs.declared.unreadable.Unreadable.TheVariants.{Length, FramingVector}
use Rattle.sacn_packet.specs.declared.unreadable.Unreadable.TheVariants.{Universe, Dmp, Count}
use Rattle.sacn_packet.specs.Faults.{fault_of}
use Rattle.sacn_packet.specs.Name.{padded_name}
use Rattle.sacn_packet.specs.Reading.{front_packet}
use Rattle.sacn_packet.specs.Wire.{WirePacket}

abbrev cid : List ℕ
cid = 0xc0 ∷ 0xff ∷ 0xee ∷ 0 ∷ 0 ∷ 0 ∷ 0x40 ∷ 0 ∷ 0x80 ∷ 0 ∷ 0 ∷ 0 ∷ 0 ∷ 0 ∷ 0xe1 ∷ 0x31 ∷ []

-- up to the START code: root layer, framing layer and DMP layer
abbrev layers : List ℕ
layers =
    0 ∷ 0x10 ∷ 0 ∷ 0 ∷ codes "ASC-E1.17" ++ 0 ∷ 0 ∷ 0 ∷ 0x72 ∷ 0x6e ∷ 0 ∷ 0 ∷ 0 ∷ 4 ∷ cid
    ++ 0x72 ∷ 0x58 ∷ 0 ∷ 0 ∷ 0 ∷ 2 ∷ codes "cueplayer" ++ replicate 55 0
    ++ 0x64 ∷ 0 ∷ 0 ∷ 0 ∷ 0 ∷ 0 ∷ 1
    ∷ 0x72 ∷ 0x0b ∷ 2 ∷ 0xa1 ∷ 0 ∷ 0 ∷ 0 ∷ 1 ∷ 2 ∷ 1 ∷ 0 ∷ []

-- slot 1 is at 64
abbrev one_slot : List ℕ
one_slot = 64 ∷ replicate 511 0

abbrev look_one_packet : List ℕ
look_one_packet = layers ++ one_slot

-- what it says
abbrev look_one_says : WirePacket
look_one_says = record {
  fields = record {
    cid = cid;
    name = padded_name (codes "cueplayer");
    priority = 100;
    sync = 0;
    sequence = 0;
    options = 0;
    universe = 1;
    start = 0;
  };
  slots = one_slot;
}

look_one : (fault_of look_one_packet ≡ None) × (front_packet look_one_packet ≡ look_one_says)
look_one = (refl, refl)

-- two more bytes behind it change nothing
trailing : (fault_of (look_one_packet ++ 1 ∷ 2 ∷ []) ≡ None)
    × (front_packet (look_one_packet ++ 1 ∷ 2 ∷ []) ≡ look_one_says)
trailing = (refl, refl)

-- the faults of that packet cut to so many lengths, from one on
abbrev cut : ℕ → ℕ → List (Option Unreadable)
cut from count = map (λ size. fault_of (take size look_one_packet)) (range_with_len from count)

cut_packet : (cut 0 126 ≡ replicate 126 (Some Short)) × (cut 126 1 ≡ Some Length ∷ [])
    × (cut 637 1 ≡ Some Length ∷ []) × (cut 638 1 ≡ None ∷ [])
cut_packet = (refl, refl, refl, refl)

-- the faults of that packet with all bits of one byte turned over, at so many offsets from one on
abbrev turned : ℕ → ℕ → List (Option Unreadable)
turned from count =
    map (λ offset. fault_of (take offset look_one_packet
    ++ (255 - slice_index look_one_packet offset) ∷ drop (offset + 1) look_one_packet))
    (range_with_len from count)

turned_root_layer : (turned 0 4 ≡ replicate 4 (Some Preamble))
    × (turned 4 12 ≡ replicate 12 (Some Identifier))
    × (turned 16 2 ≡ replicate 2 (Some Length)) × (turned 18 4 ≡ replicate 4 (Some RootVector))
    × (turned 22 16 ≡ replicate 16 None)
turned_root_layer = (refl, refl, refl, refl, refl)

turned_framing_layer : (turned 38 2 ≡ replicate 2 (Some Length))
    × (turned 40 4 ≡ replicate 4 (Some FramingVector))
    × (turned 44 69 ≡ replicate 69 None) × (turned 113 1 ≡ Some Universe ∷ [])
    × (turned 114 1 ≡ None ∷ [])
turned_framing_layer = (refl, refl, refl, refl, refl)

turned_dmp_layer : (turned 115 2 ≡ replicate 2 (Some Length))
    × (turned 117 6 ≡ replicate 6 (Some Dmp))
    × (turned 123 2 ≡ replicate 2 (Some Count)) × (turned 125 2 ≡ replicate 2 None)
    × (turned 637 1 ≡ None ∷ [])
turned_dmp_layer = (refl, refl, refl, refl, refl)

-- renumber, as its clause `bytes` says it: no other byte changes, and the packet is one still
abbrev renumbered_packet : List ℕ
renumbered_packet = slice_set (slice_set look_one_packet 111 5) 112 0x40

renumber : renumbered_packet ≡ take 111 look_one_packet ++ 5 ∷ 0x40 ∷ drop 113 look_one_packet
renumber = refl

renumbered_faultless : fault_of renumbered_packet ≡ None
renumbered_faultless = refl
