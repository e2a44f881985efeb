-- The bytes of a packet, layer by layer, as the code writes them.
use Rattle.std.specs.Prelude.{ℕ, ◌+◌, List, [], ◌∷◌, ◌++◌}
use Rattle.byteorder.specs.Endian.{big_bytes}
use Rattle.sacn_packet.specs.Wire.{Fields, packet_identifier, flags_and_length}

-- the root layer of a packet of `count` slots, up to the CID
abbrev pub root_layer : ℕ → List ℕ → List ℕ
root_layer count cid =
    (big_bytes 2 0x0010 ++ big_bytes 2 0 ++ packet_identifier ++ flags_and_length (110 + count)
    ++ big_bytes 4 4) ++ cid

-- the framing layer, up to the universe
abbrev pub framing_layer : ℕ → Fields → List ℕ
framing_layer count fields =
    (flags_and_length (88 + count) ++ big_bytes 4 2)
    ++ (fields.name
    ++ (fields.priority ∷ [] ++ big_bytes 2 fields.sync ++ fields.sequence ∷ fields.options ∷ []
    ++ big_bytes 2 fields.universe))

-- the DMP layer, with the START code and the slots
abbrev pub dmp_layer : ℕ → ℕ → List ℕ → List ℕ
dmp_layer count start slots =
    (flags_and_length (11 + count) ++ 0x02 ∷ 0xa1 ∷ [] ++ big_bytes 2 0 ++ big_bytes 2 1
    ++ big_bytes 2 (1 + count) ++ start ∷ []) ++ slots
