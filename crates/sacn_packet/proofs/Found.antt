-- A datagram holds a packet exactly where it can be read, and then only one.
use Rattle.std.proofs.Common.{◌≡◌, ℕ, ◌+◌, ◌≤◌, ◌<◌, min, List, ◌++◌, length, take, drop}
use Rattle.std.proofs.Common.{slice_index, refl, sym, ◌∙◌, ap, arith}
use Rattle.std.proofs.lemmas.List.{take_all, take_at, length-take, length-take-le, length-drop}
use Rattle.std.proofs.lemmas.List.{get_or-take}
use Rattle.byteorder.specs.Endian.{big_bytes, big_number}
use Rattle.byteorder.specs.Numbers.{big_from-lt}
use Rattle.sacn_packet.specs.Wire.{bytes_at, Fields, IsData, WirePacket, HasPacket}
use Rattle.sacn_packet.specs.Reading.{number_at, length_at, packet_in, front_packet}
use Rattle.sacn_packet.proofs.Parts.{AreBytes, part, prefix, trimmed, join_rows, take_bytes}
use Rattle.sacn_packet.proofs.Parts.{one_byte, two_at, byte_is, part_bytes, number_is}
use Rattle.sacn_packet.proofs.Packets.{last}
use Rattle.sacn_packet.proofs.Readable.{IsReadable}

-- what can be read is a packet, as long as its root PDU says
pub packet_from_readable : (d : List ℕ) → AreBytes d → IsReadable d
    → IsData (take (16 + length_at d 16) d) (packet_in (take (16 + length_at d 16) d)).fields
    (packet_in (take (16 + length_at d 16) d)).slots
packet_from_readable d h r =
    let end : ℕ = 16 + length_at d 16 in
    let p : List ℕ = take end d in
    let least : 126 ≤ end = omega arith in
    let size : length p ≡ end = length-take-le end d r.root_fits in
    let slots : length (drop 126 p) + 126 ≡ end = omega (arith, length-drop 126 p) in
    let bytes : AreBytes p = take_bytes d end h in
    let known : (offset count : ℕ) → offset + count ≤ 126
    → bytes_at p offset count ≡ bytes_at d offset count =
    λ offset count within. prefix d end offset count (omega arith)
    in
    let two : (offset n : ℕ) → offset + 2 ≤ 126 → number_at d offset ≡ n
    → bytes_at p offset 2 ≡ big_bytes 2 n =
    λ offset n within e.
    known offset 2 within ∙ two_at d offset (omega (arith, r.long)) h ∙ ap (big_bytes 2) e
    in
    let same_universe : number_at p 113 ≡ number_at d 113 =
    ap (big_number 2) (known 113 2 (omega arith)) in
    record {
      size = omega arith;
      at_most_512 = omega arith;
      preamble_size = part p 0 4 0 2 (omega arith) (known 0 4 (omega arith) ∙ r.preamble);
      postamble_size = part p 0 4 2 2 (omega arith) (known 0 4 (omega arith) ∙ r.preamble);
      identifier = known 4 12 (omega arith) ∙ r.identifier;
      root_length = two 16 _ (omega arith) (omega arith);
      root_vector = known 18 4 (omega arith) ∙ r.root_vector;
      cid = refl;
      framing_length = two 38 _ (omega arith) (omega arith);
      framing_vector = known 40 4 (omega arith) ∙ r.framing_vector;
      name = refl;
      priority = one_byte p 108 (omega arith);
      priority_range = omega (arith, r.priority, get_or-take end d 108 0 (omega arith));
      sync = two_at p 109 (omega arith) bytes;
      sync_range = big_from-lt 0 2 (bytes_at p 109 2) (part_bytes p 109 2 bytes);
      sequence = one_byte p 111 (omega arith);
      options = one_byte p 112 (omega arith);
      universe = two_at p 113 (omega arith) bytes;
      universe_from_1 = rw same_universe r.universe_from_1;
      universe_to_63999 = rw same_universe r.universe_to_63999;
      dmp_length = two 115 _ (omega arith) (omega arith);
      dmp_vector = part p 117 6 0 1 (omega arith) (known 117 6 (omega arith) ∙ r.dmp);
      address_type = part p 117 6 1 1 (omega arith) (known 117 6 (omega arith) ∙ r.dmp);
      first_address = part p 117 6 2 2 (omega arith) (known 117 6 (omega arith) ∙ r.dmp);
      increment = part p 117 6 4 2 (omega arith) (known 117 6 (omega arith) ∙ r.dmp);
      value_count = two 123 _ (omega arith) (omega arith);
      start = one_byte p 125 (omega arith);
      values = take_all (length (drop 126 p)) (drop 126 p) (omega arith);
    }

-- a packet can be read
pub readable_from_packet : (d : List ℕ) (n : ℕ) (fields : Fields) (slots : List ℕ)
    → IsData (take n d) fields slots → IsReadable d
readable_from_packet d n fields slots h =
    let p : List ℕ = take n d in
    let size : min n (length d) ≡ 126 + length slots = sym (length-take n d) ∙ h.size in
    let known : (offset count : ℕ) → offset + count ≤ 126
    → bytes_at d offset count ≡ bytes_at p offset count =
    λ offset count within. sym (prefix d n offset count (omega arith))
    in
    let number : (offset x : ℕ) → offset + 2 ≤ 126 → x < 65536 → bytes_at p offset 2 ≡ big_bytes 2 x
    → number_at d offset ≡ x =
    λ offset x within small e. number_is d offset x small (known offset 2 within ∙ e)
    in
    let root = number 16 _ (omega arith) (omega arith) h.root_length in
    let framing = number 38 _ (omega arith) (omega arith) h.framing_length in
    let dmp = number 115 _ (omega arith) (omega arith) h.dmp_length in
    let universe = number 113 _ (omega arith) (omega arith) h.universe in
    let count = number 123 _ (omega arith) (omega arith) h.value_count in
    let priority : slice_index d 108 ≡ fields.priority =
    byte_is d 108 fields.priority (omega arith) (known 108 1 (omega arith) ∙ h.priority)
    in
    record {
      long = omega arith;
      preamble = known 0 4 (omega arith) ∙ join_rows p 0 2 2 h.preamble_size h.postamble_size;
      identifier = known 4 12 (omega arith) ∙ h.identifier;
      root_vector = known 18 4 (omega arith) ∙ h.root_vector;
      root_flags = omega arith;
      framing_flags = omega arith;
      dmp_flags = omega arith;
      root_least = omega arith;
      root_fits = omega arith;
      framing_length = omega arith;
      dmp_length = omega arith;
      framing_vector = known 40 4 (omega arith) ∙ h.framing_vector;
      priority = omega arith;
      universe_from_1 = omega arith;
      universe_to_63999 = omega arith;
      dmp =
          known 117 6 (omega arith)
          ∙ join_rows p 117 1 5 h.dmp_vector
          (join_rows p 118 1 4 h.address_type (join_rows p 119 2 2 h.first_address h.increment));
      count_least = omega arith;
      count_most = omega arith;
      count_sum = omega arith;
    }

-- the bytes of a packet say what it carries
pub packet_same : (p : List ℕ) (packet : WirePacket) → IsData p packet.fields packet.slots
    → packet_in p ≡ packet
packet_same p packet h = λ i. record {
  fields = record {
    cid = h.cid i;
    name = h.name i;
    priority = byte_is p 108 _ (omega (arith, h.size)) h.priority i;
    sync = number_is p 109 _ h.sync_range h.sync i;
    sequence = byte_is p 111 _ (omega (arith, h.size)) h.sequence i;
    options = byte_is p 112 _ (omega (arith, h.size)) h.options i;
    universe = number_is p 113 _ (omega (arith, h.universe_to_63999)) h.universe i;
    start = byte_is p 125 _ (omega (arith, h.size)) h.start i;
  };
  slots = last p 126 packet.slots h.size h.values i;
}

-- a prefix that is a packet ends where its root length says
pub packet_end : (d : List ℕ) (n : ℕ) (packet : WirePacket)
    → IsData (take n d) packet.fields packet.slots → take n d ≡ take (16 + length_at d 16) d
packet_end d n packet h =
    let root = number_is d 16 (0x7000 + (110 + length packet.slots)) (omega arith)
    (sym (prefix d n 16 2 (omega (arith, length-take n d))) ∙ h.root_length) in
    trimmed d n (16 + length_at d 16) (omega arith)

-- and a packet at the front
pub packet_ends : (d : List ℕ) (packet : WirePacket) → HasPacket d packet → front_packet d ≡ packet
packet_ends d packet h =
    ap packet_in (sym (packet_end d h.0 packet h.1)) ∙ packet_same (take h.0 d) packet h.1

-- a datagram holds one packet
pub same_packets : (d : List ℕ) (one other : WirePacket) → HasPacket d one → HasPacket d other
    → one ≡ other
same_packets d one other h k = sym (packet_ends d one h) ∙ packet_ends d other k

-- bytes behind a packet leave it as it is
pub packet_front : (p behind : List ℕ) (packet : WirePacket) → IsData p packet.fields packet.slots
    → HasPacket (p ++ behind) packet
packet_front p behind packet h = (length p, rw (take_at p behind (length p) refl) h)
