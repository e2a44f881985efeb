-- The layers, joined, are the one packet of their fields and slots, also where its source sends it
-- again with another number or other slots.
use Rattle.std.proofs.Common.{◌≡◌, ℕ, ◌+◌, ◌<◌, ◌≤◌, ◌^◌, List, [], ◌∷◌, ◌++◌, length, take, drop}
use Rattle.std.proofs.Common.{refl, sym, ◌∙◌, ap, arith}
use Rattle.std.specs.Prelude.{slice_set}
use Rattle.std.proofs.lemmas.List.{append_assoc, append_cancel_right, take-append-drop, drop-drop}
use Rattle.std.proofs.lemmas.List.{take_all, take_at, drop_at, length-append, length-drop}
use Rattle.std.proofs.lemmas.List.{length-take-le, set-append_right}
use Rattle.byteorder.specs.Endian.{big_bytes}
use Rattle.sacn_packet.specs.Wire.{Fields, IsData, bytes_at, flags_and_length}
use Rattle.sacn_packet.specs.Layers.{root_layer, framing_layer, dmp_layer}

-- the framing layer after the source name
abbrev pub framing_tail : Fields → List ℕ
framing_tail fields =
    fields.priority ∷ [] ++ big_bytes 2 fields.sync ++ fields.sequence ∷ fields.options ∷ []
    ++ big_bytes 2 fields.universe

-- a packet's layers, one after the other
abbrev pub packet_of : ℕ → Fields → List ℕ → List ℕ
packet_of count fields slots =
    root_layer count fields.cid
    ++ ((flags_and_length (88 + count) ++ big_bytes 4 2)
    ++ (fields.name ++ (framing_tail fields ++ dmp_layer count fields.start slots)))

-- what stands at an offset is its first bytes and what stands behind them
cut : (p : List ℕ) (offset count : ℕ) (bytes : List ℕ) → bytes_at p offset count ≡ bytes
    → drop offset p ≡ bytes ++ drop (offset + count) p
cut p offset count bytes e =
    sym (take-append-drop count (drop offset p)) ∙ rw (e, drop-drop count offset p)

-- the last bytes, to the end
pub last : (p : List ℕ) (offset : ℕ) (bytes : List ℕ) → length p ≡ offset + length bytes
    → bytes_at p offset (length bytes) ≡ bytes → drop offset p ≡ bytes
last p offset bytes size e =
    sym (take_all (length bytes) (drop offset p) (omega (arith, length-drop offset p))) ∙ e

-- no byte of a packet is left open
pub same_packet : (p : List ℕ) (fields : Fields) (slots : List ℕ) → IsData p fields slots
    → p ≡ packet_of (length slots) fields slots
same_packet p fields slots h =
    rw (
      cut p 0 2 _ h.preamble_size,
      cut p 2 2 _ h.postamble_size,
      cut p 4 12 _ h.identifier,
      cut p 16 2 _ h.root_length,
      cut p 18 4 _ h.root_vector,
      cut p 22 16 _ h.cid,
      cut p 38 2 _ h.framing_length,
      cut p 40 4 _ h.framing_vector,
      cut p 44 64 _ h.name,
      cut p 108 1 _ h.priority,
      cut p 109 2 _ h.sync,
      cut p 111 1 _ h.sequence,
      cut p 112 1 _ h.options,
      cut p 113 2 _ h.universe,
      cut p 115 2 _ h.dmp_length,
      cut p 117 1 _ h.dmp_vector,
      cut p 118 1 _ h.address_type,
      cut p 119 2 _ h.first_address,
      cut p 121 2 _ h.increment,
      cut p 123 2 _ h.value_count,
      cut p 125 1 _ h.start,
      last p 126 slots h.size h.values,
    )
    (sym (simp append_assoc))

-- what stands past a part of n bytes
past : (xs ys : List ℕ) (n k : ℕ) → length xs ≡ n → drop (n + k) (xs ++ ys) ≡ drop k ys
past xs ys n k e = sym (drop-drop k n (xs ++ ys)) ∙ ap (drop k) (drop_at xs ys n e)

-- those bytes have what each row of the packet asks
module _ (count : ℕ) (fields : Fields) (slots : List ℕ) (cid : length fields.cid ≡ 16)
    (name : length fields.name ≡ 64) (size : length slots ≡ count) (most : count ≤ 512)
    (priority : fields.priority ≤ 200) (sync : fields.sync < 2 ^ 16)
    (low : 1 ≤ fields.universe) (high : fields.universe ≤ 63999) where
  abbrev below_name : List ℕ
  below_name = framing_tail fields ++ dmp_layer count fields.start slots

  abbrev below_root : List ℕ
  below_root = (flags_and_length (88 + count) ++ big_bytes 4 2) ++ (fields.name ++ below_name)

  behind_cid : (k : ℕ) → drop (16 + k) (fields.cid ++ below_root) ≡ drop k below_root
  behind_cid k = past fields.cid below_root 16 k cid

  behind_name : (k : ℕ) → drop (64 + k) (fields.name ++ below_name) ≡ drop k below_name
  behind_name k = past fields.name below_name 64 k name

  pub packet_is_data : IsData (packet_of count fields slots) fields slots
  packet_is_data = record {
    size = omega (
      arith,
      length-append fields.cid below_root,
      length-append fields.name below_name,
    );
    at_most_512 = omega arith;
    preamble_size = refl;
    postamble_size = refl;
    identifier = refl;
    root_length = rw size;
    root_vector = refl;
    cid = take_at fields.cid below_root 16 cid;
    framing_length = rw size (ap (take 2) (behind_cid 0));
    framing_vector = ap (take 4) (behind_cid 2);
    name = ap (take 64) (behind_cid 6) ∙ take_at fields.name below_name 64 name;
    priority = ap (take 1) (behind_cid 70 ∙ behind_name 0);
    priority_range = priority;
    sync = ap (take 2) (behind_cid 71 ∙ behind_name 1);
    sync_range = sync;
    sequence = ap (take 1) (behind_cid 73 ∙ behind_name 3);
    options = ap (take 1) (behind_cid 74 ∙ behind_name 4);
    universe = ap (take 2) (behind_cid 75 ∙ behind_name 5);
    universe_from_1 = low;
    universe_to_63999 = high;
    dmp_length = rw size (ap (take 2) (behind_cid 77 ∙ behind_name 7));
    dmp_vector = ap (take 1) (behind_cid 79 ∙ behind_name 9);
    address_type = ap (take 1) (behind_cid 80 ∙ behind_name 10);
    first_address = ap (take 2) (behind_cid 81 ∙ behind_name 11);
    increment = ap (take 2) (behind_cid 83 ∙ behind_name 13);
    value_count = rw size (ap (take 2) (behind_cid 85 ∙ behind_name 15));
    start = ap (take 1) (behind_cid 87 ∙ behind_name 17);
    values = ap (take (length slots)) (behind_cid 88 ∙ behind_name 18)
        ∙ take_all (length slots) slots (omega arith);
  }

  -- so have the layers as they are written one after the other
  pub layers_are_data : IsData (root_layer count fields.cid
      ++ (framing_layer count fields ++ dmp_layer count fields.start slots)) fields slots
  layers_are_data =
      rw (append_assoc fields.name (framing_tail fields) (dmp_layer count fields.start slots))
      packet_is_data

-- a part of a packet is as long as it says
part_size : (p part : List ℕ) (offset count : ℕ) → offset + count ≤ length p
    → take count (drop offset p) ≡ part → length part ≡ count
part_size p part offset count within e =
    omega (arith, ap length e, length-take-le count (drop offset p), length-drop offset p)

module _ (p : List ℕ) (fields : Fields) (old : List ℕ) (h : IsData p fields old) where
  cid : length fields.cid ≡ 16
  cid = part_size p fields.cid 22 16 (omega arith) h.cid

  name : length fields.name ≡ 64
  name = part_size p fields.name 44 64 (omega arith) h.name

  -- the layers of a packet with another sequence number, other options and as many other slots
  changed : (sequence options : ℕ) (slots : List ℕ) → length slots ≡ length old
      → IsData (packet_of (length old) (record fields { sequence = sequence; options = options })
      slots) (record fields { sequence = sequence; options = options }) slots
  changed sequence options slots same =
      packet_is_data (length old) _ slots cid name same h.at_most_512 h.priority_range
      h.sync_range h.universe_from_1 h.universe_to_63999

  pub renumbered : (sequence options : ℕ)
      → IsData (slice_set (slice_set p 111 sequence) 112 options)
      (record fields { sequence = sequence; options = options }) old
  renumbered sequence options =
      rw (
        same_packet p fields old h,
        set-append_right fields.cid _ 16 89 sequence cid (omega arith),
        set-append_right fields.cid _ 16 90 options cid (omega arith),
        set-append_right fields.name _ 64 67 sequence name (omega arith),
        set-append_right fields.name _ 64 68 options name (omega arith),
      ) (changed sequence options old refl)

  pub refilled : (slots : List ℕ) → length slots ≡ length old
      → IsData (take 126 p ++ slots) fields slots
  refilled slots same =
      let split : (xs : List ℕ) → packet_of (length old) fields [] ++ xs
      ≡ packet_of (length old) fields xs =
      λ xs. rw (append_assoc fields.cid, append_assoc fields.name) in
      let front : take 126 p ≡ packet_of (length old) fields [] =
      append_cancel_right (take 126 p) (packet_of (length old) fields []) old
      (ap (λ (xs : List ℕ). take 126 p ++ xs) (sym (last p 126 old h.size h.values))
      ∙ take-append-drop 126 p ∙ same_packet p fields old h ∙ sym (split old)) in
      rw (front, split slots) (changed fields.sequence fields.options slots same)
