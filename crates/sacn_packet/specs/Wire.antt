-- The E1.31 data packet as a relation between its bytes, its fields and its slots. Each field of
-- `IsData` is one field of ANSI E1.31-2018, at its offset from the packet's first byte.
use Rattle.std.specs.Prelude.{ℕ, ◌≡◌, ◌≤◌, ◌<◌, ◌+◌, ◌^◌, List, [], ◌∷◌, length, take, drop}
use Rattle.byteorder.specs.Endian.{big_bytes}

-- as many bytes of a packet as `count` says, from an offset on
abbrev pub bytes_at : List ℕ → ℕ → ℕ → List ℕ
bytes_at packet offset count = take count (drop offset packet)

-- the ACN packet identifier: `ASC-E1.17` and three zero bytes
abbrev pub packet_identifier : List ℕ
packet_identifier = 65 ∷ 83 ∷ 67 ∷ 45 ∷ 69 ∷ 49 ∷ 46 ∷ 49 ∷ 55 ∷ 0 ∷ 0 ∷ 0 ∷ []

-- two bytes that open a PDU: 7 as flags in the high four bits, and below them the PDU's length
abbrev pub flags_and_length : ℕ → List ℕ
flags_and_length size = big_bytes 2 (0x7000 + size)

-- what a data packet says besides its slots; `name` is the whole field of 64 bytes
pub record Fields : Type 0 where
  pub cid : List ℕ
  pub name : List ℕ
  pub priority : ℕ
  pub sync : ℕ
  pub sequence : ℕ
  pub options : ℕ
  pub universe : ℕ
  pub start : ℕ

-- the bytes p are a data packet with these fields and slots
pub record IsData (p : List ℕ) (fields : Fields) (slots : List ℕ) : Type 0 where
  pub size : length p ≡ 126 + length slots
  pub at_most_512 : length slots ≤ 512
  -- root layer: preamble size
  pub preamble_size : bytes_at p 0 2 ≡ big_bytes 2 0x0010
  -- root layer: post-amble size
  pub postamble_size : bytes_at p 2 2 ≡ big_bytes 2 0x0000
  -- root layer: ACN packet identifier
  pub identifier : bytes_at p 4 12 ≡ packet_identifier
  -- root layer: flags and length, of what follows offset 16
  pub root_length : bytes_at p 16 2 ≡ flags_and_length (110 + length slots)
  -- root layer: vector, VECTOR_ROOT_E131_DATA
  pub root_vector : bytes_at p 18 4 ≡ big_bytes 4 0x00000004
  -- root layer: CID
  pub cid : bytes_at p 22 16 ≡ fields.cid
  -- framing layer: flags and length, of what follows offset 38
  pub framing_length : bytes_at p 38 2 ≡ flags_and_length (88 + length slots)
  -- framing layer: vector, VECTOR_E131_DATA_PACKET
  pub framing_vector : bytes_at p 40 4 ≡ big_bytes 4 0x00000002
  -- framing layer: source name
  pub name : bytes_at p 44 64 ≡ fields.name
  -- framing layer: priority
  pub priority : bytes_at p 108 1 ≡ fields.priority ∷ []
  pub priority_range : fields.priority ≤ 200
  -- framing layer: synchronization address
  pub sync : bytes_at p 109 2 ≡ big_bytes 2 fields.sync
  pub sync_range : fields.sync < 2 ^ 16
  -- framing layer: sequence number
  pub sequence : bytes_at p 111 1 ≡ fields.sequence ∷ []
  -- framing layer: options
  pub options : bytes_at p 112 1 ≡ fields.options ∷ []
  -- framing layer: universe
  pub universe : bytes_at p 113 2 ≡ big_bytes 2 fields.universe
  pub universe_from_1 : 1 ≤ fields.universe
  pub universe_to_63999 : fields.universe ≤ 63999
  -- DMP layer: flags and length, of what follows offset 115
  pub dmp_length : bytes_at p 115 2 ≡ flags_and_length (11 + length slots)
  -- DMP layer: vector, VECTOR_DMP_SET_PROPERTY
  pub dmp_vector : bytes_at p 117 1 ≡ 0x02 ∷ []
  -- DMP layer: address type and data type
  pub address_type : bytes_at p 118 1 ≡ 0xa1 ∷ []
  -- DMP layer: first property address
  pub first_address : bytes_at p 119 2 ≡ big_bytes 2 0x0000
  -- DMP layer: address increment
  pub increment : bytes_at p 121 2 ≡ big_bytes 2 0x0001
  -- DMP layer: property value count, of the START code and the slots
  pub value_count : bytes_at p 123 2 ≡ big_bytes 2 (1 + length slots)
  -- DMP layer: property values, first of all the START code
  pub start : bytes_at p 125 1 ≡ fields.start ∷ []
  -- DMP layer: property values after the START code
  pub values : bytes_at p 126 (length slots) ≡ slots

-- what a packet carries
pub record WirePacket : Type 0 where
  pub fields : Fields
  pub slots : List ℕ

-- a prefix of the datagram is this packet
abbrev pub HasPacket : List ℕ → WirePacket → Type 0
HasPacket datagram packet = (size : ℕ) × IsData (take size datagram) packet.fields packet.slots
