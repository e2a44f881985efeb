-- What the ten faults rule out, fault by fault.
use Rattle.std.proofs.Common.{◌≡◌, ℕ, ◌+◌, ◌≤◌, Bool, false, not, List, [], ◌∷◌, length}
use Rattle.std.proofs.Common.{slice_index, ap, arith}
use Rattle.std.specs.Prelude.{find, None}
use Rattle.std.proofs.lemmas.Bool.{not-false}
use Rattle.std.proofs.lemmas.Bool.Decides.{nat_tests}
use Rattle.std.proofs.lemmas.Slice.Eq.{bytes_eq-Decides}
use Rattle.byteorder.specs.Endian.{big_bytes}
use Rattle.sacn_packet.specs.declared.unreadable.Unreadable.{Unreadable}
use Rattle.sacn_packet.specs.declared.unreadable.Unreadable.TheVariants.{Short, Preamble}
use Rattle.sacn_packet.specs.declared.unreadable.Unreadable.TheVariants.{Identifier, RootVector}
use Rattle.sacn_packet.specs.declared.unreadable.Unreadable.TheVariants.{Length, FramingVector}
use Rattle.sacn_packet.specs.declared.unreadable.Unreadable.TheVariants.{Priority, Universe, Dmp}
use Rattle.sacn_packet.specs.declared.unreadable.Unreadable.TheVariants.{Count}
use Rattle.sacn_packet.specs.Wire.{bytes_at, packet_identifier}
use Rattle.sacn_packet.specs.Reading.{number_at, flags_at, length_at}
use Rattle.sacn_packet.specs.Faults.{all_faults, differs_at, applies, fault_of}

-- what stands in a datagram to which no fault applies
pub record IsReadable (d : List ℕ) : Type 0 where
  pub long : 126 ≤ length d
  pub preamble : bytes_at d 0 4 ≡ big_bytes 4 0x00100000
  pub identifier : bytes_at d 4 12 ≡ packet_identifier
  pub root_vector : bytes_at d 18 4 ≡ big_bytes 4 4
  pub root_flags : flags_at d 16 ≡ 7
  pub framing_flags : flags_at d 38 ≡ 7
  pub dmp_flags : flags_at d 115 ≡ 7
  pub root_least : 110 ≤ length_at d 16
  pub root_fits : 16 + length_at d 16 ≤ length d
  pub framing_length : length_at d 38 + 22 ≡ length_at d 16
  pub dmp_length : length_at d 115 + 99 ≡ length_at d 16
  pub framing_vector : bytes_at d 40 4 ≡ big_bytes 4 2
  pub priority : slice_index d 108 ≤ 200
  pub universe_from_1 : 1 ≤ number_at d 113
  pub universe_to_63999 : number_at d 113 ≤ 63999
  pub dmp : bytes_at d 117 6 ≡ 0x02 ∷ 0xa1 ∷ 0 ∷ 0 ∷ 0 ∷ 1 ∷ []
  pub count_least : 1 ≤ number_at d 123
  pub count_most : number_at d 123 ≤ 513
  pub count_sum : number_at d 123 + 10 ≡ length_at d 115

-- the test on bytes, both ways
module _ (d : List ℕ) (offset : ℕ) (bytes : List ℕ) where
  pub same_at : differs_at d offset bytes ≡ false → bytes_at d offset (length bytes) ≡ bytes
  same_at h = (bytes_eq-Decides (bytes_at d offset (length bytes)) bytes).0 (not-false _ h)

  at_same : bytes_at d offset (length bytes) ≡ bytes → differs_at d offset bytes ≡ false
  at_same h = ap not ((bytes_eq-Decides (bytes_at d offset (length bytes)) bytes).1 h)

-- where no fault is found, each fails
each_fails : (test : Unreadable → Bool) → find test all_faults ≡ None → (fault : Unreadable)
    → test fault ≡ false
each_fails test none fault = grind arith

-- a datagram without a fault can be read
pub readable_from_none : (d : List ℕ) → fault_of d ≡ None → IsReadable d
readable_from_none d none =
    let fails = each_fails (applies d) none in
    record {
      long = grind (arith, nat_tests, fails Short);
      preamble = same_at d 0 (big_bytes 4 0x00100000) (fails Preamble);
      identifier = same_at d 4 packet_identifier (fails Identifier);
      root_vector = same_at d 18 (big_bytes 4 4) (fails RootVector);
      root_flags = grind (arith, nat_tests, fails Length);
      framing_flags = grind (arith, nat_tests, fails Length);
      dmp_flags = grind (arith, nat_tests, fails Length);
      root_least = grind (arith, nat_tests, fails Length);
      root_fits = grind (arith, nat_tests, fails Length);
      framing_length = grind (arith, nat_tests, fails Length);
      dmp_length = grind (arith, nat_tests, fails Length);
      framing_vector = same_at d 40 (big_bytes 4 2) (fails FramingVector);
      priority = grind (arith, nat_tests, fails Priority);
      universe_from_1 = grind (arith, nat_tests, fails Universe);
      universe_to_63999 = grind (arith, nat_tests, fails Universe);
      dmp = same_at d 117 (0x02 ∷ 0xa1 ∷ 0 ∷ 0 ∷ 0 ∷ 1 ∷ []) (fails Dmp);
      count_least = grind (arith, nat_tests, fails Count);
      count_most = grind (arith, nat_tests, fails Count);
      count_sum = grind (arith, nat_tests, fails Count);
    }

-- no fault applies to a datagram that can be read
no_fault : (d : List ℕ) → IsReadable d → (fault : Unreadable) → applies d fault ≡ false
no_fault d r Short = grind (arith, nat_tests)
no_fault d r Preamble = at_same d 0 (big_bytes 4 0x00100000) r.preamble
no_fault d r Identifier = at_same d 4 packet_identifier r.identifier
no_fault d r RootVector = at_same d 18 (big_bytes 4 4) r.root_vector
no_fault d r Length = grind (arith, nat_tests)
no_fault d r FramingVector = at_same d 40 (big_bytes 4 2) r.framing_vector
no_fault d r Priority = grind (arith, nat_tests)
no_fault d r Universe = grind (arith, nat_tests)
no_fault d r Dmp = at_same d 117 (0x02 ∷ 0xa1 ∷ 0 ∷ 0 ∷ 0 ∷ 1 ∷ []) r.dmp
no_fault d r Count = grind (arith, nat_tests)

pub none_from_readable : (d : List ℕ) → IsReadable d → fault_of d ≡ None
none_from_readable d r = grind (arith, no_fault d r)
