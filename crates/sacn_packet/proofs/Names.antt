-- The field of a source name gives the name back.
use Rattle.std.proofs.Common.{◌≡◌, ℕ, ◌+◌, ◌-◌, List, ◌++◌, length, replicate, take, refl, sym, ap}
use Rattle.std.proofs.Common.{arith}
use Rattle.std.proofs.lemmas.List.{places, take_all, take_at, get_or_append_left, length-append}
use Rattle.std.proofs.lemmas.List.{length-replicate}
use Rattle.std.proofs.lemmas.List.Sums.{position_or_len_is}
use Rattle.std.specs.List.{position, position_or_len}
use Rattle.std.specs.Prelude.{Some, None}
use Rattle.std.proofs.lemmas.Bool.Decides.{nat_tests}
use Rattle.std.specs.Bool.{◌==◌}
use Rattle.sacn_packet.specs.Name.{IsSourceName, padded_name, name_in}

-- the name ends at the first zero byte of its field
pub name_in-padded : (name : List ℕ) → IsSourceName name → name_in (padded_name name) ≡ name
name_in-padded name h =
    let zeros : List ℕ = replicate (64 - length name) 0 in
    let size : length (name ++ zeros) ≡ length name + (64 - length name) =
    rw (length-append, length-replicate) in
    let ends : position_or_len (λ byte. byte == 0) (name ++ zeros) ≡ length name =
    position_or_len_is (λ byte. byte == 0) (name ++ zeros) (length name) 0 (omega (arith, size))
    (λ k lt. grind (arith, nat_tests, get_or_append_left name zeros 0 k lt, h.1 k 0 lt))
    (λ lt. grind (arith, nat_tests, places))
    in
    rw ends (take_at name zeros (length name) refl)

-- the name ends at the place of the first zero byte
pub take_place : (field : List ℕ) (end : ℕ) → position (λ byte. byte == 0) field ≡ Some end
    → take end field ≡ name_in field
take_place field end h = ap (λ (n : ℕ). take n field) (grind (arith, h))

-- and is the whole field where there is none
pub take_no_place : (field : List ℕ) → position (λ byte. byte == 0) field ≡ None
    → field ≡ name_in field
take_no_place field h =
    sym (take_all (position_or_len (λ byte. byte == 0) field) field (grind (arith, nat_tests, h)))
