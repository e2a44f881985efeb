-- What calls gave.
use Rattle.cmd_listen.proofs.Terms.{◌≡◌, ◌∙◌, ap, sym, refl, ℕ, List, ◌++◌, option_map_or, None, Ok}
use Rattle.cmd_listen.proofs.Terms.{Err, OnErr, OnOk, IfOk, IsOk, is_ok, if◌then◌else◌, fault_of}
use Rattle.cmd_listen.proofs.Terms.{front_packet, WirePacket, universe_in}
use Rattle.std.specs.Prelude.{Result}

pub is_ok_of : {X E P : Type 0} (r : Result X E) → (P → ⊥) → OnErr r P → IsOk r
is_ok_of (Ok x) never fails = refl
is_ok_of (Err e) never fails = absurd (never fails)

pub if_ok_at : {X E : Type 0} (r : Result X E) (x : X) (P : X → Type 0) → r ≡ Ok x → IfOk r P → P x
if_ok_at r x P is holds = rw is at holds

-- the universe of a packet that was read
pub universe_of : (datagram : List ℕ) (p : WirePacket) (n : ℕ) → fault_of datagram ≡ None
    → front_packet datagram ≡ p → n ≡ p.fields.universe → n ≡ universe_in datagram
universe_of datagram p n none same is =
    is ∙ ap (λ (q : WirePacket). q.fields.universe) (sym same)
    ∙ ap (λ o. option_map_or (λ _. 0) o (front_packet datagram).fields.universe) (sym none)

-- a text that grew, where the growth was not refused
pub grown : {X E : Type 0} (r : Result X E) (all text more : List ℕ)
    → all ≡ (if is_ok r then text ++ more else text) → OnOk r (all ≡ text ++ more)
grown (Ok x) all text more is = is
grown (Err e) all text more is = tt
