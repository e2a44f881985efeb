-- The history of datagrams that came at moment 0.
use Rattle.cmd_listen.proofs.Terms.{arith, ℕ, ◌≡◌, List, [], ◌∷◌, refl, option_map_or, front_packet}
use Rattle.cmd_listen.proofs.Terms.{Ignored, Entry, last_moment, accepted_entry, ignore_reason}
use Rattle.cmd_listen.proofs.Terms.{history_at_0}
use Rattle.std.proofs.Common.{Option}

moment_after : (reason : Option Ignored) (entry : Entry) (h : List Entry) → entry.moment ≡ 0
    → last_moment h ≡ 0
    → last_moment (option_map_or (λ _. h) reason (entry ∷ h)) ≡ 0
moment_after reason entry h now was = grind (arith, now, was)

-- all of them came at moment 0
pub last_moment-history : (universe : ℕ) (datagrams : List (List ℕ))
    → last_moment (history_at_0 universe datagrams) ≡ 0
last_moment-history universe [] = refl
last_moment-history universe (datagram ∷ older) =
    moment_after (ignore_reason 4 universe (history_at_0 universe older) 0 datagram)
    (accepted_entry 0 (front_packet datagram))
    (history_at_0 universe older) refl (last_moment-history universe older)
