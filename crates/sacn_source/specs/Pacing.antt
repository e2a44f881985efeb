-- What a universe's pace keeps, against its offers and terminations.
use Rattle.std.specs.Prelude.{◌≡◌, ℕ, ◌+◌, ◌-◌, ◌^◌, ◌≤◌, Bool, List, length}
use Rattle.std.specs.Prelude.{nat_lt, nat_le, ◌==◌, ◌||◌, if◌then◌else◌}
use Rattle.sacn_source.specs.Kept.{Pace}
use Rattle.sacn_source.specs.Stream.{Offer, changed_within, earliest_after, last_sent, packets}

-- the pace of these offers, the newest first, and then n terminations
pub record Paces (pace : Pace) (offers : List Offer) (n : ℕ) : Type 0 where
  pub sent_is : pace.sent ≡ length (packets offers n)
  pub last_is : pace.last_sent ≡ last_sent offers
  pub earliest_is : pace.earliest ≡ earliest_after offers
  pub ended_is : pace.ended ≡ n
  -- three repeats are left where the newest offer is a change, two where the one before it is
  pub repeats_are : (m : ℕ) → m ≤ 3 → changed_within m offers ≡ nat_lt (3 - m) pace.repeats

-- what holds of every pace: at most one packet for each moment so far and each termination
pub record IsPace (pace : Pace) : Type 0 where
  pub few : pace.repeats ≤ 3
  pub paced : pace.sent ≤ pace.earliest + pace.ended
  pub in_time : pace.earliest ≤ 2 ^ 48
  pub three : pace.ended ≤ 3
  pub before : pace.last_sent ≤ pace.earliest

-- whether an offer is a change: other slots than those kept, or the first
abbrev pub pace_changes : Pace → Bool → Bool
pace_changes pace differs = differs || pace.earliest == 0

-- whether an offer sends, by what the pace keeps
abbrev pub is_due : Pace → Bool → ℕ → Bool
is_due pace changed moment = (changed || nat_lt 0 pace.repeats) || nat_le (pace.last_sent + 800)
    moment

-- the pace after an offer
abbrev pub pace_after : Pace → Bool → ℕ → Pace
pace_after pace changed moment = record {
  sent = (if is_due pace changed moment then pace.sent + 1 else pace.sent);
  repeats = (if changed then 3 else pace.repeats - 1);
  last_sent = (if is_due pace changed moment then moment else pace.last_sent);
  earliest = moment + 1;
  ended = pace.ended;
}

-- the pace after a termination
abbrev pub pace_ended : Pace → Pace
pace_ended pace = record pace { sent = pace.sent + 1; ended = pace.ended + 1 }
