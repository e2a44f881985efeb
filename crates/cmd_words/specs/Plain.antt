-- A night as the plain words of `play` ask for it.
use Rattle.std.specs.Prelude.{ℕ, List, [], ◌∷◌, Bool, false, ◌||◌, not, is_some, nat_eq}
use Rattle.std.specs.Prelude.{Option, Some, None, if◌then◌else◌}
use Rattle.std.specs.Option.{option_map_or}
use Rattle.clap.specs.Words.{Text}
use Rattle.targets.specs.declared.target.Target.{Target}
use Rattle.cmd_words.specs.declared.job.Night.{Night}
use Rattle.cmd_words.specs.declared.job.Job.{Job}
use Rattle.cmd_words.specs.declared.job.Job.TheVariants.{Play, PlayNight}

-- the night of `SHOW --to ADDR --cid UUID` at a priority and a base: one target, for all universes,
-- no card, no name and the TTL 1
abbrev pub plain_night : Text → List ℕ × ℕ → List ℕ → ℕ → ℕ → Night
plain_night show to cid priority base = record {
  show = show;
  targets = record { universes = None; address = record { host = to.0; port = to.1 } } ∷ [];
  cid = cid;
  priority = priority;
  base = base;
  interface = None;
  any_route = false;
  name = None;
  ttl = 1;
}

-- whether a night has a card, any route, a name or a TTL of its own
abbrev pub has_own_options : Night → Bool
has_own_options night = is_some night.interface || night.any_route || is_some night.name
    || not (nat_eq night.ttl 1)

-- the address of the one target, where it is for all universes
abbrev pub only_address : List Target → Option (List ℕ × ℕ)
only_address (target ∷ []) = if is_some target.universes then None
    else Some (target.address.host, target.address.port)
only_address _ = None

-- the address of a plain night
abbrev pub plain_address : Night → Option (List ℕ × ℕ)
plain_address night = if has_own_options night then None else only_address night.targets

-- the job of `play` for a night: the plain one by its values, and each other as it is
abbrev pub play_job : Night → Job
play_job night =
    option_map_or (λ to. Play night.show to night.cid night.priority night.base)
    (plain_address night) (PlayNight night)

-- the night that a job of `play` plays
abbrev pub night_of_play : Job → Option Night
night_of_play (Play show to cid priority base) = Some (plain_night show to cid priority base)
night_of_play (PlayNight night) = Some night
night_of_play _ = None
