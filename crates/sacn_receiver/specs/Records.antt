-- The records of a receiver, seen as entries of its history.
-- Of use inside the crate: what its public calls answer is said without these.
use Rattle.std.specs.Prelude.{ℕ, ◌==◌, Bool, not, ◌&&◌, if◌then◌else◌, List, map, filter}
use Rattle.std.specs.Prelude.{slice_index}
use Rattle.sacn_receiver.specs.declared.record.Record.{Record}
use Rattle.sacn_receiver.specs.Source.{Entry, is_there}
use Rattle.sacn_receiver.specs.Shown.{Light, light_of, greatest}

abbrev pub kept_entry : Record → Entry
kept_entry r = record {
  cid = r.cid;
  number = r.number;
  moment = r.moment;
  priority = r.priority;
  slots = r.slots;
  ended = r.ended;
}

abbrev pub entries : List Record → List Entry
entries rs = map kept_entry rs

-- it is live at moment t
abbrev pub is_live_at : ℕ → Entry → Bool
is_live_at t e = is_there t e && not e.ended

-- the lights of those that are live at moment t
abbrev pub lights_at : ℕ → List Record → List Light
lights_at t rs = map light_of (filter (is_live_at t) (entries rs))

-- the greatest priority of those that are live, 0 where none is
abbrev pub top_at : ℕ → List Record → ℕ
top_at t rs = greatest (map (λ l. l.priority) (lights_at t rs))

-- it is live at moment t, and of priority top
abbrev pub leads_at : ℕ → ℕ → Entry → Bool
leads_at t top e = is_live_at t e && (e.priority == top)

-- slot s of a record that leads; 0 of another
abbrev pub lit : ℕ → ℕ → ℕ → Record → ℕ
lit t top s r = if leads_at t top (kept_entry r) then slice_index r.slots s else 0
