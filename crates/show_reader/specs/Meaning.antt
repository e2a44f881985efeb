-- What statements mean: at each key what the newest of them says that speaks of it. Statements have
-- the newest first.
use Rattle.std.specs.Prelude.{ℕ, ◌+◌, Bool, true, false, ◌==◌, ◌&&◌, if◌then◌else◌, List, [], ◌∷◌}
use Rattle.std.specs.Prelude.{Option, Some, None, is_some}
use Rattle.show_reader.specs.Terms.{Record, Cue, Group, Sub, Table, Cues, Groups, Subs, Patch}
use Rattle.show_reader.specs.Terms.{Cleared, All, Only, Statement, Opens, Levels, SetsTime, Patches}
use Rattle.show_reader.specs.Terms.{Clears, Skipped, Triple, time_named}
use Rattle.show_reader.specs.Keys.{Key, There, Level, Time, Dimmer, KeyAnswer, table_at}

-- ---- what is said of a key

-- a value, that it is gone, or nothing
pub data News (X : Type 0) : Type 0 where
  Is : X → News X
  Gone : News X
  Silent : News X

-- a value, where there is one
abbrev pub news_of : {X : Type 0} → Option X → News X
news_of (Some x) = Is x
news_of None = Silent

-- what holds after the news, where this held before
abbrev pub after : {X : Type 0} → News X → Option X → Option X
after (Is x) before = Some x
after Gone before = None
after Silent before = before

-- newer news, or else older
abbrev pub newer : {X : Type 0} → News X → News X → News X
newer (Is x) older = Is x
newer Gone older = Gone
newer Silent older = older

-- the news of the last in a list that has any
abbrev pub last_news : {X Y : Type 0} → (X → News Y) → List X → News Y
last_news news [] = Silent
last_news news (x ∷ xs) = newer (last_news news xs) (news x)

-- ---- what a statement says of a key

-- two records are one
abbrev pub same_record : Record → Record → Bool
same_record (Cue m) (Cue n) = m == n
same_record (Group m) (Group n) = m == n
same_record (Sub m) (Sub n) = m == n
same_record _ _ = false

-- two tables are one
abbrev pub same_table : Table → Table → Bool
same_table Cues Cues = true
same_table Groups Groups = true
same_table Subs Subs = true
same_table Patch Patch = true
same_table _ _ = false

-- CLEAR empties a table
abbrev pub empties : Cleared → Table → Bool
empties All table = true
empties (Only cleared) table = same_table table cleared

-- a pair of a CHAN line of record r: the level of a channel of that record
abbrev pub pair_says : Record → ℕ × ℕ → (k : Key) → News (KeyAnswer k)
pair_says r pair (Level q channel) =
    if same_record q r && (channel == pair.0) then Is pair.1 else Silent
pair_says r pair _ = Silent

-- a triple of a PATCH line: the channel and the level of a dimmer; channel 0 leaves it unpatched
abbrev pub triple_says : Triple → (k : Key) → News (KeyAnswer k)
triple_says t (Dimmer dimmer) =
    if dimmer == t.dimmer
    then (if t.channel == 0 then Gone else Is (t.channel, t.level))
    else Silent
triple_says t _ = Silent

-- what a statement says of a key:
--   CUE, GROUP and SUB: their record is there;
--   CHAN: the last pair of a channel wins, a 0 too;
--   UP, DOWN and FOLLOWON: the whole time of its name of their cue;
--   PATCH: a dimmer has the channel of its last triple;
--   CLEAR: what the file has said so far of its tables is gone
abbrev pub says : Statement → (k : Key) → News (KeyAnswer k)
says (Opens r) (There q) = if same_record q r then Is tt else Silent
says (Levels r pairs) k = last_news (λ pair. pair_says r pair k) pairs
says (SetsTime n time) (Time m name) = if m == n then news_of (time_named time name) else Silent
says (Patches triples) k = last_news (λ triple. triple_says triple k) triples
says (Clears what) k = if empties what (table_at k) then Gone else Silent
says _ _ = Silent

-- ---- what statements mean

-- what they mean at a key: what the newest of them says that speaks of it; nothing where none does
abbrev pub meaning : List Statement → (k : Key) → Option (KeyAnswer k)
meaning [] k = None
meaning (newest ∷ older) k = after (says newest k) (meaning older k)

-- a record is there
abbrev pub is_record_there : Record → List Statement → Bool
is_record_there r ss = is_some (meaning ss (There r))

-- how many cues are there: a statement adds one that opens a cue which is not there, and none are
-- left where it empties the table of cues
abbrev pub cue_count : List Statement → ℕ
cue_count [] = 0
cue_count (Opens (Cue n) ∷ older) =
    cue_count older + (if is_record_there (Cue n) older then 0 else 1)
cue_count (Clears what ∷ older) = if empties what Cues then 0 else cue_count older
cue_count (_ ∷ older) = cue_count older

-- it counts as skipped
abbrev pub is_skipped : Statement → Bool
is_skipped Skipped = true
is_skipped _ = false
