-- The show that statements mean.
use Rattle.std.specs.Prelude.{◌≡◌, List}
use Rattle.show_reader.specs.Terms.{Tables, Statement}
use Rattle.show_reader.specs.Keys.{Key, answer_for}
use Rattle.show_reader.specs.Meaning.{meaning}

-- the show that the statements mean: it answers each key by what they mean
abbrev pub IsShowOf : List Statement → Tables → Type 0
IsShowOf ss show = (k : Key) → answer_for show k ≡ meaning ss k

-- statements mean one show: two shows that they mean are equal
abbrev pub OneShowLaw : Type 0
OneShowLaw = (ss : List Statement) (s t : Tables) → IsShowOf ss s → IsShowOf ss t → s ≡ t
