-- What is told of an output that holds nobody up.
use Rattle.std.specs.Prelude.{◌≡◌, ℕ, Bool, true, false, ◌&&◌, not, nat_eq, List, [], ◌∷◌}
use Rattle.std.specs.Prelude.{All, codes, Option, Some, None, if◌then◌else◌, is_some, ⊤}
use Rattle.line_queue.specs.Stands.{failure_in, gaps_in, is_late}
use Rattle.line_queue.specs.declared.queue.LineQueue.{LineQueue}
use Rattle.line_queue.specs.declared.watch.OutputLook.{OutputLook}
use Rattle.line_queue.specs.declared.watch.OutputNotice.{OutputNotice}
use Rattle.line_queue.specs.declared.watch.OutputNotice.TheVariants.{Failed, Late, Missing, Whole}
use Rattle.line_queue.specs.declared.watch.OutputWatch.{OutputWatch}

-- how a queue's output is
abbrev pub look_at : {P : Type 0} → LineQueue P → OutputLook
look_at queue = record {
  has_failed = is_some (failure_in queue);
  is_late = is_late queue;
  gaps = gaps_in queue;
}

-- of an output that was late and is no more: whether there are more gaps than were told
abbrev pub news_of_catching_up : ℕ → ℕ → OutputNotice
news_of_catching_up told gaps = if nat_eq gaps told then Whole else Missing

-- of one that is late or not: what changed
abbrev pub news_of_delay : Bool → Bool → OutputNotice → Option OutputNotice
news_of_delay false true caught_up = Some Late
news_of_delay true false caught_up = Some caught_up
news_of_delay was is caught_up = None

-- what is told after a look
abbrev pub news_of_output : OutputWatch → OutputLook → Option OutputNotice
news_of_output told look =
    if told.has_failed then None
    else if look.has_failed then Some Failed
    else news_of_delay told.is_late look.is_late (news_of_catching_up told.gaps look.gaps)

-- what was told then: gaps are told when the output is late no more
abbrev pub told_after : OutputWatch → OutputLook → OutputWatch
told_after told look =
    if told.has_failed then told
    else if look.has_failed then record told { has_failed = true }
    else record told {
      is_late = look.is_late;
      gaps = if told.is_late && not look.is_late then look.gaps else told.gaps;
    }

-- what is told of a record
abbrev pub record_notice : OutputNotice → List ℕ
record_notice Failed = codes "record: device fault\n"
record_notice Late = codes "record: late, and the light goes on\n"
record_notice Whole = codes "record: whole again\n"
record_notice Missing =
    codes "record: goes on, and a comment in it says how many lines are missing\n"

-- a notice more, where there is one
abbrev pub before_notices : Option OutputNotice → List OutputNotice → List OutputNotice
before_notices None notices = notices
before_notices (Some notice) notices = notice ∷ notices

-- the notices of these looks, the first first
abbrev pub notices_of : OutputWatch → List OutputLook → List OutputNotice
notices_of told [] = []
notices_of told (look ∷ looks) =
    before_notices (news_of_output told look) (notices_of (told_after told look) looks)

-- in turn: late, and then whole again or with lines missing; a failure ends them
abbrev pub AreInTurn : Bool → List OutputNotice → Type 0
AreInTurn is_late [] = ⊤
AreInTurn is_late (Failed ∷ notices) = notices ≡ []
AreInTurn false (Late ∷ notices) = AreInTurn true notices
AreInTurn true (Whole ∷ notices) = AreInTurn false notices
AreInTurn true (Missing ∷ notices) = AreInTurn false notices
AreInTurn is_late notices = ⊥

abbrev pub is_missing : OutputNotice → Bool
is_missing Missing = true
is_missing _ = false

-- AN OUTPUT OVER A NIGHT, of which nothing bad was told before. Its notices come in turn; and lines
-- are said to be missing at no look unless the output has more gaps than were told
pub record NoticesLaw : Type 0 where
  pub turns : (told : OutputWatch) (looks : List OutputLook) → told.has_failed ≡ false
      → AreInTurn told.is_late (notices_of told looks)
  pub sound : (told : OutputWatch) (looks : List OutputLook)
      → All (λ look. look.gaps ≡ told.gaps) looks
      → All (λ notice. is_missing notice ≡ false) (notices_of told looks)
