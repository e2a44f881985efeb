-- What is told over a night: over all looks, the first first.
use Rattle.std.specs.Prelude.{◌≡◌, ◌≢◌, List, [], ◌∷◌, false, All, fold}
use Rattle.std.specs.Prelude.{Option, Some, None}
use Rattle.link_notices.specs.declared.notice.PathNotice.{PathNotice}
use Rattle.link_notices.specs.declared.notice.SourceNotice.{SourceNotice}
use Rattle.link_notices.specs.declared.path.Trouble.{Trouble}
use Rattle.link_notices.specs.declared.source.SourceState.{SourceState}
use Rattle.link_notices.specs.declared.watch.PathLook.{PathLook}
use Rattle.link_notices.specs.Told.{news_of_path, news_of_source, told_of_path}

-- a notice more, where there is one
abbrev pub onto : {X : Type 0} → Option X → List X → List X
onto None notices = notices
onto (Some notice) notices = notice ∷ notices

-- the notices of a way at these looks, where this was told before them
abbrev pub told_path : Trouble → List PathLook → List PathNotice
told_path was [] = []
told_path was (look ∷ looks) =
    onto (news_of_path was look) (told_path (told_of_path was look) looks)

-- the notices of an address
abbrev pub told_source : SourceState → List SourceState → List SourceNotice
told_source was [] = []
told_source was (is ∷ looks) = onto (news_of_source was is) (told_source is looks)

-- each notice begins with what the one before it told, and tells something else: so what is wrong
-- is told once when it begins, and once when it is over, and nothing is told twice in a row
abbrev pub AreTurns : Trouble → List PathNotice → Trouble → Type 0
AreTurns first [] last = first ≡ last
AreTurns first (notice ∷ notices) last =
    (notice.was ≡ first) × (notice.is ≢ notice.was) × AreTurns notice.is notices last

abbrev pub AreSourceTurns : SourceState → List SourceNotice → SourceState → Type 0
AreSourceTurns first [] last = first ≡ last
AreSourceTurns first (notice ∷ notices) last =
    (notice.was ≡ first) × (notice.is ≢ notice.was) × AreSourceTurns notice.is notices last

-- the trouble at the last look at which a way had a link, or what was told before
abbrev pub known_trouble : Trouble → List PathLook → Trouble
known_trouble was looks = fold told_of_path was looks

-- how an address was at the last look
abbrev pub known_state : SourceState → List SourceState → SourceState
known_state was looks = fold (λ before is. is) was looks

-- A WAY OVER A NIGHT. Its notices go from what was told first to its trouble at the last look at
-- which it had a link, each from what the one before told to something else; and while it has no
-- link nothing is told of it
pub record PathsLaw : Type 0 where
  pub turns : (was : Trouble) (looks : List PathLook)
      → AreTurns was (told_path was looks) (known_trouble was looks)
  pub quiet : (was : Trouble) (looks : List PathLook)
      → All (λ look. look.has_link ≡ false) looks → told_path was looks ≡ []

-- AN ADDRESS OVER A NIGHT. Its notices go from what was told first to how it is at the last look,
-- each from what the one before told to something else
abbrev pub SourcesLaw : Type 0
SourcesLaw = (was : SourceState) (looks : List SourceState)
    → AreSourceTurns was (told_source was looks) (known_state was looks)
