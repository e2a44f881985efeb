-- What is told of an output over a night.
use Rattle.std.proofs.Common.{◌≡◌, ℕ, Bool, true, false, cond, List, [], ◌∷◌, refl, sym, subst}
use Rattle.std.proofs.Common.{nat_eq, arith}
use Rattle.std.proofs.lemmas.List.Elements.{All-cons, All-head, All-nil, All-tail}
use Rattle.std.specs.Prelude.{All}
use Rattle.line_queue.specs.declared.watch.OutputLook.{OutputLook}
use Rattle.line_queue.specs.declared.watch.OutputNotice.{OutputNotice}
use Rattle.line_queue.specs.declared.watch.OutputNotice.TheVariants.{Failed, Late, Missing, Whole}
use Rattle.line_queue.specs.declared.watch.OutputWatch.{OutputWatch}
use Rattle.line_queue.specs.Watches.{AreInTurn, NoticesLaw, told_after, before_notices, is_missing}
use Rattle.line_queue.specs.Watches.{news_of_output, notices_of}

abbrev pub watch_of : Bool → Bool → ℕ → OutputWatch
watch_of failed late gaps = record { has_failed = failed; is_late = late; gaps = gaps }

abbrev pub output_look : Bool → Bool → ℕ → OutputLook
output_look failed late gaps = record { has_failed = failed; is_late = late; gaps = gaps }

-- the notices after a look, behind its own
abbrev told_on : OutputWatch → OutputLook → List OutputLook → List OutputNotice
told_on told look looks =
    before_notices (news_of_output told look) (notices_of (told_after told look) looks)

silent : (late : Bool) (gaps : ℕ) (looks : List OutputLook)
    → notices_of (watch_of true late gaps) looks ≡ []
silent late gaps [] = refl
silent late gaps (look ∷ looks) = silent late gaps looks

step : (late failed now : Bool) (gaps found : ℕ) (looks : List OutputLook)
    → ((l : Bool) (g : ℕ) → AreInTurn l (notices_of (watch_of false l g) looks))
    → AreInTurn late (told_on (watch_of false late gaps) (output_look failed now found) looks)
step late true now gaps found looks rest = silent late gaps looks
step false false false gaps found looks rest = rest false gaps
step false false true gaps found looks rest = rest true gaps
step true false true gaps found looks rest = rest true gaps
step true false false gaps found looks rest =
    elim (nat_eq found gaps)
    as (λ b. AreInTurn true
    (cond b Whole Missing ∷ notices_of (watch_of false false found) looks)) [
      | true ↦ rest false found
      | false ↦ rest false found
    ]

turns_at : (looks : List OutputLook) (late : Bool) (gaps : ℕ)
    → AreInTurn late (notices_of (watch_of false late gaps) looks)
turns_at [] late gaps = tt
turns_at (look ∷ looks) late gaps =
    step late look.has_failed look.is_late gaps look.gaps looks (turns_at looks)

turns : (told : OutputWatch) (looks : List OutputLook) → told.has_failed ≡ false
    → AreInTurn told.is_late (notices_of told looks)
turns told looks h =
    subst (λ f. AreInTurn told.is_late (notices_of (watch_of f told.is_late told.gaps) looks))
    (sym h) (turns_at looks told.is_late told.gaps)

-- ---- no lines are said to be missing unless there are gaps

abbrev NoneMissing : List OutputNotice → Type 0
NoneMissing notices = All (λ notice. is_missing notice ≡ false) notices

one : (notice : OutputNotice) (notices : List OutputNotice) → is_missing notice ≡ false
    → NoneMissing notices → NoneMissing (notice ∷ notices)
one notice notices h rest = All-cons (λ n. is_missing n ≡ false) notice notices h rest

none : NoneMissing []
none = All-nil (λ n. is_missing n ≡ false)

is_same : (n : ℕ) → nat_eq n n ≡ true
is_same n = grind (arith)

whole_step : (failed late broken now : Bool) (gaps found : ℕ) (looks : List OutputLook)
    → found ≡ gaps
    → ((f l : Bool) → NoneMissing (notices_of (watch_of f l gaps) looks))
    → NoneMissing (told_on (watch_of failed late gaps) (output_look broken now found) looks)
whole_step true late broken now gaps found looks same rest = rest true late
whole_step false late true now gaps found looks same rest =
    one Failed (notices_of (watch_of true late gaps) looks) refl (rest true late)
whole_step false false false false gaps found looks same rest = rest false false
whole_step false false false true gaps found looks same rest =
    one Late (notices_of (watch_of false true gaps) looks) refl (rest false true)
whole_step false true false true gaps found looks same rest = rest false true
whole_step false true false false gaps found looks same rest =
    subst (λ g. NoneMissing (told_on (watch_of false true gaps) (output_look false false g) looks))
    (sym same)
    (subst (λ b. NoneMissing (cond b Whole Missing ∷ notices_of (watch_of false false gaps) looks))
    (sym (is_same gaps))
    (one Whole (notices_of (watch_of false false gaps) looks) refl (rest false false)))

sound_at : (looks : List OutputLook) (gaps : ℕ) → All (λ look. look.gaps ≡ gaps) looks
    → (failed late : Bool) → NoneMissing (notices_of (watch_of failed late gaps) looks)
sound_at [] gaps h failed late = none
sound_at (look ∷ looks) gaps h failed late =
    whole_step failed late look.has_failed look.is_late gaps look.gaps looks
    (All-head (λ l. l.gaps ≡ gaps) look looks h)
    (sound_at looks gaps (All-tail (λ l. l.gaps ≡ gaps) look looks h))

sound : (told : OutputWatch) (looks : List OutputLook) → All (λ look. look.gaps ≡ told.gaps) looks
    → NoneMissing (notices_of told looks)
sound told looks h = sound_at looks told.gaps h told.has_failed told.is_late

pub notices : NoticesLaw
notices = record { turns = turns; sound = sound }
