-- What a booth takes.
use Rattle.std.proofs.Common.{◌≡◌, ℕ, refl, ap, sym, ◌∙◌, arith, List, [], ◌++◌, append-nil}
use Rattle.std.proofs.Common.{append_assoc, Ok, Err, Result, ◌∷◌}
use Rattle.std.specs.Prelude.{OnErr, OnOk}
use Rattle.devices.specs.Send.{Send}
use Rattle.devices.specs.Tape.{Tape, with_failure, with_more}
use Rattle.cmd_live.specs.Booth.{BoothState, Deed, keeps, kept_at, shown_at, shows}
use Rattle.cmd_live.specs.Shown.{TakesText}
use Rattle.cmd_live.specs.Stands.{AreShown, ShowsText}

pub takes_none : (t : Tape ℕ) → TakesText t t []
takes_none t = record { never_fewer = omega arith; whole = λ _. sym (append-nil t.items) }

pub takes_more : (a b c : Tape ℕ) (x y : List ℕ) → TakesText a b x → TakesText b c y
    → TakesText a c (x ++ y)
takes_more a b c x y first next = record {
  never_fewer = omega (arith, first.never_fewer, next.never_fewer);
  whole = λ same.
      let begun : b.failures ≡ a.failures =
      omega (arith, first.never_fewer, next.never_fewer, same) in
      let ended : c.failures ≡ b.failures =
      omega (arith, first.never_fewer, next.never_fewer, same) in
      next.whole ended ∙ ap (λ items. items ++ y) (first.whole begun) ∙ append_assoc a.items x y;
}

took : (t : Tape ℕ) (text : List ℕ) → TakesText t (with_more t text) text
took t text = record { never_fewer = omega arith; whole = λ _. refl }

failed : (t : Tape ℕ) (text : List ℕ) → TakesText t (with_failure t) text
failed t text = record { never_fewer = omega arith; whole = λ same. absurd (omega (arith, same)) }

-- a line was recorded when the link had been offered this
pub record Keeps (offered : List Send) (before after : BoothState) (line : List ℕ) : Type 0 where
  pub takes : TakesText before.kept after.kept line
  pub rest : after ≡ keeps after.kept offered before

pub kept_by : {E : Type 0} (r : Result (Unit {0}) E) (tells : Type 0) (offered : List Send)
    (s t : BoothState) (line : List ℕ)
    → OnOk r (tells → t ≡ keeps (with_more s.kept line) offered s)
    → OnErr r (tells → t ≡ keeps (with_failure s.kept) offered s) → tells
    → Keeps offered s t line
kept_by (Ok done) tells offered s t line ok err told =
    rw (ok told) (record { takes = took s.kept line; rest = refl })
kept_by (Err fault) tells offered s t line ok err told =
    rw (err told) (record { takes = failed s.kept line; rest = refl })

-- ---- what it shows

one_deed : (offered : List Send) (s : BoothState) (shown : Tape ℕ) (text : List ℕ)
    → TakesText s.shown shown text → ShowsText offered s (shows shown offered s) text
one_deed offered s shown text takes = record {
  takes = takes;
  deeds = shown_at offered ∷ [];
  are_shown = (refl, tt);
  rest = refl;
}

pub shown_by : {E : Type 0} (r : Result (Unit {0}) E) (tells : Type 0) (offered : List Send)
    (s t : BoothState) (text : List ℕ)
    → OnOk r (tells → t ≡ shows (with_more s.shown text) offered s)
    → OnErr r (tells → t ≡ shows (with_failure s.shown) offered s) → tells
    → ShowsText offered s t text
shown_by (Ok done) tells offered s t text ok err told =
    rw (ok told) (one_deed offered s _ text (took s.shown text))
shown_by (Err fault) tells offered s t text ok err told =
    rw (err told) (one_deed offered s _ text (failed s.shown text))

pub shows_none : (offered : List Send) (s : BoothState) → ShowsText offered s s []
shows_none offered s = record {
  takes = takes_none s.shown;
  deeds = [];
  are_shown = tt;
  rest = refl;
}

all_shown : (offered : List Send) (newer older : List Deed) → AreShown offered newer
    → AreShown offered older → AreShown offered (newer ++ older)
all_shown offered [] older new old = old
all_shown offered (shown_at at ∷ newer) older new old =
    (new.0, all_shown offered newer older new.1 old)
all_shown offered (kept_at at ∷ newer) older new old = absurd new

pub shows_more : (offered : List Send) (s t u : BoothState) (x y : List ℕ) → ShowsText offered s t x
    → ShowsText offered t u y → ShowsText offered s u (x ++ y)
shows_more offered s t u x y first next = record {
  takes = takes_more s.shown t.shown u.shown x y first.takes next.takes;
  deeds = next.deeds ++ first.deeds;
  are_shown = all_shown offered next.deeds first.deeds next.are_shown first.are_shown;
  rest = next.rest
      ∙ ap (λ (b : BoothState). record b { shown = u.shown; deeds = next.deeds ++ b.deeds })
      first.rest
      ∙ ap (λ (ds : List Deed). record s { shown = u.shown; deeds = ds })
      (sym (append_assoc next.deeds first.deeds s.deeds));
}
