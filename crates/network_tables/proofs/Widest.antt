-- The routes, read one by one, give the first that looks at most bits.
use Rattle.std.proofs.Common.{◌≡◌, ℕ, ◌<◌, ◌≤◌, Bool, true, false, cond, List, [], ◌∷◌, ◌++◌}
use Rattle.std.proofs.Common.{refl, sym}
use Rattle.std.proofs.Common.{◌∙◌, ap, subst, append_assoc, arith, Some, None, Option}
use Rattle.std.proofs.lemmas.Bool.Decides.{leb_tells}
use Rattle.std.proofs.lemmas.List.{append-nil}
use Rattle.std.proofs.lemmas.List.Elements.{All-append, All-cons, All-nil}
use Rattle.std.specs.Prelude.{fold, All}
use Rattle.std.proofs.Common.{inl, inr, get_or}
use Rattle.network_tables.specs.Routes.{RouteEntry, leads_to, width_of}
use Rattle.network_tables.specs.Best.{BestRouteLaw, IsRouteTo, IsFirstWidest, LeadsElsewhere}
use Rattle.network_tables.specs.Best.{IsNarrower, IsNotWider, better, wider}

all_more : {X : Type 0} (P Q : X → Type 0) (xs : List X) → ((x : X) → P x → Q x) → All P xs
    → All Q xs
all_more P Q xs f h k d lt = f (get_or xs k d) (h k d lt)

all_one : {X : Type 0} (P : X → Type 0) (x : X) → P x → All P (x ∷ [])
all_one P x h = All-cons P x [] h (All-nil P)

false_true : {b : Bool} → b ≡ false → b ≡ true → ⊥
false_true f t = grind (arith, f, t)

-- one more that does not lead there
kept : (host : List ℕ) (seen : List RouteEntry) (route : RouteEntry) (best : Option RouteEntry)
    → leads_to host route ≡ false → IsRouteTo host seen best
    → IsRouteTo host (seen ++ route ∷ []) best
kept host seen route None strays h = All-append (LeadsElsewhere host) seen (route ∷ []) h
    (all_one (LeadsElsewhere host) route (λ is. false_true strays is))
kept host seen route (Some best) strays h = record {
  before = h.before;
  behind = h.behind ++ route ∷ [];
  among = ap (λ l. l ++ route ∷ []) h.among ∙ append_assoc h.before (best ∷ h.behind) (route ∷ []);
  leads = h.leads;
  narrower = h.narrower;
  not_wider = All-append (IsNotWider host (width_of best)) h.behind (route ∷ []) h.not_wider
      (all_one (IsNotWider host (width_of best)) route
      (λ is. absurd (false_true strays is)));
}

-- one more that leads there, and looks at strays more bits
not_better : (host : List ℕ) (seen : List RouteEntry) (route best : RouteEntry)
    → width_of route ≤ width_of best → IsFirstWidest host seen best
    → IsFirstWidest host (seen ++ route ∷ []) best
not_better host seen route best le h = record {
  before = h.before;
  behind = h.behind ++ route ∷ [];
  among = ap (λ l. l ++ route ∷ []) h.among ∙ append_assoc h.before (best ∷ h.behind) (route ∷ []);
  leads = h.leads;
  narrower = h.narrower;
  not_wider = All-append (IsNotWider host (width_of best)) h.behind (route ∷ []) h.not_wider
      (all_one (IsNotWider host (width_of best)) route (λ is. le));
}

-- the first that leads there
first : (host : List ℕ) (seen : List RouteEntry) (route : RouteEntry) → leads_to host route ≡ true
    → All (LeadsElsewhere host) seen → IsFirstWidest host (seen ++ route ∷ []) route
first host seen route leads h = record {
  before = seen;
  behind = [];
  among = refl;
  leads = leads;
  narrower = all_more (LeadsElsewhere host) (IsNarrower host (width_of route)) seen
      (λ x strays is. absurd (strays is)) h;
  not_wider = All-nil (IsNotWider host (width_of route));
}

-- one that leads there, and looks at more bits than the best so far
new_best : (host : List ℕ) (seen : List RouteEntry) (route best : RouteEntry)
    → leads_to host route ≡ true
    → width_of best < width_of route → IsFirstWidest host seen best
    → IsFirstWidest host (seen ++ route ∷ []) route
new_best host seen route best leads lt h = record {
  before = seen;
  behind = [];
  among = refl;
  leads = leads;
  narrower = subst (All (IsNarrower host (width_of route))) (sym h.among)
      (All-append (IsNarrower host (width_of route)) h.before (best ∷ h.behind)
      (all_more (IsNarrower host (width_of best)) (IsNarrower host (width_of route)) h.before
      (λ x narrow is. let n = narrow is in omega arith) h.narrower)
      (All-cons (IsNarrower host (width_of route)) best h.behind (λ is. lt)
      (all_more (IsNotWider host (width_of best))
      (IsNarrower host (width_of route)) h.behind
      (λ x narrow is. let n = narrow is in omega arith) h.not_wider)));
  not_wider = All-nil (IsNotWider host (width_of route));
}

step : (host : List ℕ) (seen : List RouteEntry) (route : RouteEntry) (best : Option RouteEntry)
    → IsRouteTo host seen best → IsRouteTo host (seen ++ route ∷ []) (better host best route)
step host seen route best h = elim (leads_to host route) as (λ b. leads_to host route ≡ b
    → IsRouteTo host (seen ++ route ∷ []) (cond b (Some (wider best route)) best)) [
      | true ↦ λ leads. leading best leads h
      | false ↦ λ strays. kept host seen route best strays h
    ] refl
  where
    leading : (best : Option RouteEntry) → leads_to host route ≡ true → IsRouteTo host seen best
        → IsFirstWidest host (seen ++ route ∷ []) (wider best route)
    leading None leads h = first host seen route leads h
    leading (Some best) leads h = elim (leb_tells (width_of route) (width_of best)) [
      | inl w ↦ rw w.0 (not_better host seen route best w.1 h)
      | inr w ↦ rw w.0 (new_best host seen route best leads w.1 h)
    ]

steps : (host : List ℕ) (seen rest : List RouteEntry) (best : Option RouteEntry)
    → IsRouteTo host seen best
    → IsRouteTo host (seen ++ rest) (fold (better host) best rest)
steps host seen [] best h = rw (append-nil seen) h
steps host seen (route ∷ rest) best h =
    subst (λ l. IsRouteTo host l (fold (better host) (better host best route) rest))
    (append_assoc seen (route ∷ []) rest)
    (steps host (seen ++ route ∷ []) rest (better host best route) (step host seen route best h))

pub best_route : BestRouteLaw
best_route host routes = steps host [] routes None (All-nil (LeadsElsewhere host))
