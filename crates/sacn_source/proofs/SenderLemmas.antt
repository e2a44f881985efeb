-- A sender in which one lane changes.
use Rattle.std.proofs.Common.{◌≡◌, ◌≢◌, ℕ, ◌+◌, ◌<◌, ◌≤◌, Bool, true, false, not, cond, refl, ap}
use Rattle.std.proofs.Common.{arith, sym, subst, take, ◌∙◌, List, [], ◌∷◌, ◌++◌, length, get_or}
use Rattle.std.proofs.lemmas.Bool.Decides.{nat_tests}
use Rattle.std.proofs.Math.Seq.{map-set_same}
use Rattle.std.proofs.lemmas.List.{get_or_default, length-map, map_push, take_more}
use Rattle.std.proofs.lemmas.List.Folds.{find-set, find_at, find_past}
use Rattle.std.proofs.lemmas.List.Sums.{prefix_len_passes, prefix_len_stops}
use Rattle.std.proofs.lemmas.Option.{get_or_from_slice_get, slice_get-get_or, slice_get-map}
use Rattle.std.proofs.lemmas.Option.{slice_get_past}
use Rattle.std.specs.List.{position, position_or_len}
use Rattle.std.specs.Option.{option_map, option_map_or}
use Rattle.std.specs.Prelude.{All, Contains, None, Option, Some, IsSome, nat_lt, slice_get}
use Rattle.std.specs.Prelude.{slice_set, ◌==◌}
use Rattle.sacn_source.specs.Identity.{Identity}
use Rattle.sacn_source.specs.Kept.{Lane}
use Rattle.sacn_source.specs.Stands.{LaneStands, StandsAt, StandsFor, earliest_of, ended_of}
use Rattle.sacn_source.specs.Stands.{lane_of, lane_universes}
use Rattle.sacn_source.specs.Stream.{Offer, earliest_after}

is_it : (a u : ℕ) → a ≡ u → (a == u) ≡ true
is_it a u e = grind (arith, nat_tests)

is_not : (a u : ℕ) → a ≢ u → (a == u) ≡ false
is_not a u e = grind (arith, nat_tests)

-- where a universe is among those of the lanes, its lane is among the lanes
abbrev place : List Lane → ℕ → ℕ
place lanes u = position_or_len (λ (lane : Lane). lane.universe == u) lanes

places : (lanes : List Lane) (u : ℕ)
    → position_or_len (λ (v : ℕ). v == u) (lane_universes lanes) ≡ place lanes u
places [] u = refl
places (l ∷ ls) u = rw (places ls u) refl

found_by : (b : Bool) (p i n : ℕ) → nat_lt p n ≡ b → cond b (Some p) None ≡ Some i → (i ≡ p)
    × (i < n)
found_by true p i n h e =
    let same : i ≡ p = cc in
    (same, grind (arith, nat_tests))
found_by false p i n h e = cc

found_some : (o : Option ℕ) → IsSome o → (i : ℕ) × (o ≡ Some i)
found_some None s = cc
found_some (Some i) s = (i, refl)

some_at : (lanes : List Lane) (i : ℕ) → i < length lanes → (lane : Lane)
    × (lane ≡ get_or lanes i lane)
some_at [] i within = absurd (omega arith)
some_at (l ∷ ls) i within =
    (get_or (l ∷ ls) i l, get_or_default (l ∷ ls) i l (get_or (l ∷ ls) i l) within)

-- a universe that is there is found
found_if : (b : Bool) (p n : ℕ) → nat_lt p n ≡ b → (n ≤ p → ⊥) → IsSome (cond b (Some p) None)
found_if b p n h e = grind (arith, nat_tests)

is_found : (universes : List ℕ) (u : ℕ) → Contains universes u
    → IsSome (position (λ v. v == u) universes)
is_found universes u here =
    found_if _ _ (length universes) refl (λ past.
    let k : here.0 < position_or_len (λ v. v == u) universes = omega (arith, here.1, past) in
    let other : not (get_or universes here.0 u == u) ≡ true =
    prefix_len_passes (λ v. not (v == u)) universes here.0 u k in
    let same : (get_or universes here.0 u == u) ≡ true = is_it _ _ here.2 in
    cc)

pub place_found : {lanes now : List Lane} {universes : List ℕ} {found : Option ℕ} (u : ℕ)
    → lanes ≡ now → universes ≡ lane_universes lanes → found ≡ position (λ v. v == u) universes
    → Contains (lane_universes now) u → IsSome found
place_found {universes = universes} u same are found here =
    rw found (is_found universes u (rw (are, same) here))

-- the lane of a universe, at its place
pub record LaneAt (lanes now : List Lane) (u i : ℕ) (lane : Lane) : Type 0 where
  pub same : lanes ≡ now
  pub within : i < length lanes
  pub first : i ≡ place lanes u
  pub get : slice_get lanes i ≡ Some lane
  pub is : lane.universe ≡ u
  pub at : lane_of now u ≡ Some lane

pub lane_found : {lanes now : List Lane} {universes : List ℕ} {i : ℕ} {found : Option ℕ}
    {lane : Lane} (u : ℕ) (d : Lane) → lanes ≡ now → universes ≡ lane_universes lanes
    → found ≡ position (λ v. v == u) universes → found ≡ Some i → lane ≡ get_or lanes i d
    → LaneAt lanes now u i lane
lane_found {lanes} {now} {universes} {i} {found} {lane} u d same are result some is =
    let there : position (λ v. v == u) (lane_universes lanes) ≡ Some i =
    rw (← are, ← result) some in
    let found_in = found_by _ _ i (length (lane_universes lanes)) refl there in
    let within : i < length lanes =
    omega (arith, found_in.1, length-map lanes (λ (l : Lane). l.universe)) in
    let first : i ≡ place lanes u = found_in.0 ∙ places lanes u in
    let get : slice_get lanes i ≡ Some lane =
    slice_get-get_or lanes i d within ∙ ap Some (sym is) in
    let stops : not (lane.universe == u) ≡ false =
    ap (λ (l : Lane). not (l.universe == u)) (is ∙ ap (λ (k : ℕ). get_or lanes k d) first)
    ∙ prefix_len_stops (λ l. not (l.universe == u)) lanes d (omega (arith, first, within)) in
    record {
      same = same;
      within = within;
      first = first;
      get = get;
      is = grind (arith, nat_tests, stops);
      at = ap (λ (ls : List Lane). lane_of ls u) (sym same) ∙ find_at (λ l. l.universe == u) lanes
          ∙ ap (slice_get lanes) (sym first) ∙ get;
    }

-- a lane that keeps its universe leaves those of the sender as they are
pub universes_same : (lanes : List Lane) (i : ℕ) (new old : Lane)
    → new.universe ≡ (get_or lanes i old).universe
    → lane_universes (slice_set lanes i new) ≡ lane_universes lanes
universes_same lanes i new old kept = map-set_same (λ (l : Lane). l.universe) lanes i new old kept

-- the lane changes, and keeps its universe
pub record Changes (lanes now : List Lane) (u i : ℕ) (new : Lane) : Type 0 where
  pub universes : lane_universes (slice_set lanes i new) ≡ lane_universes lanes
  pub at : lane_of (slice_set lanes i new) u ≡ Some new
  pub others : (v : ℕ) → v ≢ u → lane_of (slice_set lanes i new) v ≡ lane_of now v

pub changes : {lanes now : List Lane} {u i : ℕ} {lane : Lane} (new : Lane)
    → LaneAt lanes now u i lane
    → new.universe ≡ lane.universe → Changes lanes now u i new
changes {lanes} {now} {u} {i} {lane} new p kept =
    let was : lane ≡ get_or lanes i lane = sym (get_or_from_slice_get lanes i lane lane p.get) in
    record {
      universes = universes_same lanes i new lane (kept ∙ ap (λ (l : Lane). l.universe) was);
      at = find-set (λ l. l.universe == u) lanes i new p.first p.within (is_it _ _ (kept ∙ p.is));
      others = λ v other. find_past (λ l. l.universe == v) lanes i new lane
          (ap (λ (l : Lane). l.universe == v) (sym was) ∙ is_not _ _ (λ e. other (sym e ∙ p.is)))
          (is_not _ _ (λ e. other (sym e ∙ kept ∙ p.is)))
          ∙ ap (λ (ls : List Lane). lane_of ls v) p.same;
    }

-- a universe that is not found has no lane
none_by : (b : Bool) (p n : ℕ) → nat_lt p n ≡ b → cond b (Some p) None ≡ None → n ≤ p
none_by b p n h e = grind (arith, nat_tests)

pub no_lane : (who : Identity) (lanes now : List Lane) (universes : List ℕ) (u : ℕ)
    (offers : List Offer)
    (n : ℕ) → lanes ≡ now → universes ≡ lane_universes lanes
    → position (λ v. v == u) universes ≡ None
    → StandsFor who now u offers n → ⊥
no_lane who lanes now universes u offers n same are none s =
    let there : position (λ v. v == u) (lane_universes lanes) ≡ None =
    rw (← are) none in
    let past : length lanes ≤ place lanes u = omega (
      arith,
      none_by _ _ _ refl there,
      places lanes u,
      length-map lanes (λ (l : Lane). l.universe),
    ) in
    let gone : lane_of now u ≡ None = ap (λ (ls : List Lane). lane_of ls u) (sym same)
    ∙ find_at (λ l. l.universe == u) lanes ∙ slice_get_past lanes (place lanes u) past in
    rw gone at s

-- a universe that is found is among those of the lanes
pub is_there : {lanes now : List Lane} {u i : ℕ} {lane : Lane} → LaneAt lanes now u i lane
    → Contains (lane_universes now) u
is_there {lanes} {now} {u} {i} {lane} p =
    let universe : Lane → ℕ = λ l. l.universe in
    let at : slice_get (lane_universes lanes) i ≡ Some u =
    slice_get-map universe lanes i ∙ ap (option_map universe) p.get ∙ ap Some p.is in
    subst (λ (ls : List Lane). Contains (lane_universes ls) u) p.same (
      i,
      omega (arith, p.within, length-map lanes universe),
      get_or_from_slice_get (lane_universes lanes) i u u at,
    )

-- a sender that was just opened
pub opened : (who : Identity) (lanes : List Lane) (universes : List ℕ) (u : ℕ)
    → lane_universes lanes ≡ universes → All (λ lane. LaneStands who lane [] 0) lanes
    → Contains universes u → StandsFor who lanes u [] 0
opened who lanes universes u are all here =
    let there : Contains (lane_universes lanes) u = rw are here in
    let found = found_some _ (is_found (lane_universes lanes) u there) in
    let within : found.0 < length lanes = omega (
      arith,
      (found_by _ _ found.0 (length (lane_universes lanes)) refl found.1).1,
      length-map lanes (λ (l : Lane). l.universe),
    ) in
    let some = some_at lanes found.0 within in
    let p = lane_found u some.0 refl refl refl found.1 some.1 in
    subst (λ (o : Option Lane). StandsAt who o [] 0) (sym p.at)
    (subst (λ (l : Lane). LaneStands who l [] 0) (sym some.1) (all found.0 some.0 within))

pub universes_more : (lanes : List Lane) (lane : Lane) (universes : List ℕ) (i d : ℕ)
    → i < length universes → lane.universe ≡ get_or universes i d
    → lane_universes lanes ≡ take i universes
    → lane_universes (lanes ++ lane ∷ []) ≡ take (i + 1) universes
universes_more lanes lane universes i d within is so_far =
    rw (
      map_push (λ (l : Lane). l.universe) lanes lane,
      so_far,
      is,
      take_more universes i d within,
    ) refl

-- what is kept of a universe, by what it stands for
paces_stand : (who : Identity) (o : Option Lane) (offers : List Offer) (n : ℕ)
    → StandsAt who o offers n
    → (option_map_or (λ (l : Lane). l.pace.earliest) o 0 ≡ earliest_after offers)
    × (option_map_or (λ (l : Lane). l.pace.ended) o 0 ≡ n)
paces_stand who None offers n s = absurd s
paces_stand who (Some l) offers n s = (s.paces.earliest_is, s.paces.ended_is)

pub earliest_is : (who : Identity) (lanes : List Lane) (u : ℕ) (offers : List Offer) (n : ℕ)
    → StandsFor who lanes u offers n → earliest_of lanes u ≡ earliest_after offers
earliest_is who lanes u offers n s = (paces_stand who (lane_of lanes u) offers n s).0

pub ended_is : (who : Identity) (lanes : List Lane) (u : ℕ) (offers : List Offer) (n : ℕ)
    → StandsFor who lanes u offers n → ended_of lanes u ≡ n
ended_is who lanes u offers n s = (paces_stand who (lane_of lanes u) offers n s).1
