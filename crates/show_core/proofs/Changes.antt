-- What a change of the value at a key makes of the map.
use Rattle.show_core.proofs.Terms.{◌≡◌, ℕ, List, [], ◌∷◌, Some, None, true, false, cond, refl, sym, ap}
use Rattle.show_core.proofs.Terms.{◌∙◌, option_map_or, nat_cmp, is_eq, eq_by_cmp, nat_cmp_total}
use Rattle.show_core.proofs.Terms.{tied_itself, tells_apart, exact_unsigned, CueMap, MasterMap}
use Rattle.show_core.proofs.Terms.{with_change, with_bytes, with_levels, with_all_listed}
use Rattle.std.specs.FinMap as map

module _ {V : Type 0} where
  same : (a b : map.FinMap nat_cmp V) → ((q : ℕ) → map.get a q ≡ map.get b q) → a ≡ b
  same = map.same_map nat_cmp_total map.nat_cmp-IsAntisymmetric

  -- a value that is there already
  pub insert_there : (m : map.FinMap nat_cmp V) (n : ℕ) (v : V) → map.get m n ≡ Some v
      → map.insert m n v ≡ m
  insert_there m n v is = same (map.insert m n v) m (λ q. map.get-insert nat_cmp_total m n v q
      ∙ elim (eq_by_cmp nat_cmp q n)
      as (λ b. eq_by_cmp nat_cmp q n ≡ b → cond b (Some v) (map.get m q) ≡ map.get m q) [
        | true ↦ λ e. sym (ap (map.get m) (tells_apart exact_unsigned q n e) ∙ is)
        | false ↦ λ _. refl
      ] refl)

  -- the later value of a key counts
  insert_again : (m : map.FinMap nat_cmp V) (n : ℕ) (v w : V)
      → map.insert (map.insert m n v) n w ≡ map.insert m n w
  insert_again m n v w = same (map.insert (map.insert m n v) n w) (map.insert m n w) (λ q.
      map.get-insert nat_cmp_total (map.insert m n v) n w q
      ∙ ap (cond (eq_by_cmp nat_cmp q n) (Some w)) (map.get-insert nat_cmp_total m n v q)
      ∙ elim (eq_by_cmp nat_cmp q n)
      as (λ b. cond b (Some w) (cond b (Some v) (map.get m q)) ≡ cond b (Some w) (map.get m q)) [
        | true ↦ refl
        | false ↦ refl
      ] ∙ sym (map.get-insert nat_cmp_total m n w q))

  get_inserted : (m : map.FinMap nat_cmp V) (n : ℕ) (v : V) → map.get (map.insert m n v) n ≡ Some v
  get_inserted m n v = map.get-insert nat_cmp_total m n v n
      ∙ ap (λ r. cond (is_eq r) (Some v) (map.get m n)) (tied_itself nat_cmp_total n)

  changed_not : (m : map.FinMap nat_cmp V) (n : ℕ)
      → option_map_or (λ v. map.insert m n v) (map.get m n) m ≡ m
  changed_not m n =
      elim (map.get m n)
      as (λ o. map.get m n ≡ o → option_map_or (λ v. map.insert m n v) o m ≡ m) [
        | None ↦ λ _. refl
        | Some v ↦ insert_there m n v
      ] refl

  changed_twice : (m : map.FinMap nat_cmp V) (n : ℕ) (f g : V → V)
      → let once = option_map_or (λ v. map.insert m n (f v)) (map.get m n) m in
      option_map_or (λ v. map.insert once n (g v)) (map.get once n) once
      ≡ option_map_or (λ v. map.insert m n (g (f v))) (map.get m n) m
  changed_twice m n f g =
      elim (map.get m n)
      as (λ o. map.get m n ≡ o → let once = option_map_or (λ v. map.insert m n (f v)) o m in
      option_map_or (λ v. map.insert once n (g v)) (map.get once n) once
      ≡ option_map_or (λ v. map.insert m n (g (f v))) o m) [
        | None ↦ λ none. ap (λ o. option_map_or (λ v. map.insert m n (g v)) o m) none
        | Some v ↦ λ _.
            let once = map.insert m n (f v) in
            ap (λ o. option_map_or (λ w. map.insert once n (g w)) o once) (get_inserted m n (f v))
            ∙ insert_again m n (f v) (g (f v))
      ] refl

-- levels one after the other are one change of the record
pub changed_levels : (cues : CueMap) (n : ℕ) (ps : List (ℕ × ℕ)) → with_levels cues n ps
    ≡ with_change cues n (λ cue. record cue { levels = with_bytes cue.levels ps })
changed_levels cues n [] = sym (changed_not cues n)
changed_levels cues n (p ∷ ps) =
    changed_levels (with_change cues n (λ c. record c { levels = map.insert c.levels p.0 p.1 })) n
    ps
    ∙ changed_twice cues n (λ cue. record cue { levels = map.insert cue.levels p.0 p.1 })
    (λ cue. record cue { levels = with_bytes cue.levels ps })

pub changed_listed : (masters : MasterMap) (n : ℕ) (ps : List (ℕ × ℕ))
    → with_all_listed masters n ps
    ≡ option_map_or (λ levels. map.insert masters n (with_bytes levels ps)) (map.get masters n)
    masters
changed_listed masters n [] = sym (changed_not masters n)
changed_listed masters n (p ∷ ps) =
    changed_listed
    (option_map_or (λ l. map.insert masters n (map.insert l p.0 p.1)) (map.get masters n) masters)
    n ps
    ∙ changed_twice masters n (λ l. map.insert l p.0 p.1) (λ l. with_bytes l ps)

pub ruleset level_changes = (insert_there, changed_levels, changed_listed)
