-- The packets of a stream: how close they are where offers are at most 200 ms apart, what they
-- hold, and which is the newest.
use Rattle.std.proofs.Common.{◌≡◌, ℕ, ◌+◌, ◌<◌, ◌≤◌, Bool, true, false, not, ◌||◌, refl, ap, ◌∙◌}
use Rattle.std.proofs.Common.{arith, List, [], ◌∷◌, ◌++◌, map, zero, suc, sym, length, Some}
use Rattle.std.specs.Prelude.{nat_le, nat_eq, if◌then◌else◌, slice_get, All}
use Rattle.std.specs.Cmp.Lexicographic.{pointwise, bytes_decides}
use Rattle.std.proofs.lemmas.Bool.{cond_both}
use Rattle.std.proofs.lemmas.Bool.Decides.{nat_tests}
use Rattle.std.proofs.lemmas.List.{map-append}
use Rattle.sacn_source.specs.Stream.{Offer, Packet, changed_within, sends, last_sent, frames_sent}
use Rattle.sacn_source.specs.Stream.{packets, live_packet, last_packet, newest_frame}
use Rattle.sacn_source.specs.Timing.{AreCloser, AreWithin, moments_sent}
use Rattle.std.proofs.lemmas.List.Elements.{All-nil, All-head, All-tail, All-map, All-push}

first_false : (a b : Bool) → (a || b) ≡ false → a ≡ false
first_false a b h = grind arith

not_soon : (a : Bool) (m n : ℕ) → (a || nat_le m n) ≡ false → n < m
not_soon a m n h = grind (arith, nat_tests)

if_soon : (a : Bool) (m n : ℕ) → (a || nat_le m n) ≡ true → a ≡ false → m ≤ n
if_soon a m n h still = grind (arith, nat_tests)

-- the newest offer is less than 800 ms after the last one that sent
close : (o : Offer) (older : List Offer) → o.moment < last_sent (o ∷ older) + 800
close o older = cond_both (sends (o ∷ older)) o.moment (last_sent older)
    (λ last. o.moment < last + 800) (λ _. omega arith) (λ no. not_soon _ _ _ no)

-- the newest packet's moment
newest_moment : (offers : List Offer) (b : ℕ) (rest : List ℕ) → moments_sent offers ≡ b ∷ rest
    → last_sent offers ≡ b
newest_moment [] b rest e = cc
newest_moment (o ∷ older) b rest e = go (sends (o ∷ older)) e (newest_moment older b rest)
  where
    go : (t : Bool) → (if t then o.moment ∷ moments_sent older else moments_sent older) ≡ b ∷ rest
        → (moments_sent older ≡ b ∷ rest → last_sent older ≡ b)
        → (if t then o.moment else last_sent older) ≡ b
    go true is more = cc
    go false is more = more is

one_closer : (o : ℕ) (moments : List ℕ)
    → ((b : ℕ) (rest : List ℕ) → moments ≡ b ∷ rest → o < b + 1000) → AreCloser 1000 moments
    → AreCloser 1000 (o ∷ moments)
one_closer o [] h c = tt
one_closer o (b ∷ rest) h c = (h b rest refl, c)

soon : (o : Offer) (older : List Offer) → AreWithin 200 (o ∷ older) → (b : ℕ) (rest : List ℕ)
    → moments_sent older ≡ b ∷ rest → o.moment < b + 1000
soon o [] w b rest e = cc
soon o (p ∷ older) w b rest e =
    omega (arith, w.0, close p older, newest_moment (p ∷ older) b rest e)

shorter : (o : Offer) (older : List Offer) → AreWithin 200 (o ∷ older) → AreWithin 200 older
shorter o [] w = tt
shorter o (p ∷ older) w = w.1

pub all_close : (offers : List Offer) → AreWithin 200 offers → AreCloser 1000 (moments_sent offers)
all_close [] w = tt
all_close (o ∷ older) w =
    let rest = all_close older (shorter o older w) in
    cond_both (sends (o ∷ older)) (o.moment ∷ moments_sent older) (moments_sent older)
    (AreCloser 1000) (λ _. one_closer o.moment (moments_sent older) (soon o older w) rest)
    (λ _. rest)

pub late : (o : Offer) (older : List Offer) → sends (o ∷ older) ≡ true
    → changed_within 4 (o ∷ older) ≡ false → last_sent older + 800 ≤ o.moment
late o older s c = if_soon _ _ _ s c

unchanged_same : (o p : Offer) → not (pointwise nat_eq o.frame p.frame) ≡ false → o.frame ≡ p.frame
unchanged_same o p h = (bytes_decides o.frame p.frame).0 (grind (arith, h))

pub newest : (o : Offer) (older : List Offer) → (front : List (List ℕ))
    × (frames_sent (o ∷ older) ≡ front ++ o.frame ∷ [])
newest o [] = ([], refl)
newest o (p ∷ older) = cond_both (sends (o ∷ p ∷ older)) (frames_sent (p ∷ older) ++ o.frame ∷ [])
    (frames_sent (p ∷ older)) (λ fs. (front : List (List ℕ)) × (fs ≡ front ++ o.frame ∷ []))
    (λ _. (frames_sent (p ∷ older), refl))
    (λ no. let more = newest p older in
    (more.0, rw (unchanged_same o p (first_false _ _ (first_false _ _ no))) more.1))

pub newest_packet : (o : Offer) (older : List Offer) → (front : List Packet)
    × (packets (o ∷ older) 0 ≡ front ++ live_packet o.frame ∷ [])
newest_packet o older =
    let frames = newest o older in (
      map live_packet frames.0,
      ap (map live_packet) frames.1 ∙ map-append live_packet frames.0 (o.frame ∷ []),
    )

-- ---- each packet has 512 slots, and the newest is the frame last offered, or the end

abbrev pub OffersFull : Offer → Type 0
OffersFull o = length o.frame ≡ 512

abbrev pub HoldsFull : Packet → Type 0
HoldsFull p = length p.slots ≡ 512

frames_full : (os : List Offer) → All OffersFull os → All (λ f. length f ≡ 512) (frames_sent os)
frames_full [] a = All-nil (λ (f : List ℕ). length f ≡ 512)
frames_full (o ∷ os) a =
    let ih = frames_full os (All-tail OffersFull o os a) in
    cond_both (sends (o ∷ os)) (frames_sent os ++ o.frame ∷ []) (frames_sent os)
    (All (λ f. length f ≡ 512)) (λ _. All-push (λ (f : List ℕ). length f ≡ 512) (frames_sent os)
    o.frame ih (All-head OffersFull o os a)) (λ _. ih)

pub packets_full : (os : List Offer) (n : ℕ) → All OffersFull os → All HoldsFull (packets os n)
packets_full os zero a = All-map HoldsFull live_packet (frames_sent os) (frames_full os a)
packets_full os (suc n) a =
    All-push HoldsFull (packets os n) last_packet (packets_full os n a) refl

last_of : {A : Type 0} (xs : List A) (x y : A) (k : ℕ) → slice_get (xs ++ x ∷ []) k ≡ Some y
    → suc k ≡ length (xs ++ x ∷ []) → y ≡ x
last_of [] x y zero e l = cc
last_of [] x y (suc k) e l = absurd (omega (arith, l))
last_of (z ∷ []) x y zero e l = absurd (omega (arith, l))
last_of (z ∷ s ∷ xs) x y zero e l = absurd (omega (arith, l))
last_of (z ∷ xs) x y (suc k) e l = last_of xs x y k e (omega (arith, l))

pub newest_is : (os : List Offer) (n k : ℕ) (p : Packet) → slice_get (packets os n) k ≡ Some p
    → suc k ≡ length (packets os n)
    → p ≡ (if nat_eq n 0 then live_packet (newest_frame os) else last_packet)
newest_is [] zero k p e l = cc
newest_is (o ∷ os) zero k p e l =
    let front = newest_packet o os in
    last_of front.0 (live_packet o.frame) p k
    (ap (λ (ps : List Packet). slice_get ps k) (sym front.1) ∙ e) (l ∙ ap length front.1)
newest_is os (suc n) k p e l =
    let z : nat_eq (suc n) 0 ≡ false = grind (arith, nat_tests) in
    rw z (last_of (packets os n) last_packet p k e l)
