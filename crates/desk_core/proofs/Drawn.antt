-- Frames, from the levels that they are made of.
use Rattle.desk_core.proofs.Terms.{◌≡◌, ℕ, ◌+◌, ◌*◌, ◌<◌, Bool, true, false, IsTrue, List, [], ◌∷◌}
use Rattle.desk_core.proofs.Terms.{length, Option, Some, None, is_some, refl, subst, ap, ◌∙◌, arith, All}
use Rattle.desk_core.proofs.Terms.{IfSome, max, map, replicate, slice_get, range_with_len, option_map_or}
use Rattle.desk_core.proofs.Terms.{length-replicate, get_or-replicate, slice_get-get_or, is_channel}
use Rattle.desk_core.proofs.Terms.{slot_of, PatchMap, value_in, Tables, playback_level, greatest_in}
use Rattle.desk_core.proofs.Terms.{merged_after, sub_after, group_after, grand_after, listed_level}
use Rattle.desk_core.proofs.Terms.{dimmer_slot, frame_of, AreDrawn, Instruction, Plain, GotoIn, Go, Back}
use Rattle.desk_core.proofs.Terms.{Goto, Sub, Group, Master, End, false≢true, keeps_floors, dark, channel_level}
use Rattle.desk_core.proofs.Terms.{frame, Move, with_due, moves_by, with_due-again, Act, order, tick}
use Rattle.desk_core.proofs.Terms.{ticks_since_end, moves, settings}
use Rattle.std.specs.FinMap as maps
use Rattle.std.proofs.Common.{cond}
use Rattle.desk_core.specs.declared.kept.FloorState.{FloorState}
use Rattle.desk_core.specs.declared.kept.FloorState.TheVariants.{Stale}
use Rattle.desk_core.specs.Inside.{are_current}

-- over a playback level, what submasters and groups make of a dark one
over : (playback floor : ℕ) → max playback (max 0 floor) ≡ max playback floor
over playback floor = omega arith

-- the higher of the playback's level after these moves and of the floor is the level that
-- submasters and groups make of it
pub merged_level : (show : Tables) (history : List Act) (made : List Move) (floors : List ℕ)
    (channel moment latest level : ℕ)
    → level ≡ max (playback_level show made channel latest) (listed_level floors channel)
    → latest ≡ moment → listed_level floors channel ≡ merged_after show (settings history) channel 0
    → level ≡ merged_after show (settings history) channel (playback_level show made channel moment)
merged_level show history made floors channel moment latest level is same floor =
    is ∙ ap (λ t. max (playback_level show made channel t) (listed_level floors channel)) same
    ∙ ap (max (playback_level show made channel moment)) floor
    ∙ over (playback_level show made channel moment)
    (max (greatest_in show.subs (sub_after (settings history)) channel) (greatest_in show.groups
    (group_after (settings history)) channel))

-- the floors after an instruction that keeps them
pub floors_same : (show : Tables) (history : List Act) (moment channel : ℕ)
    (instruction : Instruction) → keeps_floors instruction ≡ true
    → merged_after show (settings history) channel 0 ≡ merged_after show (settings (record {
      moment =
          moment;
      call = order instruction;
    } ∷ history)) channel 0
floors_same show history moment channel (Plain Go) h = refl
floors_same show history moment channel (Plain Back) h = refl
floors_same show history moment channel (Plain (Goto n)) h = refl
floors_same show history moment channel (GotoIn n time) h = refl
floors_same show history moment channel (Plain (Sub n byte)) h = absurd (false≢true h)
floors_same show history moment channel (Plain (Group n byte)) h = absurd (false≢true h)
floors_same show history moment channel (Plain (Master byte)) h = refl
floors_same show history moment channel (Plain End) h = refl

-- floors that are current behind an instruction were so before it, and it keeps them
pub floors_stay : (state : FloorState) (keeps : Bool)
    → IsTrue (are_current (cond keeps state Stale)) → IsTrue (are_current state) × IsTrue keeps
floors_stay state true h = (h, refl)
floors_stay state false h = absurd (false≢true h)

-- maps by functions that agree
map-same : {X Y : Type 0} (f g : X → Y) → ((x : X) → f x ≡ g x) → (xs : List X)
    → map f xs ≡ map g xs
map-same f g same [] = refl
map-same f g same (x ∷ xs) = let here : f x ≡ g x = same x in let rest : map f xs ≡ map g xs =
    map-same f g same xs in cc

slot-same : (level other : ℕ → ℕ) (grand : ℕ)
    → ((channel : ℕ) → IsTrue (is_channel channel) → level channel ≡ other channel)
    → (patched : Option (ℕ × ℕ))
    → IfSome patched (λ p. IsTrue (is_channel p.0))
    → option_map_or (λ p. slot_of (level p.0) grand p.1) patched 0
    ≡ option_map_or (λ p. slot_of (other p.0) grand p.1) patched 0
slot-same level other grand same None is = refl
slot-same level other grand same (Some p) is = ap (λ l. slot_of l grand p.1) (same p.0 is)

-- the levels of the channels decide the frames
pub frame_of-same : (patch : PatchMap) → All (λ e. IsTrue (is_channel e.1.0)) (maps.entries patch)
    → (level other : ℕ → ℕ)
    → ((channel : ℕ) → IsTrue (is_channel channel) → level channel ≡ other channel)
    → (grand ordinal : ℕ) → frame_of patch level grand ordinal ≡ frame_of patch other grand
    ordinal
frame_of-same patch channels level other same grand ordinal =
    map-same (dimmer_slot patch level grand) (dimmer_slot patch other grand)
    (λ dimmer. slot-same level other grand same (maps.get patch dimmer)
    (value_in (λ p. IsTrue (is_channel p.0)) patch dimmer channels))
    (range_with_len (512 * ordinal + 1) 512)

-- equal patches, grand masters and frames
pub drawn_same : (patch other : PatchMap) (level : ℕ → ℕ) (g h : ℕ) (frames others : List (List ℕ))
    → patch ≡ other → g ≡ h → frames ≡ others
    → AreDrawn patch level g frames → AreDrawn other level h others
drawn_same patch other level g h frames others p q r drawn =
    subst (λ x. AreDrawn x level h others) p
    (subst (λ x. AreDrawn patch level x others) q (subst (AreDrawn patch level g) r drawn))

-- frames that levels make, and others that are equal at each channel
pub drawn_alike : (patch : PatchMap) → All (λ e. IsTrue (is_channel e.1.0)) (maps.entries patch)
    → (level other : ℕ → ℕ)
    → ((channel : ℕ) → IsTrue (is_channel channel) → level channel ≡ other channel)
    → (grand : ℕ) (frames : List (List ℕ))
    → AreDrawn patch level grand frames → AreDrawn patch other grand frames
drawn_alike patch channels level other same grand frames drawn = λ ordinal lt.
    drawn ordinal lt
    ∙ ap Some (frame_of-same patch channels level other same grand ordinal)

-- before End, the frame is what the levels make
pub live_frame_is : (show : Tables) (history : List Act) (moment ordinal : ℕ)
    → ticks_since_end history ≡ None
    → frame show history moment ordinal ≡ frame_of show.patch (channel_level show history moment)
    (grand_after (settings history)) ordinal
unfolding frame
live_frame_is show history moment ordinal live = rw live refl

-- a tick makes the moves that are due by its moment, and then none is
pub channel_level-tick : (show : Tables) (history : List Act) (moment : ℕ)
    → ticks_since_end history ≡ None
    → channel_level show (record { moment = moment; call = tick } ∷ history) moment
    ≡ channel_level show history moment
channel_level-tick show history moment live =
    ap (λ made channel. merged_after show (settings history) channel
    (playback_level show made channel moment))
    (ap (λ ended. with_due show moment (moves_by show (is_some ended) moment (moves show history)))
    live ∙ with_due-again show moment (moves show history))

-- each of so many dark frames is dark
pub dark_at : (n ordinal : ℕ) → ordinal < n → slice_get (replicate n dark) ordinal ≡ Some dark
dark_at n ordinal lt =
    let size : length (replicate n dark) ≡ n = length-replicate n dark in
    let within : ordinal < length (replicate n dark) = omega arith in
    slice_get-get_or (replicate n dark) ordinal dark within
    ∙ ap Some (get_or-replicate n ordinal dark dark lt)
