-- A tick before End, from the playback and the frames that it leaves.
use Rattle.desk_core.proofs.Terms.{◌≡◌, ℕ, ◌≤◌, Bool, false, List, ◌∷◌, Some, None, IsTrue, is_some}
use Rattle.desk_core.proofs.Terms.{refl, sym, subst, ap, ◌∙◌, arith, Contains, max, is_channel, PatchMap}
use Rattle.desk_core.proofs.Terms.{Tables, Start, Move, moves_by, playback_level, with_due}
use Rattle.desk_core.proofs.Terms.{PlaybackState, none_made, is_by-before, merged_after, Setting}
use Rattle.desk_core.proofs.Terms.{grand_after, listed_level, AreDrawn, DeskState, Act, ticks_since_end}
use Rattle.desk_core.proofs.Terms.{moves, settings, tick, channel_level, StandsFor, IsKeptBut}
use Rattle.playback_core.specs.Stands as playback
use Rattle.master_core.specs.Settings as masters
use Rattle.desk_core.proofs.Drawn.{drawn_same, live_frame_is, merged_level, channel_level-tick}

-- a desk after a tick, by what it then plays and shows
abbrev ticked_desk : {F : Type 0} → ℕ → DeskState F → PlaybackState F → List (List ℕ) → Bool
    → DeskState F
ticked_desk moment desk playing frames is_kept = record desk {
  playback = playing;
  last_moment = moment;
  last_tick = Some moment;
  frames = frames;
  is_kept = is_kept;
}

module _ {F : Type 0} {fader_stands_for : F → List Start → Type 0} {show : Tables} {base : ℕ}
    {history : List Act} {desk : DeskState F} (moment : ℕ)
    (stands : StandsFor fader_stands_for show base desk history) (live : desk.ended ≡ None) where
  none_ended : ticks_since_end history ≡ None
  none_ended = sym stands.ended_is ∙ live

  -- the playback was not stopped
  pub not_stopped : playback.StandsFor fader_stands_for show desk.playback (moves show history)
      false
  not_stopped =
      subst (λ e. playback.StandsFor fader_stands_for show desk.playback (moves show history)
      (is_some e)) none_ended stands.playback_stands

  -- frames that are drawn at the tick's levels are what the show means
  pub ticked : (playing : PlaybackState F) (frames : List (List ℕ)) (is_kept : Bool)
      → playback.StandsFor fader_stands_for show playing
      (with_due show moment (moves show history)) false
      → AreDrawn show.patch (channel_level show history moment) (grand_after (settings history))
      frames
      → StandsFor fader_stands_for show base (ticked_desk moment desk playing frames is_kept)
      (record { moment = moment; call = tick } ∷ history)
  ticked playing frames is_kept moved drawn = record {
    show_is = stands.show_is;
    base_is = stands.base_is;
    playback_stands = rw none_ended moved;
    masters_stand = stands.masters_stand;
    moment_is = refl;
    tick_is = refl;
    ended_is = rw (stands.ended_is, none_ended) refl;
    frames_are = λ ordinal lt. drawn ordinal lt
        ∙ ap Some (sym (live_frame_is show history moment ordinal none_ended));
    floors_are = stands.floors_are;
    kept = λ _. subst
        (λ level. AreDrawn show.patch level (grand_after (settings history)) frames)
        (sym (channel_level-tick show history moment none_ended)) drawn;
  }

  -- frames that a rig draws of a playback that has moved on, over the floors that are kept
  pub redrawn : (latest : F → ℕ) {playing : PlaybackState F} {floors : List ℕ} {patch : PatchMap}
      {grand : ℕ} {drawn frames : List (List ℕ)} (is_kept : Bool) → IsTrue desk.are_floors
      → ((made : List Move) (stopped : Bool)
      → playback.StandsFor fader_stands_for desk.show desk.playback made stopped
      → playback.StandsFor fader_stands_for desk.show playing
      (moves_by desk.show stopped moment made) stopped)
      → latest playing.fader ≡ moment → floors ≡ desk.floors → patch ≡ desk.show.patch
      → ((made : List Setting) → masters.StandsFor desk.masters made → grand ≡ grand_after made)
      → frames ≡ drawn
      → (playback.StandsFor fader_stands_for show playing
      (with_due show moment (moves show history)) false
      → ((channel : ℕ) → IsTrue (is_channel channel)
      → max (playback_level show (with_due show moment (moves show history)) channel
      (latest playing.fader)) (listed_level floors channel)
      ≡ channel_level show history moment channel)
      → AreDrawn patch (channel_level show history moment) grand drawn)
      → StandsFor fader_stands_for show base (ticked_desk moment desk playing frames is_kept)
      (record { moment = moment; call = tick } ∷ history)
  redrawn latest {playing} {floors} {patch} {grand} {drawn} {frames} is_kept are advanced at same
      patch_is grand_is frames_are draws =
      let now = with_due show moment (moves show history) in
      let moved : playback.StandsFor fader_stands_for show playing now false =
      (rw stands.show_is at advanced) (moves show history) false not_stopped in
      ticked playing frames is_kept moved
      (drawn_same patch show.patch (channel_level show history moment) grand
      (grand_after (settings history)) drawn frames (patch_is ∙ ap (λ s. s.patch) stands.show_is)
      (grand_is (settings history) stands.masters_stand) (sym frames_are)
      (draws moved (λ channel is.
      merged_level show history now floors channel moment (latest playing.fader) _ refl at
      (ap (λ fs. listed_level fs channel) same ∙ stands.floors_are are channel is))))

  module _ {latest : F → ℕ} {channels : List ℕ}
      (but : IsKeptBut fader_stands_for latest desk moment channels)
      (not_ahead : latest desk.playback.fader ≤ desk.last_moment)
      (later : desk.last_moment ≤ moment) where
    -- no move is made
    pub none_made_now : with_due show moment (moves show history) ≡ moves show history
    none_made_now =
        none_made show moment desk.playback.due (moves show history) not_stopped.due but.none_due

    same_level : (channel at : ℕ) → IsTrue (is_channel channel) → ¬ Contains channels channel
        → desk.last_moment ≤ at
        → with_due show at (moves show history) ≡ moves show history
        → channel_level show history at channel
        ≡ merged_after show (settings history) channel
        (playback_level show (moves show history) channel (latest desk.playback.fader))
    same_level channel at is lacks le same =
        ap (λ ms. merged_after show (settings history) channel
        (playback_level show ms channel at)) same
        ∙ ap (merged_after show (settings history) channel)
        (but.others show (moves show history) false not_stopped channel at is lacks (omega arith))

    -- each other channel has the level that it had
    pub others_stay : (channel : ℕ) → IsTrue (is_channel channel) → ¬ Contains channels channel
        → channel_level show history desk.last_moment channel
        ≡ channel_level show history moment channel
    others_stay channel is lacks =
        same_level channel desk.last_moment is lacks (omega arith)
        (none_made show desk.last_moment desk.playback.due (moves show history) not_stopped.due
        (is_by-before desk.playback.due desk.last_moment moment later but.none_due))
        ∙ sym (same_level channel moment is lacks later none_made_now)
