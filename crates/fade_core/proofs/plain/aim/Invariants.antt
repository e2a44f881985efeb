use Rattle.std.proofs.Common.{◌≡◌, ℕ, ◌+◌, ◌-◌, ◌*◌, ◌<◌, ◌≤◌, get_or}
use Rattle.std.specs.Prelude.{All}
use Rattle.fade_core.specs.declared.channel_fade.ChannelFade.{ChannelFade}
use Rattle.fade_core.specs.Level.{byte_of, split_fade}
use Rattle.fade_core.specs.Plain.{IsUnderway, level_in}
use Rattle.fade_core.proofs.plain.aim.Given as goal

-- the channels so far go to their bytes, and the others as they went
abbrev pub invariant-loop-place : goal.invariant-loop-place
invariant-loop-place l = record {
  levels : (k later : ℕ) (none : ChannelFade) → k < l.place → level_in (get_or l.fades k none) later
      ≡ split_fade (level_in (get_or l.fn.fades k none) l.moment) (255 * byte_of l.look (k + 1))
      l.up l.down (later - l.moment);
  rest : (k : ℕ) (none : ChannelFade) → l.place ≤ k
      → get_or l.fades k none ≡ get_or l.fn.fades k none;
  underway : All (IsUnderway l.moment) l.fades;
}
