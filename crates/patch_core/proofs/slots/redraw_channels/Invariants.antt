use Rattle.patch_core.proofs.Terms.{◌≡◌, ◌≢◌, ℕ, ◌<◌, ◌≤◌, IsTrue, get_or, length, Some, All, is_channel}
use Rattle.patch_core.proofs.Terms.{is_dimmer, PatchMap, listed_level, dimmer_slot, IsIndex, slot_at}
use Rattle.std.specs.FinMap as map
use Rattle.patch_core.proofs.slots.redraw_channels.Given as goal

-- each slot is that of its dimmer, but for those of the channels that are still to come
abbrev pub invariant-loop-channel : goal.invariant-loop-channel
invariant-loop-channel l = (patch : PatchMap) (before after : ℕ → ℕ) → IsIndex (map.entries patch)
    l.by_channel.dimmers.now l.by_channel.begins.now
    → All (λ e. IsTrue (is_channel e.1.0)) (map.entries patch)
    → ((dimmer : ℕ) → IsTrue (is_dimmer dimmer) → slot_at l.fn.slots dimmer
    ≡ dimmer_slot patch before l.grand dimmer)
    → ((channel : ℕ) → IsTrue (is_channel channel)
    → ((m : ℕ) → m < length l.channels → get_or l.channels m 0 ≢ channel)
    → before channel ≡ after channel)
    → All (λ channel. listed_level l.levels channel ≡ after channel) l.channels
    → (dimmer : ℕ) → IsTrue (is_dimmer dimmer)
    → ((channel byte m : ℕ) → map.get patch dimmer ≡ Some (channel, byte) → l.channel-index ≤ m
    → m < length l.channels → get_or l.channels m 0 ≢ channel)
    → slot_at l.slots dimmer ≡ dimmer_slot patch after l.grand dimmer
