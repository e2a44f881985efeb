-- The pairs of CHAN and the triples of PATCH.
use Rattle.std.specs.Prelude.{ℕ, List, [], ◌∷◌, Option, Some, None, unwrap_or}
use Rattle.ascii_text.specs.Forms.{number_of, level_of}
use Rattle.show_line.specs.declared.fault.LineFault.{LineFault}
use Rattle.show_line.specs.declared.fault.LineFault.TheVariants.{HalfPair, HalfTriple}
use Rattle.show_line.specs.declared.triples.Triple.{Triple}
use Rattle.show_line.specs.Faults.{lower, number_fault, level_fault}

-- how many channels and dimmers a desk has room for
pub record Limits : Type 0 where
  pub channels : ℕ
  pub dimmers : ℕ

-- the room of this desk: 4,096 channels and 8,192 dimmers
abbrev pub desk_limits : Limits
desk_limits = record { channels = 4096; dimmers = 8192 }

-- the lowest fault of the words of CHAN: channel, level, channel, level ..
abbrev pub pair_fault : Limits → List (List ℕ) → Option LineFault
pair_fault lim [] = None
pair_fault lim (channel ∷ []) = lower (number_fault 1 lim.channels channel) (Some HalfPair)
pair_fault lim (channel ∷ level ∷ words) =
    lower (lower (number_fault 1 lim.channels channel) (level_fault level)) (pair_fault lim words)

-- the pairs that the words of CHAN spell
abbrev pub pairs_in : List (List ℕ) → List (ℕ × ℕ)
pairs_in (channel ∷ level ∷ words) =
    (unwrap_or (number_of channel) 0, unwrap_or (level_of level) 0) ∷ pairs_in words
pairs_in _ = []

-- the lowest fault of the words of PATCH behind the page: channel, dimmer, level, and so on;
-- channel 0 leaves a dimmer unpatched
abbrev pub triple_fault : Limits → List (List ℕ) → Option LineFault
triple_fault lim [] = None
triple_fault lim (channel ∷ []) = lower (number_fault 0 lim.channels channel) (Some HalfTriple)
triple_fault lim (channel ∷ dimmer ∷ []) =
    lower (lower (number_fault 0 lim.channels channel) (number_fault 1 lim.dimmers dimmer))
    (Some HalfTriple)
triple_fault lim (channel ∷ dimmer ∷ level ∷ words) =
    lower
    (lower
    (lower (number_fault 0 lim.channels channel) (number_fault 1 lim.dimmers dimmer))
    (level_fault level))
    (triple_fault lim words)

-- the triples that they spell
abbrev pub triples_in : List (List ℕ) → List Triple
triples_in (channel ∷ dimmer ∷ level ∷ words) =
    record {
      channel = unwrap_or (number_of channel) 0;
      dimmer = unwrap_or (number_of dimmer) 0;
      level = unwrap_or (level_of level) 0;
    } ∷ triples_in words
triples_in _ = []
