-- What is printed of a console's answers.
use Rattle.std.specs.Prelude.{ℕ, List, ◌++◌, codes, decimal, flat_map}
use Rattle.desk_core.specs.declared.answer.Refused.{Refused}
use Rattle.desk_core.specs.declared.answer.Refused.TheVariants.{Backwards, MomentTooLarge, Ended}
use Rattle.desk_core.specs.declared.answer.Refused.TheVariants.{TooSoon}
use Rattle.desk_core.specs.declared.answer.Refused.TheVariants.{AtEnd, AtStart, NoCue, NoSub}
use Rattle.desk_core.specs.declared.answer.Refused.TheVariants.{NoGroup}
use Rattle.desk_core.specs.declared.answer.Ticked.{Ticked}
use Rattle.desk_core.specs.declared.answer.Ticked.TheVariants.{Live, Ending}
use Rattle.sacn_source.specs.declared.offered.Offered.{Offered}
use Rattle.sacn_source.specs.declared.offered.Offered.TheVariants.{Sent, Lost, Quiet}

-- a refusal, by its name
abbrev pub refused_name : Refused → List ℕ
refused_name Backwards = codes "Backwards"
refused_name MomentTooLarge = codes "MomentTooLarge"
refused_name Ended = codes "Ended"
refused_name TooSoon = codes "TooSoon"
refused_name AtEnd = codes "AtEnd"
refused_name AtStart = codes "AtStart"
refused_name NoCue = codes "NoCue"
refused_name NoSub = codes "NoSub"
refused_name NoGroup = codes "NoGroup"

-- an accepted command
abbrev pub done_text : List ℕ
done_text = codes "ok"

-- a refused command or tick
abbrev pub refused_text : Refused → List ℕ
refused_text refused = codes "refused " ++ refused_name refused

-- what became of an offer: sent or lost with the packet's number, or nothing was due
abbrev pub outcome_text : Offered → List ℕ
outcome_text (Sent number) = codes ":s" ++ decimal number
outcome_text (Lost number) = codes ":x" ++ decimal number
outcome_text Quiet = codes ":-"

-- a universe and what became of its offer
abbrev pub pair_text : ℕ × Offered → List ℕ
pair_text (universe, offered) = codes " " ++ decimal universe ++ outcome_text offered

-- what a tick is
abbrev pub ticked_name : Ticked → List ℕ
ticked_name Live = codes "live"
ticked_name (Ending number) = codes "ending " ++ decimal number

-- an accepted tick with its offers
abbrev pub ticked_text : Ticked → List (ℕ × Offered) → List ℕ
ticked_text ticked offers = ticked_name ticked ++ flat_map pair_text offers

-- a line that a number begins: the moment of a call
abbrev pub moment_line : ℕ → List ℕ → List ℕ
moment_line number text = decimal number ++ codes " " ++ text ++ codes "\n"
