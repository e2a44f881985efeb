-- Labels and texts of small shows, evaluated.
use Rattle.std.specs.Prelude.{◌≡◌, refl, codes, [], ◌∷◌, None}
use Rattle.std.specs.Fmt.{digits}
use Rattle.hex.specs.Hex.{encode_with}
use Rattle.show_line.specs.declared.statement.Record.TheVariants.{Cue, Group, Sub}
use Rattle.cmd_explain.specs.Decimals.{decimal_text}
use Rattle.cmd_cues.specs.Json.{items_text, string_text}
use Rattle.cmd_cues.specs.Labels.{label_after}
use Rattle.cmd_cues.specs.Table.{cue_table_line}

-- the last line stands first
labels : (label_after (codes "CUE 1 ! one" ∷ []) (Cue 1000) ≡ codes "one")
    × (label_after (codes "TEXT \"two\" ! no" ∷ codes "UP 5" ∷ codes "CUE 1 ! one" ∷ []) (Cue 1000)
    ≡ codes "two")
    × (label_after (codes "CUE 1 ! three" ∷ codes "text, two" ∷ codes "CUE 1 ! one" ∷ []) (Cue 1000)
    ≡ codes "two")
    × (label_after (codes "CUE 1" ∷ codes "CLEAR CUES" ∷ codes "CUE 1 ! one" ∷ []) (Cue 1000) ≡ [])
    × (label_after (codes "TEXT two" ∷ codes "IDENT 3:0" ∷ codes "SUB 1 ! <one>" ∷ []) (Sub 1)
    ≡ codes "one")
    × (label_after (codes "TEXT two" ∷ codes "GROUP 1 2" ∷ codes "GROUP 1" ∷ []) (Group 1) ≡ [])
labels = (refl, refl, refl, refl, refl, refl)

decimals : (decimal_text 1500 ≡ codes "1.5") × (decimal_text 2000 ≡ codes "2")
    × (decimal_text 50 ≡ codes "0.05") × (decimal_text 9999999 ≡ codes "9999.999")
unfolding digits
decimals = (refl, refl, refl, refl)

strings : string_text (34 ∷ 92 ∷ 9 ∷ 65 ∷ 233 ∷ []) ≡ codes "\"\\\"\\\\\\u0009A\\u00e9\""
unfolding encode_with
strings = refl

lines : cue_table_line (λ _. codes "dawn") (record {
  number = 250;
  up = record { time = 2500; delay = 0 };
  down = record { time = 90000; delay = 50 };
  follow = None;
  channels = 3;
})
    ≡ codes "    0.25      2.5        0       90     0.05        -         3  dawn\n"
unfolding digits
lines = refl

items : items_text (λ x. x ∷ []) (65 ∷ 66 ∷ []) ≡ codes "\nA,\nB"
items = refl
