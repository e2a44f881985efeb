-- Scripts that are written out, by evaluation.
use Rattle.std.proofs.Common.{◌≡◌, ℕ, List, [], ◌∷◌, true, false, refl, codes}
use Rattle.std.specs.Prelude.{Ok, Err}
use Rattle.hex.proofs.OnLiterals.{hex_on_literals}
use Rattle.uuid.proofs.OnLiterals.{uuid_on_literals}
use Rattle.ascii_text.specs.Text.{words_of}
use Rattle.desk_core.specs.declared.command.Command.TheVariants.{Go, End}
use Rattle.desk_core.specs.declared.instruction.Instruction.TheVariants.{Plain}
use Rattle.wire_world.specs.declared.happening.Occurrence.TheVariants.{Order, Tick, Deliver, Show}
use Rattle.wire_world.specs.declared.happening.Occurrence.TheVariants as what
use Rattle.cmd_rehearse.specs.declared.said.Said.{Said}
use Rattle.cmd_rehearse.specs.declared.said.Said.TheVariants.{Nothing, Console, Receiver, Stray}
use Rattle.cmd_rehearse.specs.declared.said.Said.TheVariants.{Malformed}
use Rattle.cmd_rehearse.specs.Forms.{setup}
use Rattle.cmd_rehearse.specs.Said.{script_line, at}
use Rattle.cmd_rehearse.specs.Script.{script_of}

-- what a line says above all events
abbrev above : List ℕ → Said
above line = script_line false (words_of line)

-- the CID of the rows
abbrev cid : List ℕ
cid = 192 ∷ 255 ∷ 238 ∷ 0 ∷ 0 ∷ 0 ∷ 64 ∷ 0 ∷ 128 ∷ 0 ∷ 0 ∷ 0 ∷ 0 ∷ 0 ∷ 225 ∷ 49 ∷ []

headers : (above (codes "console 1 100 c0ffee00-0000-4000-8000-00000000e131")
    ≡ Console (setup 1 100 cid))
    × (above (codes "receiver 1") ≡ Receiver 1)
    × (above (codes "  ! receiver 1") ≡ Nothing)
unfolding uuid_on_literals
headers = (refl, refl, refl)

events : (above (codes "0 do 0 go") ≡ at 0 (Order 0 (Plain Go)))
    × (above (codes "5025 DO 0 end ! now") ≡ at 5025 (Order 0 (Plain End)))
    × (above (codes "1000 tick 0") ≡ at 1000 (Tick 0))
    × (above (codes "1000 deliver 0 0 1 0") ≡ at 1000 (Deliver 0 0 1 0))
    × (above (codes "2000 slots 0") ≡ at 2000 (Show 0))
    × (above (codes "7 stray 3 00ffAB") ≡ Stray 7 3 (0 ∷ 255 ∷ 171 ∷ []))
    × (above (codes "7 stray 3") ≡ Stray 7 3 [])
unfolding hex_on_literals
events = (refl, refl, refl, refl, refl, refl, refl)

malformed : (above (codes "console 0 100 c0ffee00-0000-4000-8000-00000000e131") ≡ Malformed)
    × (above (codes "console 1 201 c0ffee00-0000-4000-8000-00000000e131") ≡ Malformed)
    × (above (codes "receiver 64000") ≡ Malformed)
    × (script_line true (words_of (codes "receiver 1")) ≡ Malformed)
    × (above (codes "0 do 0 tick") ≡ Malformed)
    × (above (codes "0 tick 0 0") ≡ Malformed)
    × (above (codes "0 stray 0 abc") ≡ Malformed)
    × (above (codes "0 stray 0 00 00") ≡ Malformed)
    × (above (codes "0 deliver 0 0 1 1000000000000000") ≡ Malformed)
unfolding hex_on_literals uuid_on_literals
malformed = (refl, refl, refl, refl, refl, refl, refl, refl, refl)

-- a whole script, and one whose third line is malformed
abbrev basic : List ℕ
basic = codes "receiver 1\n\n0 do 0 go\n0 stray 0 c0\n2000 slots 0\n"

script : script_of basic ≡ Ok (record {
  consoles = [];
  receivers = 1 ∷ [];
  events = record { moment = 0; what = Order 0 (Plain Go) }
      ∷ record { moment = 0; what = what.Stray 0 0 1 }
      ∷ record { moment = 2000; what = Show 0 } ∷ [];
  strays = 192 ∷ [];
  lines = 3 ∷ 4 ∷ 5 ∷ [];
})
unfolding hex_on_literals
script = refl

third_line : script_of (codes "receiver 1\nreceiver 2\n0 do 0 jump\nreceiver 0") ≡ Err 3
third_line = refl
