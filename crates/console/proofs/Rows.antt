-- Input lines and answers, evaluated.
use Rattle.std.specs.Prelude.{◌≡◌, refl, codes, [], ◌∷◌, Some, None}
use Rattle.std.specs.Fmt.{digits}
use Rattle.desk_core.specs.declared.answer.Refused.TheVariants.{AtStart}
use Rattle.desk_core.specs.declared.answer.Ticked.TheVariants.{Live, Ending}
use Rattle.desk_core.specs.declared.command.Command.TheVariants.{Go, Goto, Sub, Group, Master}
use Rattle.desk_core.specs.declared.instruction.Instruction.TheVariants.{Plain, GotoIn}
use Rattle.master_core.specs.Settings.{grand_setting, group_setting, sub_setting}
use Rattle.sacn_source.specs.declared.offered.Offered.TheVariants.{Sent, Lost, Quiet}
use Rattle.console.specs.declared.call.Call.TheVariants.{Order, Tick}
use Rattle.console.specs.declared.reading.Reading.TheVariants.{Blank, Malformed, At}
use Rattle.console.specs.Spelling.{reading_of}
use Rattle.console.specs.CueLine.{cue_line}
use Rattle.console.specs.WhereLine.{groups_text, subs_text, where_line}
use Rattle.console.specs.Texts.{done_text, moment_line, refused_text, ticked_text}

calls : (reading_of (codes "0 go") ≡ At 0 (Order (Plain Go)))
    × (reading_of (codes "2500 TICK ! now") ≡ At 2500 Tick)
    × (reading_of (codes "5 sub 65535 FL") ≡ At 5 (Order (Plain (Sub 65535 255))))
    × (reading_of (codes "5 group 0 50") ≡ At 5 (Order (Plain (Group 0 128))))
    × (reading_of (codes "007 goto 1.5") ≡ At 7 (Order (Plain (Goto 1500))))
    × (reading_of (codes "7 goto 13 in 0") ≡ At 7 (Order (GotoIn 13000 0)))
    × (reading_of (codes "7 GOTO .5 In 1:30.5") ≡ At 7 (Order (GotoIn 500 90500)))
    × (reading_of (codes "7 goto 13 in 99:59.99") ≡ At 7 (Order (GotoIn 13000 5999990)))
    × (reading_of (codes "1 master H80") ≡ At 1 (Order (Plain (Master 128))))
    × (reading_of (codes "  ! 0 go") ≡ Blank)
calls = (refl, refl, refl, refl, refl, refl, refl, refl, refl, refl)

malformed : (reading_of (codes "5 jump") ≡ Malformed)
    × (reading_of (codes "0 sub 65536 FL") ≡ Malformed)
    × (reading_of (codes "1000000000000000 go") ≡ Malformed)
    × (reading_of (codes "0 go 1") ≡ Malformed)
    × (reading_of (codes "0 tick 1") ≡ Malformed)
    × (reading_of (codes "0") ≡ Malformed)
    × (reading_of (codes "0 goto 13 in") ≡ Malformed)
    × (reading_of (codes "0 goto 13 in x") ≡ Malformed)
    × (reading_of (codes "0 goto 13 to 4") ≡ Malformed)
    × (reading_of (codes "0 goto 13 in 4 5") ≡ Malformed)
    × (reading_of (codes "0 goto 13 in 6000") ≡ Malformed)
    × (reading_of (codes "0 master 13 in 4") ≡ Malformed)
malformed = (refl, refl, refl, refl, refl, refl, refl, refl, refl, refl, refl, refl)

answers : (moment_line 0 done_text ≡ codes "0 ok\n")
    × (moment_line 0 (refused_text AtStart) ≡ codes "0 refused AtStart\n")
    × (moment_line 25 (ticked_text Live ((1, Lost 1) ∷ (2, Quiet) ∷ []))
    ≡ codes "25 live 1:x1 2:-\n")
    × (moment_line 23 (ticked_text (Ending 2) ((1, Sent 1) ∷ [])) ≡ codes "23 ending 2 1:s1\n")
unfolding digits
answers = (refl, refl, refl, refl)

moves : (cue_line 0 1000 ≡ codes "0 cue 1\n") × (cue_line 25 1500 ≡ codes "25 cue 1.5\n")
    × (cue_line 10000 12250 ≡ codes "10000 cue 12.25\n")
    × (cue_line 7 999905 ≡ codes "7 cue 999.905\n") × (cue_line 7 1 ≡ codes "7 cue 0.001\n")
unfolding digits
moves = (refl, refl, refl, refl, refl)

wheres : (where_line 0 None (Some 1000) [] ≡ codes "0 where next 1 master 255\n")
    × (where_line 1500 (Some 4000) (Some 4500) (group_setting 1 255 ∷ sub_setting 3 128 ∷
    sub_setting 2 0 ∷ sub_setting 100 1 ∷ grand_setting 7 ∷ [])
    ≡ codes "1500 where cue 4 next 4.5 master 7 sub 3:128 sub 100:1 group 1:255\n")
    × (where_line 9 (Some 13250) None (grand_setting 0 ∷ grand_setting 7 ∷ [])
    ≡ codes "9 where cue 13.25 master 0\n")
unfolding digits subs_text groups_text
wheres = (refl, refl, refl)
