-- Rehearsals that are written out, by evaluation.
use Rattle.std.proofs.Common.{◌≡◌, ℕ, zero, suc, List, [], ◌∷◌, ◌++◌, replicate, take, true, false}
use Rattle.std.proofs.Common.{refl, ap, ◌∙◌, codes, Some}
use Rattle.std.specs.Prelude.{Ok, slice_get}
use Rattle.std.specs.Fmt.{digits}
use Rattle.std.specs.List.{concat}
use Rattle.hex.proofs.OnLiterals.{hex_on_literals}
use Rattle.uuid.proofs.OnLiterals.{uuid_on_literals}
use Rattle.desk_core.specs.declared.answer.Refused.TheVariants.{TooSoon, AtEnd}
use Rattle.desk_core.specs.declared.answer.Ticked.TheVariants.{Live, Ending}
use Rattle.desk_core.specs.declared.command.Command.TheVariants.{Go}
use Rattle.desk_core.specs.declared.instruction.Instruction.TheVariants.{Plain}
use Rattle.sacn_packet.specs.declared.unreadable.Unreadable.TheVariants.{Short}
use Rattle.sacn_receiver.specs.declared.answer.Ignored.TheVariants.{OutOfSequence, Unreadable}
use Rattle.sacn_receiver.specs.declared.answer.Taken.{Taken}
use Rattle.sacn_source.specs.declared.offered.Offered.TheVariants.{Sent}
use Rattle.cmd_rehearse.specs.Forms.{setup}
use Rattle.cmd_rehearse.specs.Script.{Parts, script_of}
use Rattle.show_core.specs.Tables.{Tables}
use Rattle.wire_world.specs.declared.happening.Happening.{Happening}
use Rattle.wire_world.specs.declared.happening.Occurrence.{Occurrence}
use Rattle.wire_world.specs.declared.happening.Occurrence.TheVariants.{Order, Stray, Show}
use Rattle.wire_world.specs.declared.reply.Reply.{Reply}
use Rattle.wire_world.specs.declared.reply.Reply.TheVariants as reply
use Rattle.wire_world.specs.declared.reply.Skip.TheVariants.{Backwards, TooLarge, NoConsole}
use Rattle.wire_world.specs.declared.reply.Skip.TheVariants.{NoReceiver, NotSent}
use Rattle.wire_world.specs.Replies.{events_done, reply_to}
use Rattle.cmd_rehearse.specs.Printed.{AreLines, world}
use Rattle.cmd_rehearse.specs.Texts.{rehearsal_lines}

-- a frame with this first slot, and the others at 0
abbrev first_at : ℕ → List ℕ
first_at byte = byte ∷ replicate 511 0

-- ---- what is printed

abbrev text : List ℕ → List Reply → List (List ℕ) → List ℕ
text numbers replies last = concat (rehearsal_lines numbers replies last)

abbrev taken : ℕ → Taken
taken number = record { sequence = number; terminated = false }

rehearse_basic : text (3 ∷ 4 ∷ 5 ∷ 6 ∷ 7 ∷ 8 ∷ 9 ∷ 10 ∷ 11 ∷ 12 ∷ 13 ∷ 14 ∷ [])
    (reply.Done ∷ reply.Ticked Live ((1, Sent 0) ∷ []) ∷ reply.Taken (taken 0)
    ∷ reply.Ticked Live ((1, Sent 1) ∷ []) ∷ reply.Shown (first_at 51) ∷ reply.Taken (taken 1)
    ∷ reply.Shown (first_at 102) ∷ reply.Ignored OutOfSequence ∷ reply.Refused TooSoon
    ∷ reply.Done ∷ reply.Refused AtEnd ∷ reply.Skipped NotSent ∷ []) (first_at 102 ∷ [])
    ≡ codes "3 ok\n4 live 1:s0\n5 taken 0\n6 live 1:s1\n7 slots 1:51\n8 taken 1\n"
    ++ codes "9 slots 1:102\n10 ignored OutOfSequence\n11 refused TooSoon\n12 ok\n"
    ++ codes "13 refused AtEnd\n14 skipped NotSent\nend 0 slots 1:102\n"
unfolding digits
rehearse_basic = refl

rehearse_termination : text (3 ∷ 4 ∷ 5 ∷ 6 ∷ 7 ∷ 8 ∷ 9 ∷ [])
    (reply.Done ∷ reply.Ticked Live ((1, Sent 0) ∷ []) ∷ reply.Done
    ∷ reply.Ticked (Ending 1) ((1, Sent 1) ∷ [])
    ∷ reply.Taken (record { sequence = 1; terminated = true }) ∷ reply.Ignored OutOfSequence
    ∷ reply.Shown (first_at 0) ∷ []) (first_at 0 ∷ [])
    ≡ codes "3 ok\n4 live 1:s0\n5 ok\n6 ending 1 1:s1\n7 taken 1 terminated\n"
    ++ codes "8 ignored OutOfSequence\n9 slots\nend 0 slots\n"
unfolding digits
rehearse_termination = refl

-- ---- a whole rehearsal, over any show: nothing in it depends on the show

abbrev script : List ℕ
script =
    codes "console 1 100 c0ffee00-0000-4000-8000-00000000e131\nreceiver 1\n0 do 1 go\n"
    ++ codes "0 slots 1\n\n5 slots 0\n4 slots 0 ! back\n281474976710656 slots 0\n5 stray 0 c0ff\n"

abbrev at : ℕ → Occurrence → Happening
at t x = record { moment = t; what = x }

abbrev parts : Parts
parts = record {
  consoles = setup 1 100
      (192 ∷ 255 ∷ 238 ∷ 0 ∷ 0 ∷ 0 ∷ 64 ∷ 0 ∷ 128 ∷ 0 ∷ 0 ∷ 0 ∷ 0 ∷ 0 ∷ 225 ∷ 49 ∷ []) ∷ [];
  receivers = 1 ∷ [];
  events = at 0 (Order 1 (Plain Go)) ∷ at 0 (Show 1) ∷ at 5 (Show 0) ∷ at 4 (Show 0)
      ∷ at 281474976710656 (Show 0) ∷ at 5 (Stray 0 0 2) ∷ [];
  strays = 192 ∷ 255 ∷ [];
  lines = 3 ∷ 4 ∷ 6 ∷ 7 ∷ 8 ∷ 9 ∷ [];
}

script_is : script_of script ≡ Ok parts
unfolding hex_on_literals uuid_on_literals
script_is = refl

abbrev replies : List Reply
replies = reply.Skipped NoConsole ∷ reply.Skipped NoReceiver ∷ reply.Shown (first_at 0)
    ∷ reply.Skipped Backwards ∷ reply.Skipped TooLarge ∷ reply.Ignored (Unreadable Short) ∷ []

-- the reply to event j, where these events are the ones before it
replied : (s : Tables) (j : ℕ) (said : Reply) (first e : Happening)
    → said ≡ reply_to (world s parts) (events_done (world s parts) (take j parts.events)) first
    → Some first ≡ Some e
    → Some said ≡ Some (reply_to (world s parts)
    (events_done (world s parts) (take j parts.events)) e)
replied s j said first e is same =
    let alike : first ≡ e = cc in
    ap Some (is ∙ ap (reply_to (world s parts) (events_done (world s parts) (take j parts.events)))
    alike)

each : (s : Tables) (j : ℕ) (e : Happening) → slice_get parts.events j ≡ Some e
    → slice_get replies j
    ≡ Some (reply_to (world s parts) (events_done (world s parts) (take j parts.events)) e)
each s zero e is = replied s 0 _ _ e refl is
each s (suc zero) e is = replied s 1 _ _ e refl is
each s (suc (suc zero)) e is = replied s 2 _ _ e refl is
each s (suc (suc (suc zero))) e is = replied s 3 _ _ e refl is
each s (suc (suc (suc (suc zero)))) e is = replied s 4 _ _ e refl is
each s (suc (suc (suc (suc (suc zero))))) e is = replied s 5 _ _ e refl is
each s (suc (suc (suc (suc (suc (suc j)))))) e is = cc

skips : (s : Tables) → AreLines s parts (rehearsal_lines parts.lines replies (first_at 0 ∷ []))
skips s = record {
  report = record { replies = replies; last = first_at 0 ∷ [] };
  came = record { replies = (refl, each s); last = refl };
  are = refl;
}

skips_text : text parts.lines replies (first_at 0 ∷ [])
    ≡ codes "3 skipped NoConsole\n4 skipped NoReceiver\n6 slots\n7 skipped Backwards\n"
    ++ codes "8 skipped TooLarge\n9 ignored Unreadable Short\nend 0 slots\n"
unfolding digits
skips_text = refl
