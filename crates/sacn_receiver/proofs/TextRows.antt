-- Replies and slots lines, evaluated.
use Rattle.std.specs.Prelude.{◌≡◌, refl, codes, [], ◌∷◌, replicate, true, false, Ok, Err}
use Rattle.std.specs.Fmt.{digits}
use Rattle.sacn_packet.specs.declared.unreadable.Unreadable.TheVariants.{Short}
use Rattle.sacn_receiver.specs.declared.answer.Ignored.TheVariants.{OutOfSequence, Unreadable}
use Rattle.sacn_receiver.specs.Replies.{receiver_reply, slots_line, end_line}

replies : (receiver_reply (Ok (record { sequence = 163; terminated = false })) ≡ codes "taken 163")
    × (receiver_reply (Ok (record { sequence = 1; terminated = true }))
    ≡ codes "taken 1 terminated")
    × (receiver_reply (Err OutOfSequence) ≡ codes "ignored OutOfSequence")
    × (receiver_reply (Err (Unreadable Short)) ≡ codes "ignored Unreadable Short")
unfolding digits
replies = (refl, refl, refl, refl)

slots : (slots_line (0 ∷ 255 ∷ 0 ∷ 7 ∷ []) ≡ codes "slots 2:255 4:7\n")
    × (end_line 0 (102 ∷ replicate 511 0) ≡ codes "end 0 slots 1:102\n")
    × (end_line 7 (replicate 512 0) ≡ codes "end 7 slots\n")
unfolding digits
slots = (refl, refl, refl)
