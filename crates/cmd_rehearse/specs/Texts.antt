-- What is printed of a rehearsal: a line for each event, and at the end one for each receiver.
use Rattle.std.specs.Prelude.{ℕ, List, ◌++◌, map, Ok, Err, codes}
use Rattle.std.specs.List.{enumerate_from, zip}
use Rattle.console.specs.Texts.{done_text, refused_text, ticked_text, moment_line}
use Rattle.sacn_receiver.specs.Replies.{receiver_reply as datagram_text, lit_slots_text, end_line}
use Rattle.wire_world.specs.declared.reply.Skip.{Skip}
use Rattle.wire_world.specs.declared.reply.Skip.TheVariants.{Backwards, TooLarge, NoConsole}
use Rattle.wire_world.specs.declared.reply.Skip.TheVariants.{NoReceiver, NotSent}
use Rattle.wire_world.specs.declared.reply.Reply.{Reply}
use Rattle.wire_world.specs.declared.reply.Reply.TheVariants as reply

-- why an event was skipped, by its name
abbrev pub skip_name : Skip → List ℕ
skip_name Backwards = codes "Backwards"
skip_name TooLarge = codes "TooLarge"
skip_name NoConsole = codes "NoConsole"
skip_name NoReceiver = codes "NoReceiver"
skip_name NotSent = codes "NotSent"

-- a skipped event
abbrev pub skip_text : Skip → List ℕ
skip_text skip = codes "skipped " ++ skip_name skip

-- the reply to an event
abbrev pub reply_text : Reply → List ℕ
reply_text reply.Done = done_text
reply_text (reply.Refused refused) = refused_text refused
reply_text (reply.Ticked ticked offers) = ticked_text ticked offers
reply_text (reply.Taken taken) = datagram_text (Ok taken)
reply_text (reply.Ignored ignored) = datagram_text (Err ignored)
reply_text (reply.Shown slots) = lit_slots_text slots
reply_text (reply.Skipped skip) = skip_text skip

-- the line of an event: the number of its line in the script, and the reply to it
abbrev pub event_line : ℕ × Reply → List ℕ
event_line (number, reply) = moment_line number (reply_text reply)

-- the lines of events, from the numbers of their lines and the replies to them
abbrev pub event_lines : List ℕ → List Reply → List (List ℕ)
event_lines numbers replies = map event_line (zip numbers replies)

-- the lines of the receivers, from their slots after all events
abbrev pub end_lines : List (List ℕ) → List (List ℕ)
end_lines last = map (λ p. end_line p.0 p.1) (enumerate_from 0 last)

-- the lines of a rehearsal: those of its events, and then those of its receivers
abbrev pub rehearsal_lines : List ℕ → List Reply → List (List ℕ) → List (List ℕ)
rehearsal_lines numbers replies last = event_lines numbers replies ++ end_lines last
