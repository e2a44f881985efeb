use Rattle.cmd_listen.proofs.Terms.{ℕ, ◌+◌, ◌≡◌, List, ◌++◌, length, take, codes, Result, ap, ◌∙◌}
use Rattle.cmd_listen.proofs.Terms.{inr, refl, decimal, with_more, Taken, Ignored, Entry, answer}
use Rattle.cmd_listen.proofs.Terms.{receiver_reply, history_at_0, reply_line, NextFails}
use Rattle.std.proofs.Common.{Ok, Err}
use Rattle.std.proofs.Common.{OnErr}
use Rattle.cmd_listen.proofs.listening.reply_to_next.Goals as goal

on_err : {T E : Type 0} (P : Type 0) (r : Result T E) → P → OnErr r P
on_err P (Ok x) p = tt
on_err P (Err e) p = p

-- the reply, where the receiver is one of the universe
answered_at : (u universe : ℕ) (h : List Entry) (datagram : List ℕ) (reply : Result Taken Ignored)
    → u ≡ universe → reply ≡ answer 4 u h 0 datagram → reply ≡ answer 4 universe h 0 datagram
answered_at u universe h datagram reply is answered = rw (answered, is) refl

-- the line that was written is that of the datagram
line_is : (universe : ℕ) (datagram : List ℕ) (older : List (List ℕ)) (number : ℕ)
    (reply : Result Taken Ignored) (line : List ℕ)
    → number ≡ length older + 1 → reply ≡ answer 4 universe (history_at_0 universe older) 0 datagram
    → line ≡ decimal number ++ codes " " ++ receiver_reply reply ++ codes "\n"
    → line ≡ reply_line universe datagram older
line_is universe datagram older number reply line numbered answered is =
    rw (is, numbered, answered) refl

pub returns-in_err-write-clause-err : goal.returns-in_err-write-clause-err
returns-in_err-write-clause-err g c =
    let fails : g.D.Datagrams.tells c.receive.new.self → g.W.Output.tells c.write.new.self
    → NextFails
    (g.D.Datagrams.tape c.args.source.now) (g.D.Datagrams.tape c.receive.new.self)
    (g.W.Output.tape c.args.out.now) (g.W.Output.tape c.write.new.self)
    = λ source_tells output_tells. inr (
      take c.in_ok-length.length c.receive.new.buf,
      c.in_ok-length.ensures.ok source_tells,
      c.in_err-write.ensures.err output_tells,
    ) in on_err _ _ fails

pub returns-clause-ok : goal.returns-clause-ok
returns-clause-ok g c = λ universe older universe_is numbered stands.
    let datagram = take c.in_ok-length.length c.receive.new.buf in
    let answered = answered_at c.args.receiver.now.universe universe (history_at_0 universe older)
    datagram c.take-reply.result
    universe_is (c.take-reply.ensures.answer (history_at_0 universe older) stands) in (
      datagram,
      rw universe_is at (c.take-reply.ensures.heard (history_at_0 universe older) stands),
      λ tells. c.in_ok-length.ensures.ok tells,
      λ tells.
          let line = c.as_bytes.ensures.value ∙ c.as_str.ensures.value ∙ c.reply_line.ensures in
          c.in_ok-write.ensures.ok tells ∙ ap (with_more (g.W.Output.tape c.args.out.now))
          (line_is universe datagram older c.from.result c.take-reply.result _
          (c.from.ensures ∙ numbered) answered line),
    )
