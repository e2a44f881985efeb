use Rattle.live_input.proofs.typed.TypedLines.next_line.Goals as goal

pub returns-in-Some-clause-takes : goal.returns-in-Some-clause-takes
returns-in-Some-clause-takes c = λ bytes taken stands.
    c.in-Some.ensures.takes bytes taken (c.loop-self.invariant bytes taken stands)
