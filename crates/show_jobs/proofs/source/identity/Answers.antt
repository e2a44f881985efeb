use Rattle.show_jobs.proofs.source.identity.Goals as goal

pub returns-in_default : goal.returns-in_default
returns-in_default c = (
  λ named. c.in_default.ensures (rw c.source_name.ensures named),
  c.plain.ensures,
)
