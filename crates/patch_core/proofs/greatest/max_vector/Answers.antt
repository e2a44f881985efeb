use Rattle.patch_core.proofs.Terms.{◌∙◌, ◌-◌, max, arith, length-chunk, get_or-put_chunk_below}
use Rattle.patch_core.proofs.Terms.{get_or-put_chunk_above}
use Rattle.patch_core.proofs.Vectors.{stored, loaded}
use Rattle.patch_core.proofs.greatest.max_vector.Goals as goal

pub greater-most-requires : goal.greater-most-requires
greater-most-requires c = (
  length-chunk c.args.from 32 c.args.a.now c.requires.0,
  length-chunk c.args.from 32 c.args.b.now c.requires.1,
)

pub returns-clause-before : goal.returns-clause-before
returns-clause-before c = λ s lt. get_or-put_chunk_below c.args.from c.args.a.now _ s 0 lt

pub returns-clause-greatest : goal.returns-clause-greatest
returns-clause-greatest c = λ s low high.
    stored c.args.a.now _ c.args.from s c.greater-most.ensures.long c.requires.0 low high
    ∙ c.greater-most.ensures.each (s - c.args.from) (omega arith)
    ∙ (λ i. max (loaded c.args.a.now c.args.from s low high i)
    (loaded c.args.b.now c.args.from s low high i))

pub returns-clause-after : goal.returns-clause-after
returns-clause-after c = λ s le.
    get_or-put_chunk_above c.args.from c.args.a.now _ s 0
    (omega (arith, c.greater-most.ensures.long))
