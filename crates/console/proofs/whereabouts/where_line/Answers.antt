use Rattle.std.proofs.Common.{append_assoc, refl}
use Rattle.console.proofs.whereabouts.where_line.Goals as goal

pub returns : goal.returns
returns c = λ settings stands.
    rw (
      c.push_str-5.ensures.bytes,
      c.push_groups.ensures.text settings stands,
      c.push_subs.ensures.text settings stands,
      c.push_str-4.ensures.bytes,
      c.format-2.ensures.text,
      c.grand.ensures settings stands,
      c.push_str-3.ensures.bytes,
      c.push_cue-2.ensures.text,
      c.push_cue.ensures.text,
      c.push_str-2.ensures.bytes,
      c.push_str.ensures.bytes,
      c.format.ensures.text,
      c.new-line.ensures,
    )
    (simp append_assoc refl)
