use Rattle.std.proofs.Common.{refl}
use Rattle.night_record.proofs.read.head_at_places.Goals as goal

pub returns : goal.returns
returns c =
    rw (
      c.head.ensures,
      c.show_in.ensures,
      c.cid_in.ensures,
      c.priority_in.ensures,
      c.base_in.ensures,
      c.new.ensures,
      c.started_in.ensures,
      c.split-7.ensures.behind,
      c.split-6.ensures.front,
      c.split-6.ensures.behind,
      c.saturating_sub.ensures,
      c.at_comma-2.ensures.before,
      c.at_comma-2.ensures.behind,
      c.at_comma.ensures.before,
      c.at_comma.ensures.behind,
      c.split-5.ensures.behind,
      c.split-4.ensures.front,
      c.split-4.ensures.behind,
      c.split-3.ensures.behind,
      c.split-2.ensures.front,
      c.split-2.ensures.behind,
      c.split.ensures.behind,
    ) refl
