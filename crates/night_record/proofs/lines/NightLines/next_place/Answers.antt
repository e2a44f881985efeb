use Rattle.night_record.proofs.Coming.{asks_behind}
use Rattle.night_record.proofs.lines.NightLines.next_place.Goals as goal

pub returns-clause-place : goal.returns-clause-place
returns-clause-place c =
    asks_behind c.args.is_file c.args.self.now c.make_room.new.self c.make_room.ensures.keeps
    c.make_room.ensures.none c.make_room.ensures.front.0
