use Rattle.desk_core.proofs.desk.Desk.tick_moving.Goals as goal

pub returns-in_default : goal.returns-in_default
returns-in_default g c = λ show base history stands.
    c.tick_all.ensures show base history (c.keep_floors.ensures.stands show base history stands)

pub returns-in-Some : goal.returns-in-Some
returns-in-Some g c = λ show base history stands.
    c.tick_few.ensures show base history (c.keep_floors.ensures.stands show base history stands)
