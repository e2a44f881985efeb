use Rattle.desk_core.proofs.Terms.{◌≡◌, ℕ, IsTrue, ap, ◌∙◌, arith, rules, with_items, with_items_is}
use Rattle.desk_core.proofs.Terms.{is_channel, merged_after, listed_level, settings}
use Rattle.desk_core.proofs.desk.Desk.keep_floors.Goals as goal

pub returns-in-Stale-clause-stands : goal.returns-in-Stale-clause-stands
returns-in-Stale-clause-stands g c =
    rw (← c.self.view_is) (λ show base history stands.
    let written : (with_items c.self.inside.floors c.write_floors.new.floors).items
    ≡ c.write_floors.new.floors = with_items_is c.self.inside.floors c.write_floors.new.floors
    (omega (
      arith,
      c.write_floors.auto.floors,
      c.deref_mut.ensures.len,
      c.self.inside.floors.ok.0,
    )) in
    let floors_are : (channel : ℕ) → IsTrue (is_channel channel)
    → listed_level (with_items c.self.inside.floors c.write_floors.new.floors).items channel
    ≡ merged_after show (settings history) channel 0 = λ channel is.
    ap (λ fs. listed_level fs channel) written
    ∙ c.write_floors.ensures.levels (settings history) stands.masters_stand channel is
    ∙ ap (λ s. merged_after s (settings history) channel 0) stands.show_is in
    search rules)
