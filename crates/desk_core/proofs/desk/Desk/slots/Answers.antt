use Rattle.desk_core.proofs.Terms.{◌≡◌, ◌<◌, ◌-◌, ◌/◌, [], length, get_or, ap, ◌∙◌, arith}
use Rattle.desk_core.proofs.Terms.{get_or_from_slice_get, frames_in, chunks_are, latest_frame}
use Rattle.desk_core.proofs.Universes.{number_of}
use Rattle.desk_core.proofs.desk.Desk.slots.Goals as goal

pub overflow_sub-universe : goal.overflow_sub-universe
overflow_sub-universe g c =
    let number = number_of c.args.self.now.show.patch c.args.self.now.base c.args.universe
    c.requires in
    omega (arith, number.0, ap (λ d. d.base) c.self.view_is)

pub bounds-as_chunks-from : goal.bounds-as_chunks-from
bounds-as_chunks-from g c =
    let number = number_of c.args.self.now.show.patch c.args.self.now.base c.args.universe
    c.requires in
    omega (
      arith,
      number.1,
      ap (λ d. d.base) c.self.view_is,
      c.as_chunks.ensures.front_len,
      c.deref.ensures.len,
      c.self.invariant.each_slot,
      ap length c.deref.ensures.value,
    )

pub returns : goal.returns
returns g c =
    let number = number_of c.args.self.now.show.patch c.args.self.now.base c.args.universe
    c.requires in
    let few : c.from.result < 16 = omega (arith, number.1, ap (λ d. d.base) c.self.view_is) in
    rw (← c.self.view_is) (λ show base history stands.
    let place : c.from.result ≡ c.args.universe - base = omega (arith, stands.base_is) in
    let slots = c.self.inside.slots.items in
    let sixteen : length c.deref.result.now / 512 ≡ 16 =
    omega (arith, c.self.invariant.each_slot, ap length c.deref.ensures.value) in
    ap (λ fs. get_or fs c.from.result [])
    (c.as_chunks.ensures.front ∙ chunks_are c.deref.result.now _ sixteen
    ∙ ap frames_in c.deref.ensures.value)
    ∙ get_or_from_slice_get (frames_in slots) c.from.result _ _
    (stands.frames_are c.from.result few) ∙ ap (latest_frame show history) place)
