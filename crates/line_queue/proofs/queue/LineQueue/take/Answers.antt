use Rattle.std.proofs.Common.{◌≡◌, ◌≤◌, ◌+◌, ◌++◌, ◌∷◌, ◌∙◌, [], ap, append-nil, arith}
use Rattle.std.proofs.Common.{is_some, length, refl, subst, sym}
use Rattle.std.proofs.lemmas.Grind.{common_steps}
use Rattle.line_queue.specs.Handing.{AsksAtMost}
use Rattle.line_queue.specs.Stands.{StandsFor, dropped_in, waiting_in}
use Rattle.line_queue.proofs.Accounting.{failed_more, kept_more, none_is}
use Rattle.line_queue.proofs.queue.LineQueue.take.Goals as goal

pub returns-then-is_some-clause-takes : goal.returns-then-is_some-clause-takes
returns-then-is_some-clause-takes g c =
    let room = c.make_room.ensures.takes in
    let queue = c.make_room.new.self in record {
      told = room.told;
      notice = room.notice;
      stands = λ tells given stands.
          failed_more queue _ given (c.args.line.now ∷ []) (λ none. let e = ap is_some none in cc)
          (rw append-nil at (room.stands tells given stands));
      asks = room.asks;
      kept = λ _ there.
          let same = c.make_room.ensures.room there.fits in
          let was = ap (λ q. is_some q.failure) same in
          let none = ap is_some there.no_failure in absurd cc;
    }

pub returns-then-can_keep-clause-takes : goal.returns-then-can_keep-clause-takes
returns-then-can_keep-clause-takes g c =
    let room = c.make_room.ensures.takes in
    let old = c.make_room.new.self in
    let alive = none_is old.failure (sym c.is_some.ensures ∙ c.if-is_some.false) in
    let none : dropped_in old ≡ 0 = grind (arith, common_steps) in
    let put : c.extend_from_slice.new.self.items ≡ waiting_in old ++ c.args.line.now
    = grind (arith, common_steps) in record {
      told = room.told;
      notice = room.notice;
      stands = λ tells given stands.
          kept_more old _ _ given (record { alive = alive; notice = refl; failure = refl })
          c.args.line.now put refl refl none none
          (rw append-nil at (room.stands tells given stands));
      asks = room.asks;
      kept = λ _ there.
          let same = c.make_room.ensures.room there.fits in
          let waited = waiting_in c.args.self.now ++ c.args.line.now in record {
            left = waited;
            whole = ap (λ q. (g.P.Pipe.tape q.pipe).taken ++ waited) same;
            waits = λ _. (put ∙ ap (λ q. waiting_in q ++ c.args.line.now) same, none);
          };
    }

pub returns-else-can_keep-clause-takes : goal.returns-else-can_keep-clause-takes
returns-else-can_keep-clause-takes g c =
    let room = c.make_room.ensures.takes in
    let before = g.P.Pipe.tape c.args.self.now.pipe in
    let same = c.drop_line.ensures.pipe in
    let tape = sym (ap (λ p. g.P.Pipe.tape p) same) in record {
      told = λ tells. room.told (subst (λ p. g.P.Pipe.tells p) same tells);
      notice = c.drop_line.ensures.notice ∙ room.notice;
      stands = λ tells given stands.
          let told = subst (λ p. g.P.Pipe.tells p) same tells in
          subst (λ t. StandsFor c.drop_line.new.self t (given ++ c.args.line.now ∷ [])) tape
          (c.drop_line.ensures.stands c.args.line.now _ given
          (rw append-nil at (room.stands told given stands)));
      asks = λ tells. subst (λ t. AsksAtMost 16 0 before t) tape
          (room.asks (subst (λ p. g.P.Pipe.tells p) same tells));
      kept = λ _ there.
          let still = c.make_room.ensures.room there.fits in
          let none : dropped_in c.make_room.new.self ≡ 0
          = ap dropped_in still ∙ there.none_dropped in
          let fits : length (waiting_in c.make_room.new.self) + length c.args.line.now ≤ 65536
          = subst (λ q. length (waiting_in q) + length c.args.line.now ≤ 65536) (sym still)
          there.fits in
          absurd (grind (arith, common_steps));
    }
