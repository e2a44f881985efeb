use Rattle.std.proofs.Common.{◌≡◌, ◌∙◌, [], None, Some, ap, append-nil, refl, sym}
use Rattle.std.proofs.Common.{subst, take}
use Rattle.line_queue.specs.Pipes.{after_write}
use Rattle.line_queue.specs.Stands.{StandsFor, waiting_in}
use Rattle.line_queue.proofs.Accounting.{keeps_all, keeps_failed, keeps_taken, none_more}
use Rattle.line_queue.proofs.Accounting.{same_but_pipe, same_stands, take-front}
use Rattle.line_queue.proofs.queue.LineQueue.write_part.Goals as goal

pub returns-in-Ok-clause-stands : goal.returns-in-Ok-clause-stands
returns-in-Ok-clause-stands g c = λ tells given stands.
    let old = c.args.self.now in
    let tape = g.P.Pipe.tape old.pipe in
    let new = c.let_go.new.self in
    let told = subst (λ p. g.P.Pipe.tells p) c.let_go.ensures.pipe tells in
    let bytes : take c.in-Ok.count (take c.min-count.result c.as_slice.result.now)
    ≡ take c.in-Ok.count (waiting_in old) = take-front c.in-Ok.count c.min-count.result
    c.as_slice.result.now c.in-Ok.ensures.within ∙ ap
    (take c.in-Ok.count) c.as_slice.ensures.value in
    let wrote : g.P.Pipe.tape new.pipe ≡ after_write tape (take c.in-Ok.count
    (waiting_in old)) None =
    ap (λ p. g.P.Pipe.tape p) c.let_go.ensures.pipe ∙ c.in-Ok.ensures.ok told
    ∙ ap (λ xs. after_write tape xs None) bytes in
    let moved = same_stands old _ tape tape given (same_but_pipe old _) refl refl stands in
    none_more new _ given (subst (λ t. StandsFor new t given) (sym wrote)
    (c.let_go.ensures.stands tape given moved))

pub returns-in-Err-2-clause-stands : goal.returns-in-Err-2-clause-stands
returns-in-Err-2-clause-stands g c = λ tells given stands.
    let old = c.args.self.now in
    let tape = g.P.Pipe.tape old.pipe in
    let new = c.fail.new.self in
    let told = subst (λ p. g.P.Pipe.tells p) c.fail.ensures.pipe tells in
    let wrote : g.P.Pipe.tape new.pipe ≡ after_write tape [] (Some c.in-Err.kind) =
    ap (λ p. g.P.Pipe.tape p) c.fail.ensures.pipe ∙ c.in-Err.ensures.err told in
    let moved = same_stands old _ tape tape given (same_but_pipe old _) refl refl stands in
    none_more new _ given (subst (λ t. StandsFor new t given) (sym wrote)
    (c.fail.ensures.stands tape given moved))

pub returns-in-Ok-clause-kept : goal.returns-in-Ok-clause-kept
returns-in-Ok-clause-kept g c = λ tells room.
    let old = c.args.self.now in
    let tape = g.P.Pipe.tape old.pipe in
    let new = c.let_go.new.self in
    let told = subst (λ p. g.P.Pipe.tells p) c.let_go.ensures.pipe tells in
    let bytes : take c.in-Ok.count (take c.min-count.result c.as_slice.result.now)
    ≡ take c.in-Ok.count (waiting_in old) = take-front c.in-Ok.count c.min-count.result
    c.as_slice.result.now c.in-Ok.ensures.within ∙ ap
    (take c.in-Ok.count) c.as_slice.ensures.value in
    let wrote : g.P.Pipe.tape new.pipe ≡ after_write tape (take c.in-Ok.count
    (waiting_in old)) None =
    ap (λ p. g.P.Pipe.tape p) c.let_go.ensures.pipe ∙ c.in-Ok.ensures.ok told
    ∙ ap (λ xs. after_write tape xs None) bytes in
    let kept = c.let_go.ensures.kept room.none_dropped in
    keeps_taken old new tape (g.P.Pipe.tape new.pipe) c.in-Ok.count (ap (λ t. t.taken) wrote)
    kept.0 kept.1

pub returns-in-Err-clause-kept : goal.returns-in-Err-clause-kept
returns-in-Err-clause-kept g c = λ tells room.
    let old = c.args.self.now in
    keeps_all old _ (g.P.Pipe.tape old.pipe) _ refl room.none_dropped
    (ap (λ t. t.taken) (c.in-Err.ensures.err tells) ∙ append-nil _)

pub returns-in-Err-2-clause-kept : goal.returns-in-Err-2-clause-kept
returns-in-Err-2-clause-kept g c = λ tells room.
    let old = c.args.self.now in
    let new = c.fail.new.self in
    let told = subst (λ p. g.P.Pipe.tells p) c.fail.ensures.pipe tells in
    keeps_failed old new (g.P.Pipe.tape old.pipe) (g.P.Pipe.tape new.pipe) c.in-Err.kind
    c.fail.ensures.failed
    (ap (λ p. (g.P.Pipe.tape p).taken) c.fail.ensures.pipe
    ∙ ap (λ t. t.taken) (c.in-Err.ensures.err told) ∙ append-nil _)
