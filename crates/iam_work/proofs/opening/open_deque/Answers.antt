use Rattle.std.proofs.Common.{[], ◌∷◌, ◌∙◌, ◌<◌, ap, arith}
use Rattle.crossbeam_deque.specs.Handles.{worker_port, worker_view}
use Rattle.iam_work.specs.declared.view.DequeView.{DequeView}
use Rattle.iam_work.proofs.Deques.{tells, clears, finds_none, emptied}
use Rattle.iam_work.specs.Code.RunRule.{told}
use Rattle.iam_work.proofs.opening.open_deque.Goals as goal

pub push_as-requires-clause-pushes : goal.push_as-requires-clause-pushes
push_as-requires-clause-pushes c =
    let owner = c.in_ok-owner.owner in
    let first = c.in_ok-owner.ensures.4 in
    let not_none = c.if-grains-eq0.false in
    let some_grain : 0 < c.args.grains = omega arith in
    tells (worker_port owner) (worker_view owner) (record { first = 0; count = c.args.grains }) (ap (λ (v : DequeView). v.grains) first) (ap (λ (v : DequeView). v.alone) first) some_grain

pub pop_as-all-requires-clause-fifo : goal.pop_as-all-requires-clause-fifo
pop_as-all-requires-clause-fifo c fifo = clears (worker_port c.push_as.new.self) (worker_view c.push_as.new.self)

pub pop_as-all-requires-clause-empty : goal.pop_as-all-requires-clause-empty
pop_as-all-requires-clause-empty c =
    let owner = c.push_as.new.self in
    let is = c.in-Ok.ensures.rule.0 ∙ ap (told (record { first = 0; count = c.args.grains } ∷ [])) c.in_ok-owner.ensures.4 in
    finds_none (worker_port owner) (worker_view owner) (ap (λ (v : DequeView). v.alone) is)

pub returns-clause-empty : goal.returns-clause-empty
returns-clause-empty c =
    let is = c.in-Ok.ensures.rule.0 ∙ ap (told (record { first = 0; count = c.args.grains } ∷ [])) c.in_ok-owner.ensures.4 in
    emptied c.pop_as-all.result (worker_view c.push_as.new.self) (worker_view c.pop_as-all.new.self) (record { first = 0; count = c.args.grains })
    (ap (λ (v : DequeView). v.alone) is) (ap (λ (v : DequeView). v.held) is) c.pop_as-all.ensures.rule
