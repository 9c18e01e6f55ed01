use Rattle.std.proofs.lemmas.Result.{err_from_is_err_and}
use Rattle.iam_shape.specs.LentWorld.{world_of}
use Rattle.iam_world.proofs.Clearing.{clear_8, clear_9, clear_all, first_refused}
use Rattle.iam_world.proofs.world.read_view.Goals as goal

pub returns-in_err-policies-clause-fault : goal.returns-in_err-policies-clause-fault
returns-in_err-policies-clause-fault c =
    let world = world_of c.args.world in
    let p = err_from_is_err_and c.from_residual-in_err-policies.result c.from_residual-in_err-policies.ensures.1 in
    let eight = clear_8 world c.in_ok-requesters.ensures.clear c.in_ok-contexts.ensures.clean in
    rw (p.1, p.2) (λ other. first_refused world c.in_err-policies.field-0.0 eight (c.in_err-policies.ensures.fault other))

pub returns-in_ok-build-in-Some-clause-ok : goal.returns-in_ok-build-in-Some-clause-ok
returns-in_ok-build-in-Some-clause-ok c =
    let world = world_of c.args.world in
    let eight = clear_8 world c.in_ok-requesters.ensures.clear c.in_ok-contexts.ensures.clean in
    (c.in_ok-build-in-Some.ensures, clear_all world (clear_9 world eight c.in_ok-policies.ensures.cleared.accepted) c.in-Some.ensures.2)

pub returns-in-None-clause-fault : goal.returns-in-None-clause-fault
returns-in-None-clause-fault c = λ other.
    let world = world_of c.args.world in
    let eight = clear_8 world c.in_ok-requesters.ensures.clear c.in_ok-contexts.ensures.clean in
    record { holds = c.in-None.ensures; least = clear_9 world eight c.in_ok-policies.ensures.cleared.accepted }
