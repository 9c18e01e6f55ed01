use Rattle.std.proofs.Common.{[], map}
use Rattle.std.proofs.lemmas.Result.{IfErr-weaker, on_ok_weaker, err_from_is_err_and}
use Rattle.iam_world_context.proofs.PartLemmas.{in_own, in_principals, in_resources}
use Rattle.iam_world_context.proofs.contexts.check_contexts.Goals as goal

pub returns-in_err-check_part-clause-fault : goal.returns-in_err-check_part-clause-fault
returns-in_err-check_part-clause-fault c =
    let p = err_from_is_err_and c.from_residual.result c.from_residual.ensures.1 in
    let contexts = c.args.contexts.now in
    rw (p.1, p.2)
    (
    λ other.
    in_own contexts.world.items (map (λ part. part.items) contexts.principals.items) (map (λ part. part.items) contexts.resources.items) c.in_err-check_part.field-0.0
    (c.in_err-check_part.ensures.fault other [] c.new.ensures)
    )

pub returns-in_err-check_principals-clause-fault : goal.returns-in_err-check_principals-clause-fault
returns-in_err-check_principals-clause-fault c =
    let p = err_from_is_err_and c.from_residual-in_err-check_principals.result c.from_residual-in_err-check_principals.ensures.1 in
    let contexts = c.args.contexts.now in
    rw (p.1, p.2)
    (
    λ other.
    in_principals contexts.world.items (map (λ part. part.items) contexts.principals.items) (map (λ part. part.items) contexts.resources.items)
    c.in_err-check_principals.field-0.0 (c.in_ok-check_part.ensures.clean [] c.new.ensures) (rw c.as_slice-principals.ensures.value at (c.in_err-check_principals.ensures.fault other))
    )

pub returns-clause-clean : goal.returns-clause-clean
returns-clause-clean c =
    on_ok_weaker c.check_resources.result
    (λ clean. record {
      own = c.in_ok-check_part.ensures.clean [] c.new.ensures;
      principals_clean = rw c.as_slice-principals.ensures.value at c.in_ok-check_principals.ensures.clean;
      resources_clean = rw (c.as_slice.ensures.value, c.as_slice-principals.ensures.value) at clean;
    })
    c.check_resources.ensures.clean

pub returns-clause-fault : goal.returns-clause-fault
returns-clause-fault c =
    let contexts = c.args.contexts.now in
    IfErr-weaker c.check_resources.result _ _
    (λ fault first other.
    in_resources contexts.world.items (map (λ part. part.items) contexts.principals.items) (map (λ part. part.items) contexts.resources.items) fault
    (c.in_ok-check_part.ensures.clean [] c.new.ensures) (rw c.as_slice-principals.ensures.value at c.in_ok-check_principals.ensures.clean)
    (rw (c.as_slice.ensures.value, c.as_slice-principals.ensures.value) at (first other)))
    c.check_resources.ensures.fault
