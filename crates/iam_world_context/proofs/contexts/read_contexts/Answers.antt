use Rattle.std.proofs.Common.{◌≡◌, map, option_map, refl}
use Rattle.std.proofs.lemmas.Result.{err_from_is_err_and}
use Rattle.serde_json.specs.View.{view}
use Rattle.iam_shape.specs.Lent.{principal_of, resource_of}
use Rattle.iam_shape.specs.LentWorld.{world_of}
use Rattle.iam_shape.specs.View.{PrincipalViewValue, ResourceViewValue}
use Rattle.iam_world_context.specs.Part.{part_of}
use Rattle.iam_world_context.specs.Contexts.{principal_parts, resource_parts}
use Rattle.iam_world_context.proofs.PartLemmas.{faulty_same, none_faulty, parts_are}
use Rattle.iam_world_context.proofs.contexts.read_contexts.Goals as goal

pub returns-in_err-check_contexts-clause-fault : goal.returns-in_err-check_contexts-clause-fault
returns-in_err-check_contexts-clause-fault c =
    let p = err_from_is_err_and c.from_residual-in_err-check_contexts.result c.from_residual-in_err-check_contexts.ensures.1 in
    let lent = c.args.world.now in
    let principals = parts_are (λ o. part_of (option_map (λ d. view d.now) o)) (λ p. p.context) principal_of (λ (v : PrincipalViewValue). part_of v.context) (λ v. refl) lent.principals.items in
    let resources = parts_are (λ o. part_of (option_map (λ d. view d.now) o)) (λ p. p.context) resource_of (λ (v : ResourceViewValue). part_of v.context) (λ v. refl) lent.resources.items in
    let own : c.in_ok-read_part.field-0.items ≡ part_of (world_of lent).context = c.in_ok-read_part.ensures in
    let ps : map (λ part. part.items) c.in_ok-read_parts.field-0.items ≡ principal_parts (world_of lent) =
    rw (c.as_slice-3.ensures.value, c.in_ok-principals.ensures, c.as_slice.ensures.value, principals) at c.in_ok-read_parts.ensures in
    let rs : map (λ part. part.items) c.in_ok-read_parts-2.field-0.items ≡ resource_parts (world_of lent) =
    rw (c.as_slice-4.ensures.value, c.in_ok-resources.ensures, c.as_slice-2.ensures.value, resources) at c.in_ok-read_parts-2.ensures in
    rw (p.1, p.2) (λ other. faulty_same _ _ _ _ _ _ own ps rs c.in_err-check_contexts.field-0.0 (c.in_err-check_contexts.ensures.fault other))

pub returns-clause-ok : goal.returns-clause-ok
returns-clause-ok c =
    let lent = c.args.world.now in
    let principals = parts_are (λ o. part_of (option_map (λ d. view d.now) o)) (λ p. p.context) principal_of (λ (v : PrincipalViewValue). part_of v.context) (λ v. refl) lent.principals.items in
    let resources = parts_are (λ o. part_of (option_map (λ d. view d.now) o)) (λ p. p.context) resource_of (λ (v : ResourceViewValue). part_of v.context) (λ v. refl) lent.resources.items in
    record {
      world = c.in_ok-read_part.ensures;
      principals = rw (c.as_slice-3.ensures.value, c.in_ok-principals.ensures, c.as_slice.ensures.value, principals) at c.in_ok-read_parts.ensures;
      resources = rw (c.as_slice-4.ensures.value, c.in_ok-resources.ensures, c.as_slice-2.ensures.value, resources) at c.in_ok-read_parts-2.ensures;
      clean =
          rw (
            c.in_ok-read_part.ensures,
            c.in_ok-read_parts.ensures,
            c.as_slice-3.ensures.value,
            c.in_ok-principals.ensures,
            c.as_slice.ensures.value,
            principals,
            c.in_ok-read_parts-2.ensures,
            c.as_slice-4.ensures.value,
            c.in_ok-resources.ensures,
            c.as_slice-2.ensures.value,
            resources,
          )
          at c.in_ok-check_contexts.ensures.clean;
    }

pub returns-clause-clean : goal.returns-clause-clean
returns-clause-clean c =
    let world = world_of c.args.world.now in
    none_faulty (part_of world.context) (principal_parts world) (resource_parts world) (returns-clause-ok c).clean
