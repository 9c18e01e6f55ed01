use Rattle.iam_shape.specs.Lent.{resource_of}
use Rattle.iam_world.specs.WorldFault.{is_resource}
use Rattle.iam_shape.specs.declared.path.Path.TheVariants.{Item}
use Rattle.iam_shape.specs.declared.path.Name.TheVariants.{Resources}
use Rattle.iam_world.proofs.Firsts.{found_said}
use Rattle.iam_world.proofs.names.bad_resource.Goals as goal

pub returns : goal.returns
returns c =
    rw (c.at.ensures, c.first_no_resource.ensures, c.as_slice.ensures.value)
    (found_said (λ resource. is_resource resource.arn) resource_of (Item Resources) c.args.world.now.resources.items)
