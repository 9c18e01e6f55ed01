use Rattle.iam_world.specs.WorldFault.{is_action}
use Rattle.iam_shape.specs.declared.path.Path.TheVariants.{Item}
use Rattle.iam_shape.specs.declared.path.Name.TheVariants.{Actions}
use Rattle.iam_world.proofs.Firsts.{found_said}
use Rattle.iam_world.proofs.names.bad_action.Goals as goal

pub returns : goal.returns
returns c = rw (c.at.ensures, c.first_no_action.ensures, c.as_slice.ensures.value) (found_said is_action (λ text. text.now) (Item Actions) c.args.world.now.actions.items)
