use Rattle.std.proofs.Common.{All, subst, sym}
use Rattle.iam_layers.specs.Unnamed.{IsThere}
use Rattle.iam_every.specs.Every.{every_of}
use Rattle.iam_every.proofs.MeantLemmas.{all_there}
use Rattle.iam_every_changes.proofs.actions.policies_in.Goals as goal

pub policies_of-requires-clause-there : goal.policies_of-requires-clause-there
policies_of-requires-clause-there c =
    let every = every_of c.args.state.asked in
    subst (All (IsThere every.world)) (sym c.as_slice.ensures.value) (all_there every c.in_ok-said.said.items c.requires.there c.in_ok-said.ensures)
