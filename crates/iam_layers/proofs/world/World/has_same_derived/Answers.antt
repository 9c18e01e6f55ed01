use Rattle.std.proofs.Common.{◌∙◌, sym}
use Rattle.std.proofs.lemmas.Slice.Eq.{bytes_eq-Decides}
use Rattle.iam_layers.proofs.DerivedLemmas.{same_derived}
use Rattle.iam_layers.proofs.world.World.has_same_derived.Goals as goal

pub returns : goal.returns
returns c = λ same.
    let accounts = (bytes_eq-Decides c.account.result.now c.account-2.result.now).0 (sym c.eq.ensures ∙ same) in
    same_derived c.args.self.now c.args.r c.args.other c.resource.result.now c.resource-2.result.now c.resource.ensures.is c.resource-2.ensures.is
    (sym c.account.ensures ∙ accounts ∙ c.account-2.ensures)
