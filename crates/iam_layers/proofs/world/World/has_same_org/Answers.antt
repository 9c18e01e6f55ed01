use Rattle.std.proofs.Common.{◌∙◌, sym}
use Rattle.std.proofs.lemmas.Slice.Eq.{bytes_eq-Decides}
use Rattle.iam_layers.proofs.VerdictLemmas.{same_org}
use Rattle.iam_layers.proofs.world.World.has_same_org.Goals as goal

pub returns : goal.returns
returns c = λ same.
    let accounts = (bytes_eq-Decides c.account.result.now c.account-2.result.now).0 (sym c.eq.ensures ∙ same) in
    same_org c.args.self.now c.args.p c.args.other c.requester.result.now c.requester-2.result.now c.requester.ensures c.requester-2.ensures
    (sym c.account.ensures ∙ accounts ∙ c.account-2.ensures)
