use Rattle.std.proofs.Common.{◌≡◌, ◌∙◌, ap, map, subst, sym}
use Rattle.std.proofs.lemmas.Option.{get_or_from_slice_get}
use Rattle.std.proofs.lemmas.Result.{IfOk-weaker}
use Rattle.iam_every_changes.specs.Changes.{changed_of}
use Rattle.iam_every_changes.specs.Compared.{both_at, compared_of, who_of}
use Rattle.iam_every_changes.specs.Made.{AreEveryChanges}
use Rattle.iam_every_changes.specs.States.{AreBoth, BothValue, both_of}
use Rattle.iam_every_changes.specs.declared.compared.Who.{Who}
use Rattle.iam_every_changes.specs.declared.looked.Looked.{Looked}
use Rattle.iam_every_changes.proofs.ReportLemmas.{comparable_at}
use Rattle.iam_every_changes.proofs.crew.PrincipalsCrew.work.Goals as goal

pub changes_of-requires-clause-both : goal.changes_of-requires-clause-both
changes_of-requires-clause-both c =
    let crew = c.args.self.now in
    subst AreBoth (sym c.both_at.ensures)
    (comparable_at (compared_of crew.compared) crew.whos.now c.args.tile _ c.requires.tile.inside c.requires.tile.comparable)

pub returns-clause-given : goal.returns-clause-given
returns-clause-given c =
    let crew = c.args.self.now in
    let compared = compared_of crew.compared in
    IfOk-weaker c.changes_of.result _ _
    (
    λ (output : Looked) is who at.
    let same : both_of c.both_at.result ≡ both_at compared (who_of who) =
    c.both_at.ensures ∙ ap (λ (w : Who). both_at compared (who_of w)) (get_or_from_slice_get crew.whos.now c.args.tile who _ at) in
    subst (λ (both : BothValue). AreEveryChanges both (map changed_of output.rows.items) output.some) same is
    )
    c.changes_of.ensures.changes
