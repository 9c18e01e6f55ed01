use Rattle.std.proofs.Common.{◌∙◌, ℕ, subst, sym}
use Rattle.iam_layers.specs.Cell.{IsApplicableAt}
use Rattle.iam_open_changes.proofs.same.has_same_frame.Goals as goal

pub returns : goal.returns
returns c = λ t one other was now has has' x y applies applies'.
    let is = c.frame.ensures one was.resource x has.resource (subst (λ (p : ℕ). IsApplicableAt one p was.resource x) (sym has.principal) applies) in
    let is' = c.frame-2.ensures other now.resource y has'.resource
    (subst (λ (p : ℕ). IsApplicableAt other p now.resource y) (sym has'.principal) applies') in
    sym is ∙ c.is_same_frame.ensures t ∙ is'
