use Rattle.std.proofs.Common.{◌∷◌, ◌++◌, [], List, inl, inr, ◌∙◌, ap, refl}
use Rattle.iam_decision.specs.declared.living.Matched.{Matched}
use Rattle.iam_engine.proofs.walk.add_match.Goals as goal

pub returns-then-not-branch-clause-found : goal.returns-then-not-branch-clause-found
returns-then-not-branch-clause-found c =
    inr ((λ lives. let holds = c.in_ok-rest_matches.ensures.matched.1 lives in let wrong : ⊥ = cc in wrong), refl)

pub returns-clause-found : goal.returns-clause-found
returns-clause-found c =
    let more : Matched → List Matched = λ m. c.args.findings.now ++ m ∷ [] in
    inl (c.in_ok-rest_matches.ensures.matched.0 c.if-not-branch.false, c.in_ok-add.ensures.added ∙ ap more c.matched_of.ensures)
