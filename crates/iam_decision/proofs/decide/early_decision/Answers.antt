use Rattle.std.proofs.Common.{subst}
use Rattle.iam_decision.specs.Decision.{Allows, Denies, Grants, IsDecided}
use Rattle.iam_decision.specs.declared.frame.Frame.{Frame}
use Rattle.iam_decision.specs.declared.verdict.Decision.TheVariants.{Allowed, ImplicitDeny}
use Rattle.iam_decision.proofs.VerdictLemmas.{allowed_same}
use Rattle.iam_decision.proofs.decide.early_decision.Goals as goal

pub returns-then-is_allowed : goal.returns-then-is_allowed
returns-then-is_allowed c = λ a q framed tells.
    let D : Frame → Type 0 = λ frame. IsDecided (Denies a q) (Allows a q) (Grants a q) frame Allowed in
    subst D framed
    (tells.denies, (allowed_same a q c.args.frame c.args.found.now tells.allows tells.grants).0 (c.is_allowed.ensures.0 c.if-is_allowed.true))

pub returns-else-is_allowed : goal.returns-else-is_allowed
returns-else-is_allowed c = λ a q framed tells.
    let D : Frame → Type 0 = λ frame. IsDecided (Denies a q) (Allows a q) (Grants a q) frame ImplicitDeny in
    subst D framed (
      tells.denies,
      λ allowed. let holds = c.is_allowed.ensures.1 ((allowed_same a q c.args.frame c.args.found.now tells.allows tells.grants).1 allowed) in
          let wrong : ⊥ = cc in wrong,
    )
