-- A resource that the world names, asked for by its own text, has its cell: AWS IAM User Guide, "Policy evaluation logic". LOGIC 11.6.
use Rattle.std.specs.Prelude.{◌≡◌, ◌↔◌, ℕ, List}
use Rattle.iam_decision.specs.declared.verdict.Decision.{Decision}
use Rattle.iam_decision.specs.declared.verdict.Verdict.{Verdict}
use Rattle.iam_world.specs.World.{WorldValue}
use Rattle.iam_layers.specs.Cell.{IsAction, IsDecisionAt, IsResource, IsVerdictAt}
use Rattle.iam_layers.specs.Unnamed.{IsUnnamedDecision, IsUnnamedVerdict}
use Rattle.iam_layers.specs.declared.unnamed.Unnamed.TheVariants.{Like}

-- where action a of the world is this action, and resource r has this text: the verdict on a request for a resource of the text that is
-- like it is that of principal, action and resource, and so is the decision
abbrev pub NamedVerdictsAreOfCells : Type 0
NamedVerdictsAreOfCells =
    (world : WorldValue) (p a r : ℕ) (action text : List ℕ) (verdict : Verdict) → IsAction world a action
    → IsResource world r (λ resource. resource.arn ≡ text)
    → IsUnnamedVerdict world p (Like r) action text verdict ↔ IsVerdictAt world p a r verdict

abbrev pub NamedDecisionsAreOfCells : Type 0
NamedDecisionsAreOfCells =
    (world : WorldValue) (p a r : ℕ) (action text : List ℕ) (decision : Decision) → IsAction world a action
    → IsResource world r (λ resource. resource.arn ≡ text)
    → IsUnnamedDecision world p (Like r) action text decision ↔ IsDecisionAt world p a r decision
