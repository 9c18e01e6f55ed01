use Rattle.std.proofs.Common.{map}
use Rattle.iam_match.specs.Request.{access_of}
use Rattle.iam_decision.specs.Code.Scan.{placed_value}
use Rattle.iam_decision.specs.Living.{living_value}
use Rattle.iam_decision.proofs.ScanLemmas.{living_more, living_skip}
use Rattle.iam_decision.proofs.living.add_living.Goals as goal

pub returns-then-not-branch : goal.returns-then-not-branch
returns-then-not-branch c = λ before are.
    living_skip (access_of c.args.access) before (placed_value c.args.standing) (map living_value c.args.living.now.items)
    (λ m. let holds = c.in_ok-rest_matches_with.ensures.1 m in let wrong : ⊥ = cc in wrong) are

pub returns : goal.returns
returns c = λ before are.
    living_more (access_of c.args.access) before (placed_value c.args.standing) (map living_value c.args.living.now.items)
    (map living_value c.push_living.new.living.items) (c.in_ok-rest_matches_with.ensures.0 c.if-not-branch.false) c.in_ok-push_living.ensures are
