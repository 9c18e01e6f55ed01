use Rattle.iam_decision.proofs.LawLemmas.{each_control_level_allows, each_org_level_allows}
use Rattle.iam_decision.proofs.laws.each_level_allows.Goals as goal

pub returns : goal.returns
returns c = record { org = each_org_level_allows; control = each_control_level_allows }
