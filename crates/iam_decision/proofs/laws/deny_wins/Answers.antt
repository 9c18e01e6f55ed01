use Rattle.iam_decision.proofs.LawLemmas.{deny_wins, only_deny_denies}
use Rattle.iam_decision.proofs.laws.deny_wins.Goals as goal

pub returns : goal.returns
returns c = record { wins = deny_wins; only = only_deny_denies }
