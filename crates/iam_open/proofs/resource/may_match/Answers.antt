use Rattle.std.proofs.Common.{inr, refl}
use Rattle.iam_open.proofs.FitLemmas.{never_matches}
use Rattle.iam_open.proofs.resource.may_match.Goals as goal

pub returns-in-Some : goal.returns-in-Some
returns-in-Some c =
    inr (
      refl,
      never_matches c.args.text.now c.args.resource.now c.in-Some.pattern c.matches.result (rw c.in-Some.is at c.in_ok-pattern.ensures)
          c.matches.ensures c.if-matches.false,
    )
