use Rattle.std.proofs.Common.{List, refl, sym, subst}
use Rattle.iam_decision.specs.Ruling.{Follows}
use Rattle.iam_decision.specs.declared.living.Matched.{Matched}
use Rattle.iam_decision.specs.Matched.{placed}
use Rattle.iam_decision.proofs.EarlyLemmas.{found_suffices}
use Rattle.iam_decision.proofs.ruling.Ruling.of.Goals as goal

pub invariant_of-result : goal.invariant_of-result
invariant_of-result c =
    let F : List Matched → Type 0 = λ found. Follows c.args.frame found c.in_ok-verdict.verdict in
    let follows : F c.args.found.now = λ a q framed are. c.in_ok-verdict.ensures a q framed (found_suffices q (placed a) c.args.found.now are) in
    subst F (sym c.in_ok-found.ensures.items) follows

pub returns : goal.returns
returns c = record {
  frame_is = refl;
  found_is = c.in_ok-found.ensures.items;
  follows = λ a q framed are. c.in_ok-verdict.ensures a q framed (found_suffices q (placed a) c.args.found.now are);
}
