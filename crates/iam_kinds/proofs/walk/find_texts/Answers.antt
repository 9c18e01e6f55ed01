use Rattle.std.proofs.Common.{◌<◌, [], ◌∷◌, ◌++◌, List, arith, sym, subst, ℕ, length, below_more}
use Rattle.iam_kinds.specs.Kinds.{IsBefore}
use Rattle.iam_kinds.proofs.OrderLemmas.{before_any}
use Rattle.iam_kinds.specs.Walk.{IsExpandedAt, IsMetFirst}
use Rattle.iam_kinds.proofs.GoLemmas.{AllExpanded, are_texts, below_head, expanded_more, grown_length, is_met, met_first_more}
use Rattle.iam_kinds.proofs.LeastLemmas.{are_least}
use Rattle.iam_kinds.proofs.LimitLemmas.{not_over}
use Rattle.iam_kinds.proofs.walk.find_texts.Goals as goal

pub put-requires-clause-walk : goal.put-requires-clause-walk
put-requires-clause-walk c = c.new-walk.ensures.walk c.args.asked.now

pub loop-head-init : goal.loop-head-init
loop-head-init c = record {
  walk = rw c.if-not-branch.false at c.in_ok-put.ensures.walk;
  seen = rw c.if-not-branch.false at c.in_ok-put.ensures.seen;
  root = subst (IsMetFirst c.args.asked.now c.put.new.self) c.in_ok-root.ensures.text (rw c.if-not-branch.false at c.in_ok-put.ensures.met);
  below = omega arith;
  expanded = λ i below. absurd (omega (arith, below));
  behind = λ node at d.
      (rw c.if-not-branch.false at c.in_ok-put.ensures.only) (node.text.items ++ (d ∷ [])) (c.new-walk.ensures.below (node.text.items ++ (d ∷ [])))
      (subst (λ (l : List ℕ). IsBefore l (node.text.items ++ (d ∷ []))) (sym c.in_ok-root.ensures.text) (before_any node.text.items d));
}

pub loop-head-preserved : goal.loop-head-preserved
loop-head-preserved c =
    let old = c.loop-head.walk in
    let new = c.expand.new.self in
    let grows = rw c.if-not-branch-2.false at c.in_ok-expand.ensures.grows in
    let longer = grown_length old new grows in
    let within : c.loop-head.head < length old.nodes.items = omega arith in
    let P : ℕ → Type 0 = λ i. IsExpandedAt c.args.asked.now new i in record {
      walk = rw c.if-not-branch-2.false at c.in_ok-expand.ensures.walk;
      seen = rw c.if-not-branch-2.false at c.in_ok-expand.ensures.seen;
      root = met_first_more c.args.asked.now old new [] grows c.loop-head.invariant.root;
      below = omega (arith, longer, within);
      expanded = below_more P c.loop-head.head
          (λ i below. expanded_more c.args.asked.now old new i (omega (arith, below, within)) grows (c.loop-head.invariant.expanded i below))
          (rw c.if-not-branch-2.false at c.in_ok-expand.ensures.expanded);
      behind =
          below_head c.args.asked.now old new c.loop-head.head within grows (rw c.if-not-branch-2.false at c.in_ok-expand.ensures.walk) c.loop-head.invariant.behind
          (rw c.if-not-branch-2.false at c.in_ok-expand.ensures.only);
    }

pub returns-then-head-len-clause-some : goal.returns-then-head-len-clause-some
returns-then-head-len-clause-some c =
    are_texts c.args.asked.now c.loop-head.walk c.requires c.loop-head.invariant.walk
    (is_met c.args.asked.now c.loop-head.walk [] c.loop-head.invariant.root)
    (λ i below. c.loop-head.invariant.expanded i (omega (arith, below)))

pub returns-then-head-len-clause-least : goal.returns-then-head-len-clause-least
returns-then-head-len-clause-least c =
    are_least c.args.asked.now c.loop-head.walk c.requires c.loop-head.invariant.walk c.loop-head.invariant.root
    (λ i below. c.loop-head.invariant.expanded i (omega (arith, below)))

pub returns-then-head-len-clause-within : goal.returns-then-head-len-clause-within
returns-then-head-len-clause-within c =
    let all : AllExpanded c.args.asked.now c.loop-head.walk = λ i below. c.loop-head.invariant.expanded i (omega (arith, below)) in
    let root = is_met c.args.asked.now c.loop-head.walk [] c.loop-head.invariant.root in
    not_over c.args.asked.now c.loop-head.walk c.requires c.loop-head.invariant.walk c.loop-head.invariant.seen root all
    (are_texts c.args.asked.now c.loop-head.walk c.requires c.loop-head.invariant.walk root all)
