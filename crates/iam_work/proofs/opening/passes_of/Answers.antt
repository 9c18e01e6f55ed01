use Rattle.std.proofs.Common.{◌≡◌, false, get_or, set, map, ap, sym, ◌∙◌, arith}
use Rattle.std.proofs.Math.Seq.{map-set_same}
use Rattle.std.proofs.lemmas.List.Elements.{All-set, All-push, All-same, All-get_or}
use Rattle.crossbeam_deque.specs.Handles.{worker_deque, worker_port, worker_view}
use Rattle.iam_work.specs.declared.view.DequeView.{DequeView}
use Rattle.iam_work.specs.Code.RunRule.{idle_view}
use Rattle.iam_work.specs.Code.Fields.{pass_deque, IsUnused, IsNew}
use Rattle.iam_work.proofs.Lists.{map_next_set}
use Rattle.iam_work.proofs.Deques.{shares}
use Rattle.iam_work.proofs.opening.passes_of.Goals as goal
use Rattle.iam_work.proofs.opening.passes_of.Goals.{After-another-pass}

pub another-pass-requires : goal.another-pass-requires
another-pass-requires c =
    let owner = get_or c.loop-k.owners c.loop-k.k c.index-owners-k.result in
    shares (worker_port owner) (worker_view owner)

-- the owner's deque stays, and so do all deques
same : (c : After-another-pass) → map worker_deque (set c.loop-k.owners c.loop-k.k c.another-pass.new.self) ≡ map worker_deque c.loop-k.owners
same c = map-set_same worker_deque c.loop-k.owners c.loop-k.k c.another-pass.new.self c.index-owners-k.result c.another-pass.ensures.same.0.0

-- the owner before
was : (c : After-another-pass) → IsUnused c.args.grains (get_or c.loop-k.owners c.loop-k.k c.index-owners-k.result)
was c =
    let test = c.loop-k-test.true in
    let long = c.loop-k.auto.owners in
    All-get_or (IsUnused c.args.grains) c.loop-k.owners c.loop-k.k c.index-owners-k.result (omega arith) c.loop-k.invariant.unused

unused : (c : After-another-pass) → IsUnused c.args.grains c.another-pass.new.self
unused c =
    let view_is = c.another-pass.ensures.rule.0 in
    let old = was c in
    record {
      fifo = c.another-pass.ensures.same.0.1 ∙ old.fifo;
      knows = ap (λ (v : DequeView). v.grains) view_is ∙ old.knows;
      pushed = ap (λ (v : DequeView). v.pushed) view_is ∙ old.pushed;
      taken = ap (λ (v : DequeView). v.taken) view_is ∙ old.taken;
    }

fresh : (c : After-another-pass) → IsNew c.args.grains c.another-pass.result
fresh c =
    let of_deque = c.another-pass.ensures.same.2 in
    (of_deque.2, of_deque.3, c.another-pass.ensures.rule.1 ∙ ap (λ n. idle_view n false) (was c).knows)

pub returns-in_err-push-clause-unused : goal.returns-in_err-push-clause-unused
returns-in_err-push-clause-unused c =
    let a = (goal.at.returns-in_err-push-clause-unused c).After-another-pass in
    All-set (IsUnused c.args.grains) c.loop-k.owners c.loop-k.k c.another-pass.new.self (unused a) c.loop-k.invariant.unused

pub returns-in_err-push-clause-deques : goal.returns-in_err-push-clause-deques
returns-in_err-push-clause-deques c = same (goal.at.returns-in_err-push-clause-deques c).After-another-pass ∙ c.loop-k.invariant.deques

pub loop-k-preserved : goal.loop-k-preserved
loop-k-preserved c =
    let a = (goal.at.loop-k-preserved c).After-another-pass in
    let pass = c.another-pass.result in
    let of_deque = c.another-pass.ensures.same.2 in
    let stays = c.another-pass.ensures.same.0.0 in
    let test = c.loop-k-test.true in
    let long = c.loop-k.auto.owners in
    record {
      unused = All-set (IsUnused c.args.grains) c.loop-k.owners c.loop-k.k c.another-pass.new.self (unused a) c.loop-k.invariant.unused;
      deques = same a ∙ c.loop-k.invariant.deques;
      passes = ap (map pass_deque) c.in_ok-push.ensures.items
          ∙ map_next_set pass_deque worker_deque c.loop-k.passes.items pass c.loop-k.owners c.loop-k.k c.another-pass.new.self (omega arith) c.loop-k.invariant.passes
          ((λ i. (of_deque.0 i, of_deque.1 i)) ∙ sym stays);
      fresh = All-same (IsNew c.args.grains) _ _ c.in_ok-push.ensures.items (All-push (IsNew c.args.grains) c.loop-k.passes.items pass c.loop-k.invariant.fresh (fresh a));
    }
