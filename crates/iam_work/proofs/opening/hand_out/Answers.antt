use Rattle.std.proofs.Common.{◌≡◌, ℕ, ◌+◌, [], ◌∷◌, ◌++◌, length, map, vec_len, All, Some, Vec, Global, sym, ap, ◌∙◌, subst, arith}
use Rattle.std.proofs.lemmas.List.{length_push, length-map}
use Rattle.std.proofs.lemmas.List.Elements.{All-pop}
use lib.ListN.{get_elem?}
use Rattle.crossbeam_deque.specs.Handles.{worker_deque}
use Rattle.iam_work.specs.Code.MarkRule.{empty_view, one_seat, without_seat}
use Rattle.iam_work.specs.Work.{WorkId, SeatView, fresh, work_id}
use Rattle.iam_work.specs.Code.Fields.{RunPass, pass_deque, IsUnused, IsNew, IsBundle}
use Rattle.iam_work.proofs.Lists.{at_middle, last_over, same_length, count_down}
use Rattle.iam_work.proofs.Steps.{splits}
use Rattle.iam_work.proofs.opening.hand_out.Goals as goal
use Rattle.iam_work.proofs.opening.hand_out.Goals.{After-len-number}

pub split_seat-other-requires : goal.split_seat-other-requires
split_seat-other-requires c =
    let key = c.args.table.now.shared.key in
    let pass = c.loop-owner.pass in
    let left = c.loop-owner.invariant.left in
    let seats = ap (λ me. me.0.seats) left in
    let wide = c.requires.laid.wide in
    let more = length_push c.pop.new.self.items c.in-Some.owner in
    let popped = ap length c.in-Some.ensures.items in
    let ok = c.loop-owner.owners.ok.0 in
    (c.loop-owner.invariant.table, omega arith, splits key.grains key.seats pass.id pass.me.0 (omega arith) (ap (λ me. me.0.marked) left) (ap (λ me. me.0.found) left))

-- the view of the seat that was split off
view_is : (c : After-len-number) → c.split_seat-other.result.me.0 ≡ empty_view c.args.plan.now.grains c.args.plan.now.seats 1
view_is c = ap (λ me. me.0) c.split_seat-other.ensures.4 ∙ ap (λ me. one_seat me.0) c.loop-owner.invariant.left

-- how many owners are left
fewer : (c : After-len-number) → vec_len c.loop-owner.owners ≡ c.len-number.result + 1
fewer c =
    let more = length_push c.pop.new.self.items c.in-Some.owner in
    let popped = ap length c.in-Some.ensures.items in
    let ok = c.loop-owner.owners.ok.0 in
    let ok_after = c.pop.new.self.ok.0 in
    let len = c.len-number.ensures in
    omega arith

unused : (c : After-len-number) → All (IsUnused c.args.plan.now.grains) c.pop.new.self.items × IsUnused c.args.plan.now.grains c.in-Some.owner
unused c = All-pop (IsUnused c.args.plan.now.grains) c.loop-owner.owners.items c.pop.new.self.items (Some c.in-Some.owner) c.in-Some.ensures.items c.loop-owner.invariant.unused

-- the passes that the seat gets
bundle : (c : After-len-number) → IsBundle c.args.plan.now.grains (map worker_deque c.args.owners.items) c.in-Some-pop.passes.items
bundle c =
    (All-pop (λ (b : Vec RunPass Global). IsBundle c.args.plan.now.grains (map worker_deque c.args.owners.items) b.items) c.loop-owner.bundles.items c.pop-in-Some.new.self.items (Some c.in-Some-pop.passes) c.in-Some-pop.ensures.items c.loop-owner.invariant.bundles).1

-- the deques, with that of the owner
deques : (c : After-len-number) → map worker_deque c.args.owners.items ≡ map worker_deque c.pop.new.self.items ++ worker_deque c.in-Some.owner ∷ c.loop-owner.invariant.deques.0
deques c = last_over worker_deque (map worker_deque c.args.owners.items) c.loop-owner.invariant.deques.0 c.loop-owner.owners.items c.pop.new.self.items c.in-Some.owner c.loop-owner.invariant.deques.1 c.in-Some.ensures.items

-- which work it is
abbrev work_of : After-len-number → WorkId
work_of c = work_id c.args.table.now.shared.table_id (map worker_deque c.args.owners.items) c.args.plan.now.grains c.args.plan.now.seats

-- the seat that was made is a fresh one of that number
dealt : (c : After-len-number) (seat : SeatView)
    → seat ≡ fresh (work_id c.split_seat-other.result.table_id (map pass_deque c.in-Some-pop.passes.items) c.split_seat-other.result.me.0.grains c.split_seat-other.result.me.0.all) c.len-number.result
    → seat ≡ fresh (work_of c) (vec_len c.pop.new.self)
dealt c seat made =
    let table_is = c.split_seat-other.ensures.3 ∙ c.loop-owner.invariant.table in
    let view = view_is c in
    made ∙ (λ i. fresh (work_id (table_is i) ((bundle c).0 i) (view i).grains (view i).all) (c.len-number.ensures i))

pub overflow_cast-number : goal.overflow_cast-number
overflow_cast-number c =
    let n = fewer c in
    let many = c.loop-owner.invariant.many in
    let few = c.requires.laid.few_seats in
    omega arith

pub new-requires-clause-owner : goal.new-requires-clause-owner
new-requires-clause-owner c = subst (λ n. IsUnused n c.in-Some.owner) (sym (ap (λ v. v.grains) (view_is (goal.at.new-requires-clause-owner c).After-len-number))) (unused (goal.at.new-requires-clause-owner c).After-len-number).1

pub new-requires-clause-owns : goal.new-requires-clause-owns
new-requires-clause-owns c =
    let fronts = map worker_deque c.pop.new.self.items in
    let here : length fronts ≡ c.len-number.result = length-map c.pop.new.self.items worker_deque ∙ sym c.pop.new.self.ok.0 ∙ sym c.len-number.ensures in
    ap (λ ds. get_elem? ds c.len-number.result) ((bundle (goal.at.new-requires-clause-owns c).After-len-number).0 ∙ deques (goal.at.new-requires-clause-owns c).After-len-number)
    ∙ ap (get_elem? (fronts ++ worker_deque c.in-Some.owner ∷ c.loop-owner.invariant.deques.0)) (sym here)
    ∙ at_middle fronts (worker_deque c.in-Some.owner) c.loop-owner.invariant.deques.0

pub new-requires-clause-passes : goal.new-requires-clause-passes
new-requires-clause-passes c = subst (λ n. All (IsNew n) c.in-Some-pop.passes.items) (sym (ap (λ v. v.grains) (view_is (goal.at.new-requires-clause-passes c).After-len-number))) (bundle (goal.at.new-requires-clause-passes c).After-len-number).1

pub new-requires-clause-every : goal.new-requires-clause-every
new-requires-clause-every c =
    let long = same_length pass_deque worker_deque c.in-Some-pop.passes.items c.args.owners.items (bundle (goal.at.new-requires-clause-every c).After-len-number).0 in
    let ok = c.in-Some-pop.passes.ok.0 in
    let ok_owners = c.args.owners.ok.0 in
    let count = c.requires.count in
    let all = ap (λ v. v.all) (view_is (goal.at.new-requires-clause-every c).After-len-number) in
    omega arith

pub loop-owner-preserved : goal.loop-owner-preserved
loop-owner-preserved c =
    let a = (goal.at.loop-owner-preserved c).After-len-number in
    let bundles = All-pop (λ (b : Vec RunPass Global). IsBundle c.args.plan.now.grains (map worker_deque c.args.owners.items) b.items) c.loop-owner.bundles.items c.pop-in-Some.new.self.items (Some c.in-Some-pop.passes) c.in-Some-pop.ensures.items c.loop-owner.invariant.bundles in
    let left = c.loop-owner.invariant.left in
    let n = fewer a in
    let len = c.len-number.ensures in
    let many = c.loop-owner.invariant.many in
    let count = c.loop-owner.invariant.count in
    let bundle_more = length_push c.pop-in-Some.new.self.items c.in-Some-pop.passes in
    let bundle_popped = ap length c.in-Some-pop.ensures.items in
    let ok = c.loop-owner.bundles.ok.0 in
    let ok_after = c.pop-in-Some.new.self.ok.0 in
    record {
      unused = (unused a).0;
      deques = (worker_deque c.in-Some.owner ∷ c.loop-owner.invariant.deques.0, deques a);
      many = omega arith;
      count = omega arith;
      bundles = bundles.0;
      table = c.split_seat-other.ensures.0 ∙ c.loop-owner.invariant.table;
      left = c.split_seat-other.ensures.2 ∙ ap (λ me. (without_seat me.0, me.1)) left ∙ ap (λ (n : ℕ). (empty_view c.args.plan.now.grains c.args.plan.now.seats n, [])) (omega arith);
      dealt = c.in_ok-push-2.ensures.items ∙ (λ i. c.loop-owner.invariant.dealt i ++ dealt a c.new.result c.new.ensures i ∷ []) ∙ count_down (fresh (work_of a)) (vec_len c.pop.new.self) (vec_len c.loop-owner.owners) c.args.plan.now.seats (omega arith) (omega arith);
    }
