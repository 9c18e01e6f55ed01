use Rattle.std.proofs.Common.{◌≡◌, ℕ, ◌-◌, ◌≤◌, List, [], ◌++◌, map, vec_len, reverse, All, Global}
use Rattle.std.specs.List.{range_with_len}
use Rattle.crossbeam_deque.specs.Handles.{worker_deque}
use Rattle.iam_work.specs.Code.MarkRule.{empty_view}
use Rattle.iam_work.specs.Work.{fresh, work_id}
use Rattle.iam_work.specs.Code.Fields.{IsUnused, IsBundle}
use Rattle.iam_work.proofs.opening.hand_out.Given as goal

-- so many bundles were made, of the deques of all owners
abbrev pub invariant-loop-seat : goal.invariant-loop-seat
invariant-loop-seat l = record {
  unused : All (IsUnused l.plan.grains) l.owners.items;
  deques : map worker_deque l.owners.items ≡ map worker_deque l.fn.owners.items;
  many : vec_len l.owners ≡ l.plan.seats;
  count : vec_len l.bundles ≡ l._seat;
  bundles : All (λ b. IsBundle l.plan.grains (map worker_deque l.fn.owners.items) b.items) l.bundles.items;
}

-- the seats of the last owners were dealt out, last first, and the others stand in the opener's view
abbrev pub invariant-loop-owner : goal.invariant-loop-owner
invariant-loop-owner l = record {
  unused : All (IsUnused l.plan.grains) l.owners.items;
  deques : (rest : List ((ℕ × ℕ) × Global)) × (map worker_deque l.fn.owners.items ≡ map worker_deque l.owners.items ++ rest);
  many : vec_len l.owners ≤ l.plan.seats;
  count : vec_len l.bundles ≡ vec_len l.owners;
  bundles : All (λ b. IsBundle l.plan.grains (map worker_deque l.fn.owners.items) b.items) l.bundles.items;
  table : l.pass.table_id ≡ l.table.shared.table_id;
  left : l.pass.me ≡ (empty_view l.plan.grains l.plan.seats (vec_len l.owners), []);
  dealt : l.seats.items ≡ reverse (map (fresh (work_id l.table.shared.table_id (map worker_deque l.fn.owners.items) l.plan.grains l.plan.seats)) (range_with_len (vec_len l.owners) (l.plan.seats - vec_len l.owners)));
}

abbrev pub decreases-loop-owner : goal.decreases-loop-owner
decreases-loop-owner l = vec_len l.owners
