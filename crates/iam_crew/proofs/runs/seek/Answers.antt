use Rattle.std.proofs.Common.{◌≡◌, ℕ, ◌+◌, ◌-◌, ◌%◌, ◌∙◌, IfSome, ap, sym, subst, arith, rules}
use Rattle.std.proofs.Math.Nat.{mod-add-mod}
use Rattle.iam_lanes.specs.Work.{SeatView}
use Rattle.iam_crew.specs.Code.Runs.{IsFound}
use Rattle.iam_crew.proofs.runs.seek.Goals as goal

pub returns-then-is_some-clause-found : goal.returns-then-is_some-clause-found
returns-then-is_some-clause-found c =
    let found = c.find-found.result in
    let after = c.find-found.new.seat in
    let turns : c.args.idle.now - c.loop-turn.idle ≡ c.loop-turn._turn = omega (arith, c.loop-turn.invariant.idle) in
    subst (λ (n : ℕ). IfSome found (λ run. IsFound c.args.seats n c.args.seat.now run after)) (c.loop-turn.invariant.round ∙ ap (λ n. n % c.args.seats) (sym turns))
    (subst (λ (s : SeatView). IfSome found (λ run. IsFound c.args.seats c.loop-turn.steps s run after)) c.loop-turn.invariant.same c.find-found.ensures.found)

pub loop-turn-preserved : goal.loop-turn-preserved
loop-turn-preserved c = record {
  same = search rules;
  idle = search rules;
  round =
      c.seat_behind-steps.ensures.behind ∙ ap (λ n. (n + 1) % c.args.seats) c.loop-turn.invariant.round
      ∙ mod-add-mod c.loop-turn._turn c.args.seats 1;
}
