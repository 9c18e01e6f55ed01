use Rattle.std.proofs.Common.{◌≡◌, ◌+◌, ◌-◌, ℕ, subst, sym, ap, ◌∙◌, ⊎_elim, arith}
use Rattle.std.proofs.lemmas.Bool.{cases_lt}
use Rattle.iam_classes.specs.Engine.{EngineValue}
use Rattle.iam_decision.specs.declared.verdict.Decision.{Decision}
use Rattle.iam_layers.specs.Cell.{IsCell, IsDecisionOf}
use Rattle.iam_world.specs.World.{WorldValue}
use Rattle.iam_matrix.specs.Matrix.{IsNotAllowed}
use Rattle.iam_matrix.specs.Code.Tiles.{IsAllowedCell}
use Rattle.iam_matrix.proofs.search.first_in.Goals as goal
use Rattle.iam_matrix.proofs.search.first_in.Goals.{else-asks-via-then-asks+in_ok-decision_at+else-is_allowed, else-asks-via-else-asks}

pub loop-at-preserved-then-not-asks_row : goal.loop-at-preserved-then-not-asks_row
loop-at-preserved-then-not-asks_row g c =
    let so_far = c.loop-at.invariant in
    let at = c.loop-at.at in
    let past = c.past_row-at.ensures in
    let off = c.asks_row.ensures c.if-not-asks_row.true in
    record {
      least = omega (arith, so_far.least, past.more);
      most = past.most;
      there = past.is;
      same = so_far.same;
      not_allowed = λ cell from below asked.
          ⊎_elim (λ before. so_far.not_allowed cell from before asked)
          (λ above. let r = at.resource + (cell - at.cell) in
          let Cell : WorldValue → Type 0 = λ w. IsCell w cell at.principal at.action r in
          absurd (off cell r (subst Cell (c.world-world.ensures ∙ sym c.requires.world) (past.same cell above below)) asked))
          (cases_lt cell at.cell);
    }

pub returns-then-is_allowed-clause-first : goal.returns-then-is_allowed-clause-first
returns-then-is_allowed-clause-first g c =
    let world = c.args.engine.now.world in
    let so_far = c.loop-at.invariant in
    let cell = c.loop-at.at.cell in
    let decision = c.in_ok-decision_at.field-0 in
    let W : WorldValue → Type 0 = λ w. IsDecisionOf w cell decision in
    let D : Decision → Type 0 = λ d. IsDecisionOf world cell d in
    let told = subst W so_far.same c.in_ok-decision_at.ensures.decision in
    let end = c.end_of-end.ensures in
    let less = c.loop-at-test.true in
    let found : IsAllowedCell (g.A.Asks.asked c.args.asker.now) world cell = record {
      below = omega (arith, less, end.value, c.requires.cells);
      small = omega (arith, less, end.few);
      asked = c.asks.ensures.0 c.if-asks.true;
      allowed = subst D (c.is_allowed.ensures.0 c.if-is_allowed.true) told;
    } in
    (found, omega (arith, less, end.value), so_far.not_allowed)

pub loop-at-preserved : goal.loop-at-preserved
loop-at-preserved g c =
    let world = c.args.engine.now.world in
    let so_far = c.loop-at.invariant in
    let here = c.loop-at.at.cell in
    let next = c.next_in-at.ensures in
    let N : ℕ → Type 0 = λ k. g.A.Asks.asked c.args.asker.now k → IsNotAllowed world k in
    let looked : (c.else-asks.engine.world ≡ world) × N here = elim c.else-asks.branch [
      | else-asks-via-then-asks+in_ok-decision_at+else-is_allowed w ↦
          let decision = w.in_ok-decision_at.field-0 in
          let W : WorldValue → Type 0 = λ v. IsDecisionOf v here decision in
          let off = w.if-is_allowed.false in (
            ap (λ (e : EngineValue). e.world) w.engine-is ∙ w.in_ok-decision_at.ensures.same ∙ so_far.same,
            λ asked. record {
              decision = decision;
              is = subst W so_far.same w.in_ok-decision_at.ensures.decision;
              not_allowed = λ same. let allowed = w.is_allowed.ensures.1 same in let wrong : ⊥ = cc in wrong;
            },
          )
      | else-asks-via-else-asks w ↦
          let off = w.if-asks.false in (
            ap (λ (e : EngineValue). e.world) w.engine-is ∙ so_far.same,
            λ asked. let on = c.asks.ensures.1 asked in absurd (let wrong : ⊥ = cc in wrong),
          )
    ] in
    record {
      least = omega (arith, so_far.least, next.cell);
      most = omega (arith, next.cell, c.loop-at-test.true);
      there = λ below. next.is (omega (arith, below, next.cell));
      same = looked.0;
      not_allowed = λ cell from below.
          ⊎_elim (λ before. so_far.not_allowed cell from before)
          (λ after. let same : here ≡ cell = omega (arith, after, below, next.cell) in subst N same looked.1)
          (cases_lt cell here);
    }
