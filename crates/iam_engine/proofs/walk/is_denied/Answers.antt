use Rattle.std.proofs.Common.{◌∙◌, [], List, Bool, map, refl, subst, sym, arith}
use Rattle.iam_match.specs.Request.{access_of}
use Rattle.iam_match.specs.Statement.{request_for}
use Rattle.iam_decision.specs.Code.Scan.{placed_value}
use Rattle.iam_decision.specs.Early.{Tells}
use Rattle.iam_decision.specs.Matched.{Placed}
use Rattle.iam_decision.specs.declared.living.Matched.{Matched}
use Rattle.iam_engine.specs.Walk.{FindsDeny}
use Rattle.iam_engine.proofs.WalkLemmas.{acts_at, all_placed, denies, one_told, placed_at, placed_below}
use Rattle.iam_engine.proofs.walk.is_denied.Goals as goal

pub loop-standing-init : goal.loop-standing-init
loop-standing-init c = (
  refl,
  λ action act.
      let q = request_for (access_of c.args.access) action in
      let F : List Matched → Type 0 = λ found. Tells q [] found in
      subst F (sym c.clear.ensures) (c.tells_one_by_one.ensures.none q),
)

pub loop-standing-preserved : goal.loop-standing-preserved
loop-standing-preserved c = (
  c.denies.ensures.same ∙ c.loop-standing.invariant.0,
  λ action act.
      let candidates = c.args.candidates.now in
      let access = access_of c.args.access in
      let i = c.loop-standing.standing-index in
      let x = c.standing-item.result in
      let old = c.loop-standing.findings in
      let new = c.denies.new.findings in
      let inside = c.loop-standing-test.true in
      let F : Bool → Type 0 = λ denied. FindsDeny access (placed_value x) old new denied in
      one_told access action (placed_value x) (acts_at action candidates i x inside c.standing-item.is act) (map placed_value candidates) i old new
      (placed_below candidates i inside) (placed_at candidates i x inside c.standing-item.is) c.tells_one_by_one.ensures.more
      (subst F c.if-branch.false c.in_ok-denies.ensures.told) (c.loop-standing.invariant.1 action act),
)

pub returns-then-branch-clause-told : goal.returns-then-branch-clause-told
returns-then-branch-clause-told c = λ action act.
    let candidates = c.args.candidates.now in
    let access = access_of c.args.access in
    let i = c.loop-standing.standing-index in
    let x = c.standing-item.result in
    let inside = c.loop-standing-test.true in
    let F : Bool → Type 0 = λ denied. FindsDeny access (placed_value x) c.loop-standing.findings c.denies.new.findings denied in (
      i,
      placed_value x,
      placed_below candidates i inside,
      sym (placed_at candidates i x inside c.standing-item.is),
      denies access action (placed_value x) (acts_at action candidates i x inside c.standing-item.is act) (subst F c.if-branch.true c.in_ok-denies.ensures.told),
    )

pub returns-clause-told : goal.returns-clause-told
returns-clause-told c = λ action act.
    let candidates = c.args.candidates.now in
    let T : List Placed → Type 0 = λ z. Tells (request_for (access_of c.args.access) action) z c.loop-standing.findings in
    subst T (all_placed candidates c.loop-standing.standing-index (omega (arith, c.loop-standing-test.false))) (c.loop-standing.invariant.1 action act)
