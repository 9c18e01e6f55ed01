use Rattle.std.proofs.Common.{◌∙◌, [], List, map, refl, subst, sym, arith}
use Rattle.iam_match.specs.Request.{access_of}
use Rattle.iam_match.specs.Statement.{request_for}
use Rattle.iam_decision.specs.Code.Scan.{placed_value}
use Rattle.iam_decision.specs.Early.{Suffices}
use Rattle.iam_decision.specs.Matched.{Placed}
use Rattle.iam_decision.specs.declared.living.Matched.{Matched}
use Rattle.iam_engine.proofs.WalkLemmas.{acts_at, all_placed, one_found, placed_at, placed_below}
use Rattle.iam_engine.proofs.walk.find_all.Goals as goal

pub loop-standing-init : goal.loop-standing-init
loop-standing-init c = (
  refl,
  λ action act.
      let q = request_for (access_of c.args.access) action in
      let F : List Matched → Type 0 = λ found. Suffices q [] found in
      subst F (sym c.clear.ensures) (c.suffices_one_by_one.ensures.none q),
)

pub loop-standing-preserved : goal.loop-standing-preserved
loop-standing-preserved c = (
  c.add_asked.ensures.same ∙ c.loop-standing.invariant.0,
  λ action act.
      let candidates = c.args.candidates.now in
      let i = c.loop-standing.standing-index in
      let x = c.standing-item.result in
      let inside = c.loop-standing-test.true in
      one_found (access_of c.args.access) action (placed_value x) (acts_at action candidates i x inside c.standing-item.is act)
      (map placed_value candidates) i c.loop-standing.findings c.add_asked.new.findings (placed_below candidates i inside)
      (placed_at candidates i x inside c.standing-item.is) c.suffices_one_by_one.ensures.more c.in_ok-add_asked.ensures.found
      (c.loop-standing.invariant.1 action act),
)

pub returns-clause-enough : goal.returns-clause-enough
returns-clause-enough c = λ action act.
    let candidates = c.args.candidates.now in
    let S : List Placed → Type 0 = λ z. Suffices (request_for (access_of c.args.access) action) z c.loop-standing.findings in
    subst S (all_placed candidates c.loop-standing.standing-index (omega (arith, c.loop-standing-test.false))) (c.loop-standing.invariant.1 action act)
