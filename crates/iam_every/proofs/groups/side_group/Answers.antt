use Rattle.std.proofs.Common.{◌≡◌, ◌∷◌, [], ◌++◌, List, false, map, take, sym, ap, subst, arith}
use Rattle.std.proofs.lemmas.List.{take_all}
use Rattle.iam_match.specs.Request.{access_of}
use Rattle.iam_decision.specs.Code.Scan.{placed_value}
use Rattle.iam_decision.specs.Matched.{Placed}
use Rattle.iam_every.specs.Groups.{side_of, signs_of}
use Rattle.iam_every.specs.OwnGroups.{HasElement, IsSideGroup}
use Rattle.iam_every.proofs.SideLemmas.{group_more, group_skip, placed_more}
use Rattle.iam_every.proofs.groups.side_group.Goals as goal
use Rattle.iam_every.proofs.groups.side_group.Goals.{then-is_on+in_ok-add_texts, else-is_on}

pub loop-standing-preserved : goal.loop-standing-preserved
loop-standing-preserved c =
    let access = access_of c.args.access in
    let side = c.args.side in
    let statements = c.args.statements.now in
    let i = c.loop-standing.standing-index in
    let x = c.standing-item.result in
    let s : Placed = placed_value x in
    let before = map placed_value (take i statements) in
    let old = map signs_of c.loop-standing.group.items in
    let step = placed_more statements i x c.loop-standing-test.true c.standing-item.is in
    subst (λ (z : List Placed). IsSideGroup access z side (map signs_of c.if-is_on.group.items)) (sym step)
    (elim c.if-is_on.branch [
      | then-is_on+in_ok-add_texts w ↦
          let (has, on) = c.is_on.ensures.0 w.if-is_on.true in
          subst (IsSideGroup access (before ++ (s ∷ [])) side) (ap (λ v. map signs_of v.items) (sym w.group-is))
          (group_more access side before s old (map signs_of w.add_texts.new.patterns.items) c.loop-standing.invariant has on w.in_ok-add_texts.ensures)
      | else-is_on w ↦
          let off : ¬ (HasElement false s × (side_of access.requester s ≡ side)) =
          λ is. let yes = c.is_on.ensures.1 is in let no = w.if-is_on.false in let wrong : ⊥ = cc in wrong in
          subst (IsSideGroup access (before ++ (s ∷ [])) side) (ap (λ v. map signs_of v.items) (sym w.group-is))
          (group_skip access side before s old c.loop-standing.invariant off)
    ])

pub returns : goal.returns
returns c =
    let all = take_all c.loop-standing.standing-index c.args.statements.now (omega (arith, c.loop-standing-test.false)) in
    subst (λ items. IsSideGroup (access_of c.args.access) (map placed_value items) c.args.side (map signs_of c.loop-standing.group.items)) all
    c.loop-standing.invariant
