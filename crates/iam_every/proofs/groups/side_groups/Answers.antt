use Rattle.std.proofs.Common.{◌≡◌, ◌∷◌, ◌+◌, [], ◌++◌, Contains, List, map, refl, take, false, sym, ap, ◌∙◌, subst, arith}
use Rattle.std.proofs.lemmas.List.{map-append, take_all}
use Rattle.std.specs.List.{AllZip}
use Rattle.iam_glob.specs.declared.sign.Sign.{Sign}
use Rattle.iam_match.specs.Request.{access_of}
use Rattle.iam_decision.specs.Code.Scan.{placed_value}
use Rattle.iam_decision.specs.Matched.{Placed}
use Rattle.iam_every.specs.Groups.{groups_of, side_of, signs_of}
use Rattle.iam_every.specs.OwnGroups.{AreSides, HasElement, IsSideGroup}
use Rattle.iam_every.specs.declared.groups.Side.{Side}
use Rattle.iam_every.proofs.SideLemmas.{both_more, placed_more, sides_more, sides_skip}
use Rattle.iam_every.proofs.groups.side_groups.Goals as goal
use Rattle.iam_every.proofs.groups.side_groups.Goals.{in-Some+in_ok-push+in_ok-side_group+in_ok-push-2, in_default}

pub loop-standing-preserved : goal.loop-standing-preserved
loop-standing-preserved c =
    let access = access_of c.args.access in
    let statements = c.args.statements.now in
    let all = map placed_value statements in
    let i = c.loop-standing.standing-index in
    let x = c.standing-item.result in
    let s : Placed = placed_value x in
    let before = map placed_value (take i statements) in
    let sides = c.loop-standing.sides.items in
    let groups = groups_of c.loop-standing.groups.items in
    let step = placed_more statements i x c.loop-standing-test.true c.standing-item.is in
    let Fit : List Side → List (List (List Sign)) → Type 0 = λ ss gs. AllZip (IsSideGroup access all) ss gs in
    let Sides : List Side → Type 0 = λ ss. AreSides access (map placed_value (take (i + 1) statements)) ss in
    elim c.match-new_side.branch [
      | in-Some+in_ok-push+in_ok-side_group+in_ok-push-2 w ↦
          let side = w.in-Some.side in
          let group = map signs_of w.in_ok-side_group.field-0.items in
          let (is, has, new) = w.in-Some.ensures.some in
          let fresh : ¬ Contains sides (side_of access.requester s) = λ in'. new (subst (λ (ss : List Side). Contains ss side) (sym c.as_slice.ensures.value)
          (subst (Contains sides) (sym is) in')) in
          let more_sides : c.match-new_side.sides.items ≡ sides ++ (side ∷ []) = ap (λ v. v.items) w.sides-is ∙ w.in_ok-push.ensures.items in
          let more_groups : groups_of c.match-new_side.groups.items ≡ groups ++ (group ∷ []) =
          ap (λ v. groups_of v.items) w.groups-is ∙ ap (λ items. groups_of items) w.in_ok-push-2.ensures.items
          ∙ map-append (λ g. map signs_of g.items) c.loop-standing.groups.items _ in
          record {
            sides = subst Sides (sym more_sides)
                (subst (λ (z : List Placed). AreSides access z (sides ++ (side ∷ []))) (sym step)
                (subst (λ (one : Side). AreSides access (before ++ (s ∷ [])) (sides ++ (one ∷ []))) (sym is)
                (sides_more access before s sides c.loop-standing.invariant.sides has fresh)));
            groups = subst (λ (ss : List Side). Fit ss (groups_of c.match-new_side.groups.items)) (sym more_sides)
                (subst (Fit (sides ++ (side ∷ []))) (sym more_groups)
                (both_more (IsSideGroup access all) sides groups side group c.loop-standing.invariant.groups w.in_ok-side_group.ensures));
          }
      | in_default w ↦
          let there : HasElement false s → Contains sides (side_of access.requester s) =
          subst (λ (ss : List Side). HasElement false s → Contains ss (side_of access.requester s)) c.as_slice.ensures.value (w.in_default.ensures.none refl) in
          record {
            sides = subst Sides (ap (λ v. v.items) (sym w.sides-is))
                (subst (λ (z : List Placed). AreSides access z sides) (sym step) (sides_skip access before s sides c.loop-standing.invariant.sides there));
            groups = subst (λ ss. Fit ss (groups_of c.match-new_side.groups.items)) (ap (λ v. v.items) (sym w.sides-is))
                (subst (Fit sides) (ap (λ v. groups_of v.items) (sym w.groups-is)) c.loop-standing.invariant.groups);
          }
    ]

pub returns : goal.returns
returns c =
    let access = access_of c.args.access in
    let statements = c.args.statements.now in
    let all = take_all c.loop-standing.standing-index statements (omega (arith, c.loop-standing-test.false)) in (
      c.loop-standing.sides.items,
      subst (λ items. AreSides access (map placed_value items) c.loop-standing.sides.items) all c.loop-standing.invariant.sides,
      c.loop-standing.invariant.groups,
    )
