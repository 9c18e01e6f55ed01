use Rattle.std.proofs.Common.{◌≡◌, ◌++◌, ◌∷◌, ◌≤◌, [], List, Some, length, map, take, ap, sym, subst, ◌∙◌, arith}
use Rattle.std.proofs.lemmas.List.{take_all}
use Rattle.std.proofs.lemmas.Option.{get_or_from_slice_get, slice_get-get_or}
use Rattle.std.specs.List.{slice_get}
use Rattle.iam_match.specs.Request.{access_of}
use Rattle.iam_decision.specs.Code.Scan.{placed_value}
use Rattle.iam_decision.specs.Living.{AreLiving, Lives, LivingValue, living_of, living_value}
use Rattle.iam_decision.specs.Matched.{Placed}
use Rattle.iam_decision.specs.declared.scan.Standing.{Standing}
use Rattle.iam_index.proofs.IndexLemmas.{one_behind}
use Rattle.iam_index.proofs.ListLemmas.{get_within}
use Rattle.iam_living.specs.Living.{AddsLiving}
use Rattle.iam_living.proofs.WordLemmas.{living_more, living_skip, not_both}
use Rattle.iam_living.proofs.walk.add_known.Goals as goal
use Rattle.iam_living.proofs.walk.add_known.Goals.{then-branch+in_ok-push_living, else-branch}

pub lives-requires-clause-told : goal.lives-requires-clause-told
lives-requires-clause-told c =
    let (p, derived, at, told) = c.requires.told in (p, derived, at, c.loop-i.invariant.told p derived at told)

pub loop-i-preserved : goal.loop-i-preserved
loop-i-preserved c = record {
  living = λ before are.
      let access = access_of c.args.access in
      let statements = c.statements-statements.result.now in
      let i = c.loop-i.i in
      let below = c.loop-i-test.true in
      let old : List LivingValue = map living_value c.loop-i.living.items in
      let new : List LivingValue = map living_value c.if-branch.living.items in
      let so_far : List Placed = before ++ map placed_value (take i statements) in
      let P : List Placed → Type 0 = λ z. AreLiving access z new in
      let told = ap (λ (z : List Standing). slice_get z i) (sym c.statements-statements.ensures) in
      elim c.if-branch.branch [
        | then-branch+in_ok-push_living w ↦
            let standing : Standing = w.index-statements-i.result in
            let at : slice_get statements i ≡ Some standing = slice_get-get_or statements i standing below ∙ ap Some (sym w.index-statements-i.is) in
            let lives = (c.in_ok-lives.ensures.lives standing (told ∙ at)).0 w.if-branch.true in
            let pushed : new ≡ old ++ (living_of access.requester (placed_value standing) ∷ []) =
            ap (λ v. map living_value v.items) w.living-is ∙ w.in_ok-push_living.ensures in
            subst P (one_behind before statements i standing below w.index-statements-i.is)
            (living_more access so_far (placed_value standing) old new lives pushed (c.loop-i.invariant.living before are))
        | else-branch w ↦
            let (standing, at) = get_within statements i below in
            let dead : ¬ Lives access (placed_value standing) = λ lives.
            not_both c.in_ok-lives.field-0 w.if-branch.false ((c.in_ok-lives.ensures.lives standing (told ∙ at)).1 lives) in
            let S : List LivingValue → Type 0 = λ z. AreLiving access (so_far ++ (placed_value standing ∷ [])) z in
            let same : new ≡ old = ap (λ v. map living_value v.items) w.living-is in
            subst P (one_behind before statements i standing below (sym (get_or_from_slice_get statements i standing standing at)))
            (subst S (sym same) (living_skip access so_far (placed_value standing) old dead (c.loop-i.invariant.living before are)))
      ];
  told = λ p derived at told. c.in_ok-lives.ensures.told p derived at (c.loop-i.invariant.told p derived at told);
}

pub returns-in_err-lives-clause-told : goal.returns-in_err-lives-clause-told
returns-in_err-lives-clause-told c = λ p derived at told. c.in_err-lives.ensures.told p derived at (c.loop-i.invariant.told p derived at told)

pub returns-in_err-push_living-clause-told : goal.returns-in_err-push_living-clause-told
returns-in_err-push_living-clause-told c = λ p derived at told. c.in_ok-lives.ensures.told p derived at (c.loop-i.invariant.told p derived at told)

pub returns-clause-living : goal.returns-clause-living
returns-clause-living c =
    let P : List Standing → Type 0 = λ z.
    AddsLiving (access_of c.args.access) (map placed_value z) (map living_value c.args.living.now.items) (map living_value c.loop-i.living.items) in
    let past : length c.statements-statements.result.now ≤ c.loop-i.i = omega (arith, c.loop-i-test.false) in
    subst P (take_all c.loop-i.i c.statements-statements.result.now past ∙ c.statements-statements.ensures) c.loop-i.invariant.living
