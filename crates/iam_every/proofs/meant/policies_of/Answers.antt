use Rattle.std.proofs.Common.{◌≡◌, ◌⊎◌, ◌+◌, ◌<◌, ◌∷◌, ◌++◌, [], ◌∙◌, List, ap, length, map, subst, sym, take, get_or}
use Rattle.std.proofs.lemmas.List.{take_all}
use Rattle.iam_decision.specs.Applicable.{value_of}
use Rattle.iam_decision.specs.declared.applicable.Applicable.{Applicable}
use Rattle.iam_layers.specs.Unnamed.{AreUnnamedPolicies}
use Rattle.iam_layers.specs.declared.unnamed.Unnamed.TheVariants.{Like}
use Rattle.iam_every.specs.OwnActions.{IsPlain}
use Rattle.iam_every.proofs.MeantLemmas.{Looked, looked_added, looked_kept}
use Rattle.iam_every.proofs.meant.policies_of.Goals as goal
use Rattle.iam_every.proofs.meant.policies_of.Goals.{then-is_needed+in_ok-push, else-is_needed}

pub loop-unnamed-preserved : goal.loop-unnamed-preserved
loop-unnamed-preserved c =
    let world = c.args.world.now in
    let said = c.args.said.now in
    let i = c.loop-unnamed.unnamed-index in
    let unnamed = get_or said i (Like 0) in
    let applicable = c.unnamed_applicable-applicable.result in
    let before = c.loop-unnamed.policies.items in
    let are : AreUnnamedPolicies world c.args.p unnamed (value_of applicable) = c.unnamed_applicable-applicable.ensures.value in
    let Are : List Applicable → Type 0 = λ l. Looked world c.args.p (take (i + 1) said) (map value_of l) in
    elim c.if-is_needed.branch [
      | then-is_needed+in_ok-push w ↦
          let is : c.if-is_needed.policies.items ≡ before ++ applicable ∷ [] = ap (λ v. v.items) w.policies-is ∙ w.in_ok-push.ensures.items in
          subst Are (sym is)
          (looked_added world c.args.p said i (Like 0) before applicable c.loop-unnamed-test.true c.loop-unnamed.invariant are c.unnamed_applicable-applicable.ensures.numbered
          c.requires.there (subst (λ (l : List Applicable). (l ≡ []) ⊎ ¬ IsPlain (value_of applicable)) c.as_slice.ensures.value (c.is_needed.ensures.needed w.if-is_needed.true)))
      | else-is_needed w ↦
          let is : c.if-is_needed.policies.items ≡ before = ap (λ v. v.items) w.policies-is in
          let plain = c.is_needed.ensures.needless w.if-is_needed.false in
          let some : 0 < length before = subst (λ (l : List Applicable). 0 < length l) c.as_slice.ensures.value plain.0 in
          subst Are (sym is)
          (looked_kept world c.args.p said i (Like 0) before applicable c.loop-unnamed-test.true c.loop-unnamed.invariant are c.requires.there some plain.1)
    ]

pub returns-clause-numbered : goal.returns-clause-numbered
returns-clause-numbered c =
    let looked : Looked c.args.world.now c.args.p c.args.said.now (map value_of c.loop-unnamed.policies.items) =
    subst (λ l. Looked c.args.world.now c.args.p l (map value_of c.loop-unnamed.policies.items))
    (take_all c.loop-unnamed.unnamed-index c.args.said.now c.loop-unnamed-test.false) c.loop-unnamed.invariant in
    looked.numbered

pub returns-clause-own : goal.returns-clause-own
returns-clause-own c =
    let looked : Looked c.args.world.now c.args.p c.args.said.now (map value_of c.loop-unnamed.policies.items) =
    subst (λ l. Looked c.args.world.now c.args.p l (map value_of c.loop-unnamed.policies.items))
    (take_all c.loop-unnamed.unnamed-index c.args.said.now c.loop-unnamed-test.false) c.loop-unnamed.invariant in
    looked.own

pub returns-clause-cover : goal.returns-clause-cover
returns-clause-cover c =
    let looked : Looked c.args.world.now c.args.p c.args.said.now (map value_of c.loop-unnamed.policies.items) =
    subst (λ l. Looked c.args.world.now c.args.p l (map value_of c.loop-unnamed.policies.items))
    (take_all c.loop-unnamed.unnamed-index c.args.said.now c.loop-unnamed-test.false) c.loop-unnamed.invariant in
    looked.cover
