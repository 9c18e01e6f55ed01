use Rattle.std.proofs.Common.{◌≡◌, ◌<◌, ◌+◌, ◌++◌, ◌∷◌, [], ◌↔◌, IsTrue, IfSome, List, Some, get_or, length, map, take, sym, ◌∙◌, ap, subst, arith}
use Rattle.std.proofs.lemmas.List.{get_or-map, length-map}
use Rattle.std.proofs.lemmas.Option.{slice_get-get_or}
use Rattle.std.specs.List.{slice_get}
use Rattle.iam_match.specs.Statement.{ActionMatches}
use Rattle.iam_decision.specs.Living.{Acts, AreActing, LivingValue, living_value}
use Rattle.iam_decision.specs.declared.living.Living.{Living}
use Rattle.iam_decision.specs.declared.living.Matched.{Matched}
use Rattle.iam_index.proofs.ListLemmas.{some_same}
use Rattle.iam_index.proofs.elements.put_acting.Goals as goal
use Rattle.iam_index.proofs.elements.put_acting.Goals.{then-acts+in_ok-push, else-acts}

pub loop-i-preserved : goal.loop-i-preserved
loop-i-preserved c = λ world rows asked.
    let action = c.args.text.now in
    let living = c.args.living.now in
    let xs : List LivingValue = map living_value living in
    let i = c.loop-i.i in
    let y = c.index-living-i.result in
    let x : LivingValue = living_value y in
    let found = c.loop-i.found.items in
    let inside : i < length living = c.loop-i-test.true in
    let long : length xs ≡ length living = length-map living living_value in
    let below : i < length xs = omega (arith, long, inside) in
    let here : x ≡ get_or xs i x = ap living_value c.index-living-i.is ∙ sym (get_or-map living_value living i y x inside) in
    let at : slice_get xs i ≡ Some x = slice_get-get_or xs i x below ∙ ap Some (sym here) in
    let told = c.act_of.ensures world xs x action rows at asked in
    let T : Living → Type 0 = λ z. IfSome c.act_of.result (λ act. IsTrue act ↔ ActionMatches z.action.now action) in
    let A : Living → Type 0 = λ z. IsTrue c.acts.result ↔ ActionMatches z.action.now action in
    let act : IsTrue c.acts.result ↔ Acts action x = subst A (sym c.index-living-i.is) (c.acts.ensures (subst T c.index-living-i.is told)) in
    let more = c.acting_are_found.ensures.more action xs i x found below here (c.loop-i.invariant world rows asked) in
    let Q : List Matched → Type 0 = λ items. AreActing action (take (i + 1) xs) items in
    elim c.if-acts.branch [
      | then-acts+in_ok-push w ↦
          let z = w.index-living-i-then-acts.result in
          let first : slice_get living i ≡ Some y = slice_get-get_or living i y inside ∙ ap Some (sym c.index-living-i.is) in
          let again : slice_get living i ≡ Some z = slice_get-get_or living i z inside ∙ ap Some (sym w.index-living-i-then-acts.is) in
          let same : z.matched ≡ x.matched = ap (λ (l : Living). l.matched) (some_same z y (sym again ∙ first)) in
          let M : Matched → Type 0 = λ m. Q (found ++ m ∷ []) in
          let R : Living → Type 0 = λ l. M l.matched in
          let added = subst R w.index-living-i-then-acts.is (subst M (sym same) (more.0 (act.0 w.if-acts.true))) in
          subst Q (sym (ap (λ v. v.items) w.found-is ∙ w.in_ok-push.ensures.items)) added
      | else-acts w ↦
          let idle : ¬ Acts action x = λ acts. let yes = act.1 acts in let no = w.if-acts.false in let wrong : ⊥ = cc in wrong in
          subst Q (sym (ap (λ v. v.items) w.found-is)) (more.1 idle)
    ]
