use Rattle.std.proofs.Common.{◌≡◌, ◌+◌, ◌∙◌, ◌∷◌, [], ◌++◌, List, ap, not, refl, subst, sym}
use Rattle.iam_every_changes.specs.declared.compared.Who.{Who}
use Rattle.iam_asked.specs.Texts.{principal_texts}
use Rattle.std.specs.Option.{option_copied}
use Rattle.iam_asked.specs.Code.Found.{IsPlaceOf}
use Rattle.iam_every_changes.proofs.PrincipalLemmas.{AreAlone, adds_nothing, alone_more, alone_passed, has_place, no_place}
use Rattle.iam_every_changes.proofs.principals.add_alone.Goals as goal
use Rattle.iam_every_changes.proofs.principals.add_alone.Goals.{then-is_none+in_ok-push, else-is_none}

pub loop-p-init : goal.loop-p-init
loop-p-init c = λ after was now. ([], refl, adds_nothing c.args.before.now after c.args.whos.now.items)

pub loop-p-preserved : goal.loop-p-preserved
loop-p-preserved c = λ after was now.
    let before = c.args.before.now in
    let p = c.loop-p.p in
    let text = c.principal_text-text.result.now in
    let old = c.args.whos.now.items in
    let so_far = c.loop-p.whos.items in
    let place : IsPlaceOf (principal_texts after) text (option_copied c.get.result) = subst (IsPlaceOf (principal_texts after) text) (sym c.get.ensures.value) (now text) in
    let before_this = c.loop-p.invariant after was now in
    elim c.if-is_none.branch [
      | then-is_none+in_ok-push w ↦
          let added : c.if-is_none.whos.items ≡ so_far ++ (w.who.result ∷ []) = ap (λ v. v.items) w.whos-is ∙ w.in_ok-push.ensures.items in
          alone_more before after p text w.who.result old so_far c.if-is_none.whos.items c.principal_text-text.ensures before_this
          (no_place (principal_texts after) text c.get.result place (ap (λ b. not b) (c.is_none.ensures ∙ ap (λ b. not b) w.if-is_none.true))) (w.who.ensures before after was now) added
      | else-is_none w ↦
          subst (λ (l : List Who). AreAlone before after (p + 1) old l) (ap (λ v. v.items) (sym w.whos-is))
          (alone_passed before after p text old so_far c.principal_text-text.ensures before_this
          (has_place (principal_texts after) text c.get.result place (ap (λ b. not b) (c.is_none.ensures ∙ ap (λ b. not b) w.if-is_none.false))))
    ]
