use Rattle.std.proofs.Common.{◌≡◌, ◌<◌, ◌+◌, ◌∷◌, [], ◌++◌, ◌∙◌, List, None, arith, ap, get_or, length, map, subst, sym, take}
use Rattle.std.proofs.lemmas.List.{get_or-map, length-map, map-append}
use Rattle.iam_decision.specs.Matched.{Selects}
use Rattle.iam_every.proofs.WalkLemmas.{select_more, select_skip}
use Rattle.iam_every_changes.specs.Compared.{WhoValue, who_of}
use Rattle.iam_every_changes.specs.declared.compared.Who.{Who}
use Rattle.iam_app.specs.EveryChanges.{IsWhoMeant}
use Rattle.iam_app.proofs.every_changes.meant_of.Goals as goal
use Rattle.iam_app.proofs.every_changes.meant_of.Goals.{then-is_meant+in_ok-push, else-is_meant}

pub loop-who-preserved : goal.loop-who-preserved
loop-who-preserved c =
    let nobody : Who = record { text = record { ref_ptr = (0, 0); now = [] }; before = None; after = None } in
    let M = IsWhoMeant c.args.patterns.now in
    let i = c.loop-who.who-index in
    let all = map who_of c.args.all.now in
    let who = get_or c.args.all.now i nobody in
    let whos = map who_of c.loop-who.whos.items in
    let count = length-map c.args.all.now who_of in
    let inside : i < length all = omega (arith, c.loop-who-test.true, count) in
    let is = sym (get_or-map who_of c.args.all.now i nobody (who_of who) c.loop-who-test.true) in
    let So : List WhoValue → Type 0 = λ l. Selects M (take (i + 1) all) l in
    elim c.if-is_meant.branch [
      | then-is_meant+in_ok-push w ↦
          let pushed : map who_of c.if-is_meant.whos.items ≡ whos ++ (who_of who ∷ []) =
          ap (λ v. map who_of v.items) w.whos-is ∙ ap (map who_of) w.in_ok-push.ensures.items ∙ map-append who_of c.loop-who.whos.items (who ∷ []) in
          subst So (sym pushed) (select_more M all i (who_of who) whos inside is c.loop-who.invariant (c.is_meant.ensures.0 w.if-is_meant.true))
      | else-is_meant w ↦
          subst So (ap (λ v. map who_of v.items) (sym w.whos-is))
          (select_skip M all i (who_of who) whos inside is c.loop-who.invariant
          (λ meant. let yes = c.is_meant.ensures.1 meant in let wrong : ⊥ = cc in wrong))
    ]
