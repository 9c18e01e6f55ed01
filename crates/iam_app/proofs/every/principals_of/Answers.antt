use Rattle.std.proofs.Common.{rules, ◌≡◌, ◌∙◌, ◌<◌, ◌++◌, ◌∷◌, [], ℕ, All, ap, length, subst, sym}
use Rattle.std.proofs.lemmas.List.Elements.{All-push}
use Rattle.std.specs.Global.{Vec}
use Rattle.iam_app.specs.Names.{IsPrincipalMeant}
use Rattle.iam_app.proofs.NamingLemmas.{is_meant_at, next_chosen, next_passed}
use Rattle.iam_app.proofs.every.principals_of.Goals as goal
use Rattle.iam_app.proofs.every.principals_of.Goals.{then-is_meant+in_ok-push, else-is_meant}

pub loop-p-preserved : goal.loop-p-preserved
loop-p-preserved c =
    let p = c.loop-p.p in
    let world = c.args.world.now in
    let before = c.loop-p.principals.items in
    let after = c.if-is_meant.principals.items in
    let P : ℕ → Type 0 = IsPrincipalMeant c.args.patterns.now world in
    let N : ℕ → Type 0 = λ q. q < length world.principals in
    let is = is_meant_at c.args.patterns.now world p c.principal_text.result.now c.principal_text.ensures in
    let below : p < length world.principals = search rules in
    elim c.if-is_meant.branch [
      | then-is_meant+in_ok-push w ↦
          let added : after ≡ before ++ p ∷ [] = ap (λ (v : Vec ℕ). v.items) w.principals-is ∙ w.in_ok-push.ensures.items in
          record {
            meant = next_chosen P p before after c.loop-p.invariant.meant (is.0 (c.is_meant.ensures.0 w.if-is_meant.true)) added;
            known = subst (All N) (sym added) (All-push N before p c.loop-p.invariant.known below);
          }
      | else-is_meant w ↦
          let same : after ≡ before = ap (λ (v : Vec ℕ). v.items) w.principals-is in
          record {
            meant = next_passed P p before after c.loop-p.invariant.meant
                (λ h. let yes = c.is_meant.ensures.1 (is.1 h) in let wrong : ⊥ = cc in wrong) same;
            known = subst (All N) (sym same) c.loop-p.invariant.known;
          }
    ]
