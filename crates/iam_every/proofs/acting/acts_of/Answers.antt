use Rattle.std.proofs.Common.{◌≡◌, ◌↔◌, ◌+◌, ◌∷◌, [], ◌++◌, ◌∙◌, ℕ, IsTrue, List, String, ap, arith, map, string_bytes, subst, sym, take}
use Rattle.std.proofs.lemmas.List.{map_more, take_all}
use Rattle.std.specs.Global.{Global}
use Rattle.iam_match.specs.Statement.{ActionMatches}
use Rattle.iam_every.specs.Code.Picked.{TellEach}
use Rattle.iam_every.proofs.SideLemmas.{both_more}
use Rattle.iam_every.proofs.acting.acts_of.Goals as goal

pub loop-action-preserved : goal.loop-action-preserved
loop-action-preserved c =
    let P = ActionMatches c.args.element.now in
    let actions = c.args.actions.now in
    let i = c.loop-action.action-index in
    let action = c.as_str.result.now in
    let before = map string_bytes (take i actions) in
    let taken : before ++ (action ∷ []) ≡ map string_bytes (take (i + 1) actions) =
    ap (λ (x : List ℕ). before ++ (x ∷ [])) c.as_str.ensures.value
    ∙ ap (λ (x : String Global). before ++ (string_bytes x ∷ [])) c.action-item.is ∙ sym (map_more string_bytes actions i c.action-item.result c.loop-action-test.true) in
    subst (λ (xs : List (List ℕ)). TellEach P xs c.push.new.self.items) taken
    (subst (TellEach P (before ++ (action ∷ []))) (sym c.in_ok-push.ensures.items)
    (both_more (λ a bit. IsTrue bit ↔ P a) before c.loop-action.acts.items action c.action_matches.result c.loop-action.invariant c.action_matches.ensures))

pub returns : goal.returns
returns c =
    subst (λ (xs : List (String Global)). TellEach (ActionMatches c.args.element.now) (map string_bytes xs) c.loop-action.acts.items)
    (take_all c.loop-action.action-index c.args.actions.now (omega (arith, c.loop-action-test.false))) c.loop-action.invariant
