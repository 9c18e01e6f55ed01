use Rattle.std.proofs.Common.{Global, Vec, ◌++◌, [], ◌∷◌, ◌∙◌, inl, inr, List, ℕ, ap, map, subst, sym, take}
use Rattle.std.specs.List.{Contains}
use Rattle.std.proofs.lemmas.List.{map-append, take_more}
use Rattle.std.proofs.lemmas.List.Elements.{Contains-push_cases}
use Rattle.iam_glob.specs.Glob.{folded}
use Rattle.iam_kinds.specs.Walk.{IsCasedFor}
use Rattle.iam_kinds.proofs.cased.cased_texts.Goals as goal

pub loop-text-preserved : goal.loop-text-preserved
loop-text-preserved c =
    let texts = c.args.texts.now in
    let i = c.loop-text.text-index in
    let text = c.text-item.result in
    let old = c.loop-text.cased.items in
    let shown = c.in_ok-cased_text.field-0 in
    let items : Vec ℕ Global → List ℕ = λ t. t.items in
    let lower : Vec ℕ Global → List ℕ = λ t. map folded t.items in
    let more = take_more texts i text c.loop-text-test.true ∙ ap (λ x. take i texts ++ (x ∷ [])) (sym c.text-item.is) in
    let one = c.in_ok-cased_text.ensures.same ∙ c.deref.ensures.value in
    let all = ap (map items) c.in_ok-push.ensures.items ∙ map-append items old (shown ∷ []) in record {
      same =
          ap (map lower) c.in_ok-push.ensures.items ∙ map-append lower old (shown ∷ [])
          ∙ ap (λ l. l ++ (lower shown ∷ [])) c.loop-text.invariant.same
          ∙ ap (λ x. map items (take i texts) ++ (x ∷ [])) one ∙ sym (ap (map items) more ∙ map-append items (take i texts) (text ∷ []));
      cased = λ t h. elim (Contains-push_cases (map items old) (items shown) t (subst (λ (l : List (List ℕ)). Contains l t) all h)) [
        | inl o ↦ c.loop-text.invariant.cased t o
        | inr e ↦ subst (IsCasedFor c.args.asked.now c.args.own.now.patterns.items) e c.in_ok-cased_text.ensures.cased
      ];
    }
