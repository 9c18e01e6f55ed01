-- Action elements are collected.
use Rattle.std.proofs.Common.{◌≡◌, ◌∷◌, ◌++◌, [], List, Contains, append_assoc, subst, sym}
use Rattle.iam_element.specs.Reading.{ActionElement}
use Rattle.iam_every.specs.Elements.{Adds}
use Rattle.iam_every.specs.OwnGroups.{AreFirsts}
use Rattle.iam_every.proofs.FirstLemmas.{firsts_more, firsts_skip}

pub adds_more : (old before now more new : List ActionElement) → Adds old before now → Adds now more new → Adds old (before ++ more) new
adds_more old before now more new first further listed firsts =
    subst (λ (l : List ActionElement). AreFirsts [] l new) (append_assoc listed before more) (further (listed ++ before) (first listed firsts))

pub adds_one : (old new : List ActionElement) (element : ActionElement) → ¬ Contains old element → new ≡ old ++ element ∷ [] → Adds old (element ∷ []) new
adds_one old new element never is listed firsts =
    subst (λ (l : List ActionElement). AreFirsts [] (listed ++ element ∷ []) l) (sym is) (firsts_more [] listed old element firsts never)

pub adds_same : (old : List ActionElement) (element : ActionElement) → Contains old element → Adds old (element ∷ []) old
adds_same old element there listed firsts = firsts_skip [] listed old element firsts there
