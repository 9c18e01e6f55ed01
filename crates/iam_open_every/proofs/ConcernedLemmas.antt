-- Statements that may concern requests, one more at a time.
use Rattle.std.proofs.Common.{◌≡◌, ◌+◌, ◌<◌, inl, inr, ℕ, List, [], ◌∷◌, ◌++◌, All, get_or, length, subst, sym, take}
use Rattle.std.specs.List.{Contains}
use Rattle.std.proofs.lemmas.List.Elements.{Contains-append_left, Contains-push, Contains-push_cases}
use Rattle.iam_context.specs.Context.{ContextValue}
use Rattle.iam_decision.specs.Matched.{Placed}
use Rattle.iam_match.specs.Statement.{AccessValue}
use Rattle.iam_open.specs.Code.Known.{Follows}
use Rattle.iam_open.proofs.ListLemmas.{push_all, taken_more}
use Rattle.iam_open_every.specs.Concerned.{AreConcerned, ConcernsIn, MayConcern}

-- those found are among more statements too
among_more : (statements : List Placed) (x : Placed) (found : List Placed) → All (λ s. Contains statements s) found
    → All (λ s. Contains (statements ++ x ∷ []) s) found
among_more statements x found among = λ k d below. Contains-append_left statements (x ∷ []) (get_or found k d) (among k d below)

-- one that may concern requests is put behind the others
concerned_put : (access : AccessValue) (known : List (List ℕ)) (statements : List Placed) (x : Placed) (found : List Placed)
    → MayConcern access known x → AreConcerned access known statements found → AreConcerned access known (statements ++ x ∷ []) (found ++ x ∷ [])
concerned_put access known statements x found may are = record {
  each = push_all (MayConcern access known) found x are.each may;
  among = push_all (λ s. Contains (statements ++ x ∷ []) s) found x (among_more statements x found are.among) (Contains-push statements x);
  all = λ context at s inside concerns. elim (Contains-push_cases statements x s inside) [
    | inl before ↦ Contains-append_left found (x ∷ []) s (are.all context at s before concerns)
    | inr it ↦ subst (λ (y : Placed). Contains (found ++ x ∷ []) y) it (Contains-push found x)
  ];
}

-- one that concerns none is left out
concerned_left : (access : AccessValue) (known : List (List ℕ)) (statements : List Placed) (x : Placed) (found : List Placed)
    → ((context : ContextValue) → Follows known access.context context → ¬ ConcernsIn access context x)
    → AreConcerned access known statements found → AreConcerned access known (statements ++ x ∷ []) found
concerned_left access known statements x found none are = record {
  each = are.each;
  among = among_more statements x found are.among;
  all = λ context at s inside concerns. elim (Contains-push_cases statements x s inside) [
    | inl before ↦ are.all context at s before concerns
    | inr it ↦ absurd (none context at (subst (λ (y : Placed). ConcernsIn access context y) (sym it) concerns))
  ];
}

-- of the first statements and one more
pub concerned_more : (access : AccessValue) (known : List (List ℕ)) (statements : List Placed) (i : ℕ) (x : Placed) (found : List Placed)
    → i < length statements → x ≡ get_or statements i x → MayConcern access known x → AreConcerned access known (take i statements) found
    → AreConcerned access known (take (i + 1) statements) (found ++ x ∷ [])
concerned_more access known statements i x found below at may are =
    subst (λ (xs : List Placed). AreConcerned access known xs (found ++ x ∷ [])) (sym (taken_more statements i x below at))
    (concerned_put access known (take i statements) x found may are)

pub concerned_skip : (access : AccessValue) (known : List (List ℕ)) (statements : List Placed) (i : ℕ) (x : Placed) (found : List Placed)
    → i < length statements → x ≡ get_or statements i x
    → ((context : ContextValue) → Follows known access.context context → ¬ ConcernsIn access context x)
    → AreConcerned access known (take i statements) found → AreConcerned access known (take (i + 1) statements) found
concerned_skip access known statements i x found below at none are =
    subst (λ (xs : List Placed). AreConcerned access known xs found) (sym (taken_more statements i x below at))
    (concerned_left access known (take i statements) x found none are)
