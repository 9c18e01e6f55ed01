-- The least fault of a line, and that a line has at most one meaning.
use Rattle.std.proofs.Common.{ℕ, ◌<◌, ◌≤◌, map, inl, inr, List, sym, ap, subst, ◌∙◌, ⊎_elim, arith}
use Rattle.std.proofs.lemmas.Bool.{cases_lt}
use Rattle.std.proofs.lemmas.Option.{slice_get-map}
use Rattle.std.specs.Option.{option_map}
use Rattle.iam_world.specs.World.{WorldValue}
use Rattle.iam_asked.specs.Code.Found.{IsOnlyOr, IsSaidFault}
use Rattle.iam_asked.specs.Fault.{SaidHasFault, line_number_of}
use Rattle.iam_asked.specs.Said.{SaidValue}
use Rattle.iam_asked.specs.Texts.{IsActionAt, IsAt, IsNoAction, IsNowhere, IsOnlyAt, IsTwice, folded, principal_texts, resource_texts}
use Rattle.iam_asked.specs.declared.fault.LineFault.{LineFault}
use Rattle.iam_asked.specs.declared.fault.LineFault.TheVariants.{NotJson, BadShape, NoPrincipal, SeveralPrincipals, NoAction, NoResource, SeveralResources, Context, TooMany, ContextsTooLarge, OutOfMemory}

-- ---- places

pub only_is_not_twice : (texts : List (List ℕ)) (text : List ℕ) (n : ℕ) → IsOnlyAt texts text n → ¬ IsTwice texts text
only_is_not_twice texts text n only (m, k, apart, one, two) = apart (only.1 m one ∙ sym (only.1 k two))

pub twice_is_there : (texts : List (List ℕ)) (text : List ℕ) → IsTwice texts text → ¬ IsNowhere texts text
twice_is_there texts text (m, k, apart, one, two) none = none m one

pub only_is_there : (texts : List (List ℕ)) (text : List ℕ) (n : ℕ) → IsOnlyAt texts text n → ¬ IsNowhere texts text
only_is_there texts text n only none = none n only.0

-- an action that is a text letter by letter is it without regard to case too
folded_at : (actions : List (List ℕ)) (text : List ℕ) (n : ℕ) → IsAt actions text n → IsAt (map folded actions) (folded text) n
folded_at actions text n at = slice_get-map folded actions n ∙ ap (option_map folded) at

pub action_is_there : (actions : List (List ℕ)) (text : List ℕ) (n : ℕ) → IsActionAt actions text n → ¬ IsNoAction actions text
action_is_there actions text n (inl first) none = none n (folded_at actions text n first.0)
action_is_there actions text n (inr (nowhere, first)) none = none n first.0

-- ---- the least fault of what a line says

-- no fault has a number below k where none of those below k is there
pub least_said : (world : WorldValue) (said : SaidValue) (k : ℕ) → k ≤ 8 → (3 < k → ¬ IsNowhere (principal_texts world) said.principal)
    → (4 < k → ¬ IsTwice (principal_texts world) said.principal) → (5 < k → ¬ IsNoAction world.actions said.action)
    → (6 < k → ¬ IsNowhere (resource_texts world) said.resource) → (7 < k → ¬ IsTwice (resource_texts world) said.resource)
    → (other : LineFault) → SaidHasFault world said other → k ≤ line_number_of other
least_said world said k few a b c d e NotJson has = absurd has
least_said world said k few a b c d e BadShape has = absurd has
least_said world said k few a b c d e NoPrincipal has = ⊎_elim (λ h. absurd (a h has)) (λ h. h) (cases_lt 3 k)
least_said world said k few a b c d e SeveralPrincipals has = ⊎_elim (λ h. absurd (b h has)) (λ h. h) (cases_lt 4 k)
least_said world said k few a b c d e NoAction has = ⊎_elim (λ h. absurd (c h has)) (λ h. h) (cases_lt 5 k)
least_said world said k few a b c d e NoResource has = ⊎_elim (λ h. absurd (d h has)) (λ h. h) (cases_lt 6 k)
least_said world said k few a b c d e SeveralResources has = ⊎_elim (λ h. absurd (e h has)) (λ h. h) (cases_lt 7 k)
least_said world said k few a b c d e (Context fault) has = few
least_said world said k few a b c d e TooMany has = absurd has
least_said world said k few a b c d e ContextsTooLarge has = absurd has
least_said world said k few a b c d e OutOfMemory has = absurd has

pub principal_fault : (world : WorldValue) (said : SaidValue) (fault : LineFault)
    → IsOnlyOr NoPrincipal SeveralPrincipals (principal_texts world) said.principal fault → IsSaidFault world said fault
principal_fault world said fault (inl (is, none)) =
    subst (IsSaidFault world said) (sym is)
    (
    record {
      holds = none;
      least =
          least_said world said 3 (omega arith) (λ h. absurd (omega (arith, h))) (λ h. absurd (omega (arith, h))) (λ h. absurd (omega (arith, h)))
          (λ h. absurd (omega (arith, h))) (λ h. absurd (omega (arith, h)));
    }
    )
principal_fault world said fault (inr (is, twice)) =
    subst (IsSaidFault world said) (sym is)
    (
    record {
      holds = twice;
      least =
          least_said world said 4 (omega arith) (λ h. twice_is_there (principal_texts world) said.principal twice) (λ h. absurd (omega (arith, h)))
          (λ h. absurd (omega (arith, h))) (λ h. absurd (omega (arith, h))) (λ h. absurd (omega (arith, h)));
    }
    )

pub action_fault : (world : WorldValue) (said : SaidValue) (p : ℕ) → IsOnlyAt (principal_texts world) said.principal p → IsNoAction world.actions said.action
    → IsSaidFault world said NoAction
action_fault world said p only none = record {
  holds = none;
  least =
      least_said world said 5 (omega arith) (λ h. only_is_there (principal_texts world) said.principal p only)
      (λ h. only_is_not_twice (principal_texts world) said.principal p only) (λ h. absurd (omega (arith, h))) (λ h. absurd (omega (arith, h)))
      (λ h. absurd (omega (arith, h)));
}

pub resource_fault : (world : WorldValue) (said : SaidValue) (p a : ℕ) (fault : LineFault) → IsOnlyAt (principal_texts world) said.principal p
    → IsActionAt world.actions said.action a → IsOnlyOr NoResource SeveralResources (resource_texts world) said.resource fault
    → IsSaidFault world said fault
resource_fault world said p a fault only action (inl (is, none)) =
    subst (IsSaidFault world said) (sym is)
    (
    record {
      holds = none;
      least =
          least_said world said 6 (omega arith) (λ h. only_is_there (principal_texts world) said.principal p only)
          (λ h. only_is_not_twice (principal_texts world) said.principal p only) (λ h. action_is_there world.actions said.action a action)
          (λ h. absurd (omega (arith, h))) (λ h. absurd (omega (arith, h)));
    }
    )
resource_fault world said p a fault only action (inr (is, twice)) =
    subst (IsSaidFault world said) (sym is)
    (
    record {
      holds = twice;
      least =
          least_said world said 7 (omega arith) (λ h. only_is_there (principal_texts world) said.principal p only)
          (λ h. only_is_not_twice (principal_texts world) said.principal p only) (λ h. action_is_there world.actions said.action a action)
          (λ h. twice_is_there (resource_texts world) said.resource twice) (λ h. absurd (omega (arith, h)));
    }
    )

-- what has numbers has none of the faults of names
pub least_numbered : (world : WorldValue) (said : SaidValue) (p a r : ℕ) → IsOnlyAt (principal_texts world) said.principal p
    → IsActionAt world.actions said.action a → IsOnlyAt (resource_texts world) said.resource r → (other : LineFault) → SaidHasFault world said other
    → 8 ≤ line_number_of other
least_numbered world said p a r principal action resource =
    least_said world said 8 (omega arith) (λ h. only_is_there (principal_texts world) said.principal p principal)
    (λ h. only_is_not_twice (principal_texts world) said.principal p principal) (λ h. action_is_there world.actions said.action a action)
    (λ h. only_is_there (resource_texts world) said.resource r resource) (λ h. only_is_not_twice (resource_texts world) said.resource r resource)
