-- Contexts in which some of the open keys have the values that are tried, and what is said of a request in them.
use Rattle.std.specs.Prelude.{◌≡◌, ◌≤◌, ◌++◌, ℕ, List, Option, Some, None, IfSome, take, true}
use Rattle.iam_context.specs.Context.{ContextValue, derived_names, has_key, keys_of, values_of}
use Rattle.iam_decision.specs.declared.verdict.Decision.{Decision}
use Rattle.iam_decision.specs.declared.verdict.Decision.TheVariants.{Allowed}
use Rattle.iam_layers.specs.Cell.{IsPrincipal, IsResource}
use Rattle.iam_layers.specs.Own.{IsCleanAt}
use Rattle.iam_open.specs.InQuestion.{IsDecisionIn}
use Rattle.iam_world.specs.World.{WorldValue}

-- these keys have the values of the part, and the moment is this one, if there is one
pub record IsTried (part : ContextValue) (at : Option ℕ) (own : ContextValue) (moment : ℕ) : Type 0 where
  pub keys : (key : List ℕ) → has_key (keys_of part) key ≡ true → values_of own key ≡ values_of part key
  pub tried : IfSome at (λ then. moment ≡ then)

-- in none of those contexts from the world's moment on is it allowed, and in each of them
abbrev pub IsNeverWhere : WorldValue → ℕ → ℕ → ℕ → ContextValue → Option ℕ → Type 0
IsNeverWhere world p a r part at =
    (own : ContextValue) (moment : ℕ) → IsCleanAt world p r own → IsTried part at own moment → world.moment ≤ moment
    → ¬ IsDecisionIn world p a r own moment Allowed

abbrev pub IsAlwaysWhere : WorldValue → ℕ → ℕ → ℕ → ContextValue → Option ℕ → Type 0
IsAlwaysWhere world p a r part at =
    (own : ContextValue) (moment : ℕ) (decision : Decision) → IsCleanAt world p r own → IsTried part at own moment → world.moment ≤ moment
    → IsDecisionIn world p a r own moment decision → decision ≡ Allowed

-- the derived keys whose values are known: all, where the moment is; else those that do not follow from it
abbrev pub derived_known : Option ℕ → List (List ℕ)
derived_known (Some moment) = derived_names
derived_known None = take 5 derived_names

-- these are the keys that are known where principal p asks for resource r
abbrev pub AreKnownAt : WorldValue → ℕ → ℕ → ContextValue → Option ℕ → List (List ℕ) → Type 0
AreKnownAt world p r tried at known =
    IsPrincipal world p (λ principal. IsResource world r (λ resource.
    known
    ≡ keys_of world.context
    ++ (keys_of principal.context ++ (keys_of resource.context ++ (keys_of tried ++ derived_known at)))))
