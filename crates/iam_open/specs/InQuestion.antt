-- Contexts in question: those that a request may have, whatever values the keys have that nothing gives, from the moment of the worlds on
-- that are asked about. And what is said of a request in all of them: AWS IAM User Guide, "AWS global condition context keys". LOGIC 9.1 and 11.6.
use Rattle.std.specs.Prelude.{◌≡◌, ◌⊎◌, ◌≤◌, ℕ, List, All, Any, IsSome, IsTrue, length}
use Rattle.std.specs.Str.{IsUtf8}
use Rattle.iam_condition.specs.Entry.{EntryValue}
use Rattle.iam_context.specs.Context.{ContextValue, is_same_key}
use Rattle.iam_decision.specs.declared.verdict.Decision.{Decision}
use Rattle.iam_decision.specs.declared.verdict.Decision.TheVariants.{Allowed}
use Rattle.iam_layers.specs.Own.{IsCleanAt, IsOwnDecision}
use Rattle.iam_world.specs.World.{WorldValue, policies_of}

-- the last second of the year 9999, the last moment that a world may have
abbrev pub last_moment : ℕ
last_moment = 253402300799

-- the entry asks for several values of the key: it stands under `ForAllValues` or `ForAnyValue`
abbrev pub AsksForSeveral : List ℕ → EntryValue → Type 0
AsksForSeveral key entry = IsSome entry.operator.quantifier × IsTrue (is_same_key entry.key key)

-- some entry of the policies of one of the worlds does
abbrev pub MayHaveSeveral : List WorldValue → List ℕ → Type 0
MayHaveSeveral worlds key =
    Any (λ world. Any (λ policy. Any (λ s. Any (AsksForSeveral key) s.conditions) policy.statements) (policies_of world)) worlds

-- keys and a moment that requests may have where these worlds are asked about, whichever of them has the request: each key has at most one
-- value, unless it may have several
pub record MayBeGiven (worlds : List WorldValue) (own : ContextValue) (moment : ℕ) : Type 0 where
  pub texts : All (λ entry. IsUtf8 entry.0 × All IsUtf8 entry.1) own
  pub few : All (λ entry. (length entry.1 ≤ 1) ⊎ MayHaveSeveral worlds entry.0) own
  pub from : All (λ world. world.moment ≤ moment) worlds
  pub to : moment ≤ last_moment

-- principal p may ask for resource r of the world at this moment and give these keys of its own: each of them is open there, which is
-- that no part of the context gives it and that it follows from nothing
pub record IsInQuestion (worlds : List WorldValue) (world : WorldValue) (p r : ℕ) (own : ContextValue) (moment : ℕ) : Type 0 where
  pub given : MayBeGiven worlds own moment
  pub clean : IsCleanAt world p r own

-- the world at another moment
abbrev pub at_moment : WorldValue → ℕ → WorldValue
at_moment world moment = record world { moment = moment }

-- the decision on the request of principal p for action a on resource r that gives these keys at this moment
abbrev pub IsDecisionIn : WorldValue → ℕ → ℕ → ℕ → ContextValue → ℕ → Decision → Type 0
IsDecisionIn world p a r own moment decision = IsOwnDecision (at_moment world moment) p a r own decision

-- in none of the contexts in question is it allowed
abbrev pub IsNever : List WorldValue → WorldValue → ℕ → ℕ → ℕ → Type 0
IsNever worlds world p a r =
    (own : ContextValue) (moment : ℕ) → IsInQuestion worlds world p r own moment → ¬ IsDecisionIn world p a r own moment Allowed

-- in each of them whatever is decided is that it is
abbrev pub IsAlways : List WorldValue → WorldValue → ℕ → ℕ → ℕ → Type 0
IsAlways worlds world p a r =
    (own : ContextValue) (moment : ℕ) (decision : Decision) → IsInQuestion worlds world p r own moment
    → IsDecisionIn world p a r own moment decision → decision ≡ Allowed
