-- Requests that give keys of their own. They are decided as in a world whose resource gives these keys too, behind those that it
-- gives: AWS IAM User Guide, "AWS global condition context keys". LOGIC 9.2 and 13.8.
use Rattle.std.specs.Prelude.{◌≡◌, ℕ, List, [], ◌∷◌, ◌++◌, Some, set}
use Rattle.std.specs.List.{slice_get}
use Rattle.iam_context.specs.Context.{ContextValue, all_of, joined}
use Rattle.iam_context.specs.ContextFault.{IsClean, JoinFault}
use Rattle.iam_context.specs.declared.fault.ContextFault.{ContextFault}
use Rattle.iam_decision.specs.Applicable.{ApplicableValue}
use Rattle.iam_decision.specs.declared.verdict.Decision.{Decision}
use Rattle.iam_decision.specs.declared.verdict.Verdict.{Verdict}
use Rattle.iam_match.specs.Statement.{AccessValue}
use Rattle.iam_layers.specs.Cell.{IsAccessAt, IsDecisionAt, IsPrincipal, IsResource, IsVerdictAt}
use Rattle.iam_world.specs.World.{PrincipalValue, ResourceValue, WorldValue}

-- the parts of the context: those of the world, the principal and the resource, and behind them the keys of the request's own
abbrev pub given_with : WorldValue → PrincipalValue → ResourceValue → ContextValue → List ContextValue
given_with world principal resource own = world.context ∷ (principal.context ∷ (resource.context ∷ (own ∷ [])))

-- P holds of these parts where principal p asks for resource r
abbrev pub OfParts : WorldValue → ℕ → ℕ → ContextValue → (List ContextValue → Type 0) → Type 0
OfParts world p r own P = IsPrincipal world p (λ principal. IsResource world r (λ resource. P (given_with world principal resource own)))

-- none of these keys stands in another part or twice, and none follows from requester, resource or moment
abbrev pub IsCleanAt : WorldValue → ℕ → ℕ → ContextValue → Type 0
IsCleanAt world p r own = OfParts world p r own (λ given. IsClean [] (all_of given))

-- the least fault of the parts
abbrev pub IsFaultAt : WorldValue → ℕ → ℕ → ContextValue → ContextFault → Type 0
IsFaultAt world p r own fault = OfParts world p r own (λ given. JoinFault given fault)

-- this is the context where principal p asks for resource r and gives these keys, with these derived ones
abbrev pub IsOwnContext : WorldValue → ℕ → ℕ → ContextValue → ContextValue → ContextValue → Type 0
IsOwnContext world p r own derived context = OfParts world p r own (λ given. context ≡ joined given derived)

-- the world whose resource r gives these keys too, behind its own
abbrev pub IsWorldWith : WorldValue → ℕ → ContextValue → WorldValue → Type 0
IsWorldWith world r own other =
    IsResource world r (λ resource.
    other ≡ record world { resources = set world.resources r (record resource { context = resource.context ++ own }) })

-- who asks for what in which context, where principal p asks for resource r and gives these keys
abbrev pub IsOwnAccess : WorldValue → ℕ → ℕ → ContextValue → ApplicableValue → AccessValue → Type 0
IsOwnAccess world p r own applicable access =
    (other : WorldValue) × IsWorldWith world r own other × IsAccessAt other p r applicable access

-- the verdict on the request of principal p for action a on resource r that gives these keys, and the decision
abbrev pub IsOwnVerdict : WorldValue → ℕ → ℕ → ℕ → ContextValue → Verdict → Type 0
IsOwnVerdict world p a r own verdict = (other : WorldValue) × IsWorldWith world r own other × IsVerdictAt other p a r verdict

abbrev pub IsOwnDecision : WorldValue → ℕ → ℕ → ℕ → ContextValue → Decision → Type 0
IsOwnDecision world p a r own decision = (other : WorldValue) × IsWorldWith world r own other × IsDecisionAt other p a r decision
