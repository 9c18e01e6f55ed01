-- What follows from which policies apply: AWS Organizations User Guide, "Service control policies" and "Resource control
-- policies". And that there is one answer: to a request of a world, and to a cell. LOGIC 10.1 and 11.6.
use Rattle.std.specs.Prelude.{◌≡◌, ◌⊎◌, ◌↔◌, ◌<◌, ℕ, List, [], ⊤, true}
use Rattle.std.specs.List.{AllZip}
use Rattle.iam_context.specs.Context.{ContextValue}
use Rattle.iam_match.specs.Statement.{RequestValue}
use Rattle.iam_decision.specs.Applicable.{ApplicableValue}
use Rattle.iam_decision.specs.declared.verdict.Decision.{Decision}
use Rattle.iam_decision.specs.declared.verdict.Verdict.{Verdict}
use Rattle.iam_world.specs.World.{AccountValue, ResourceValue, WorldValue, account_with, world_cells}
use Rattle.iam_layers.specs.Applicable.{manages}
use Rattle.iam_layers.specs.Cell.{IsCell, IsDecisionAt, IsDecisionOf, IsRequestAt, IsResource, IsVerdictAt, IsVerdictOf}
use Rattle.iam_layers.specs.Own.{IsOwnDecision, IsOwnVerdict}

-- the account is the same; but one that manages its organisation may have other organisation policies
pub record IsSameButFreeOrg (account other : AccountValue) : Type 0 where
  pub id : other.id ≡ account.id
  pub management : other.management ≡ account.management
  pub org : (account.management ≡ true) ⊎ (other.org ≡ account.org)

-- the resource is the same; but one whose account manages its organisation may have other resource control policies
pub record IsSameButFreeControl (world : WorldValue) (resource other : ResourceValue) : Type 0 where
  pub rest : other ≡ record resource { control = other.control }
  pub control : (manages (account_with resource.account world) ≡ true) ⊎ (other.control ≡ resource.control)

-- with other organisation policies for management accounts, and other resource control policies for their resources, the
-- verdicts are the same
abbrev pub ManagementIsNotBound : Type 0
ManagementIsNotBound =
    (world : WorldValue) (accounts : List AccountValue) (resources : List ResourceValue) (p a r : ℕ) (verdict : Verdict)
    → AllZip IsSameButFreeOrg world.accounts accounts → AllZip (IsSameButFreeControl world) world.resources resources
    → IsVerdictAt world p a r verdict → IsVerdictAt (record world { accounts = accounts; resources = resources }) p a r verdict

-- principal, action and resource have one request, with its context, and one set of policies that apply to it
abbrev pub OneRequest : Type 0
OneRequest =
    (world : WorldValue) (p a r : ℕ) (applicable applicable' : ApplicableValue) (request request' : RequestValue)
    → IsRequestAt world p a r applicable request → IsRequestAt world p a r applicable' request'
    → (applicable ≡ applicable') × (request ≡ request')

-- they have one verdict, and one decision
abbrev pub OneVerdictAt : Type 0
OneVerdictAt =
    (world : WorldValue) (p a r : ℕ) (verdict other : Verdict)
    → IsVerdictAt world p a r verdict → IsVerdictAt world p a r other → verdict ≡ other

abbrev pub OneDecisionAt : Type 0
OneDecisionAt =
    (world : WorldValue) (p a r : ℕ) (decision other : Decision)
    → IsDecisionAt world p a r decision → IsDecisionAt world p a r other → decision ≡ other

-- each number below that of all cells is the cell of a principal, an action and a resource, and of no others
abbrev pub SomeTriple : Type 0
SomeTriple =
    (world : WorldValue) (cell : ℕ) → cell < world_cells world → (p : ℕ) × (a : ℕ) × (r : ℕ) × IsCell world cell p a r

abbrev pub OneTriple : Type 0
OneTriple =
    (world : WorldValue) (cell p a r q b s : ℕ) → IsCell world cell p a r → IsCell world cell q b s
    → (p ≡ q) × (a ≡ b) × (r ≡ s)

-- a cell has one verdict, and one decision
abbrev pub OneVerdictOf : Type 0
OneVerdictOf =
    (world : WorldValue) (cell : ℕ) (verdict other : Verdict)
    → IsVerdictOf world cell verdict → IsVerdictOf world cell other → verdict ≡ other

abbrev pub OneDecisionOf : Type 0
OneDecisionOf =
    (world : WorldValue) (cell : ℕ) (decision other : Decision)
    → IsDecisionOf world cell decision → IsDecisionOf world cell other → decision ≡ other

-- a request that gives no keys of its own has the verdict of its principal, action and resource, and the decision
abbrev pub NoKeysChangeNoVerdict : Type 0
NoKeysChangeNoVerdict =
    (world : WorldValue) (p a r : ℕ) (verdict : Verdict) → IsResource world r (λ _. ⊤)
    → IsOwnVerdict world p a r [] verdict ↔ IsVerdictAt world p a r verdict

abbrev pub NoKeysChangeNoDecision : Type 0
NoKeysChangeNoDecision =
    (world : WorldValue) (p a r : ℕ) (decision : Decision) → IsResource world r (λ _. ⊤)
    → IsOwnDecision world p a r [] decision ↔ IsDecisionAt world p a r decision

-- a request that gives keys of its own has one verdict, and one decision
abbrev pub OneOwnVerdict : Type 0
OneOwnVerdict =
    (world : WorldValue) (p a r : ℕ) (own : ContextValue) (verdict other : Verdict)
    → IsOwnVerdict world p a r own verdict → IsOwnVerdict world p a r own other → verdict ≡ other

abbrev pub OneOwnDecision : Type 0
OneOwnDecision =
    (world : WorldValue) (p a r : ℕ) (own : ContextValue) (decision other : Decision)
    → IsOwnDecision world p a r own decision → IsOwnDecision world p a r own other → decision ≡ other
