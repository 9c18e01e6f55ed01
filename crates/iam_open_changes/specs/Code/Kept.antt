-- The statements that may match in some of several contexts, and what of each is open. LOGIC 11.10.
use Rattle.std.specs.Prelude.{◌≡◌, ℕ, List, Bool, IsTrue, All, Contains}
use Rattle.iam_condition.specs.Entry.{EntryValue}
use Rattle.iam_context.specs.Context.{ContextValue}
use Rattle.iam_decision.specs.Applicable.{ApplicableValue}
use Rattle.iam_decision.specs.Matched.{IsMatched, Placed, placed}
use Rattle.iam_layers.specs.Cell.{IsRequestAt}
use Rattle.iam_layers.specs.Own.{IsCleanAt, IsWorldWith}
use Rattle.iam_match.specs.Entry.{EntryHolds}
use Rattle.iam_match.specs.Principal.{grant_of}
use Rattle.iam_match.specs.Statement.{AccessValue, RequestValue, ResourceMatches}
use Rattle.iam_match.specs.declared.principal.Grant.{Grant}
use Rattle.iam_open.specs.Code.Certain.{Contexts}
use Rattle.iam_open.specs.Code.Known.{request_in}
use Rattle.iam_open.specs.InQuestion.{at_moment}
use Rattle.iam_open_changes.specs.declared.numbers.Numbers.{Numbers}
use Rattle.iam_world.specs.World.{WorldValue}

-- a statement, what it grants, whether it is open that its resource element matches, and which of its entries are open
pub record KeptValue : Type 0 where
  pub standing : Placed
  pub grant : Grant
  pub resource : Bool
  pub entries : List EntryValue

-- what is open of it holds for a request
pub record OpenHolds (kept : KeptValue) (q : RequestValue) : Type 0 where
  pub resource : IsTrue kept.resource → ResourceMatches kept.standing.statement.resource q.resource q.context
  pub entries : All (EntryHolds q.context) kept.entries

-- wherever what is open of it holds, it matches; and it grants this
pub record IsKept (access : AccessValue) (action : List ℕ) (Are : Contexts) (kept : KeptValue) : Type 0 where
  pub grants : kept.grant ≡ grant_of kept.standing.statement.principal access.requester
  pub matches : (context : ContextValue) → Are context → OpenHolds kept (request_in access action context)
      → IsMatched (request_in access action context) kept.standing

-- one of these is of the statement
abbrev pub HasKept : List KeptValue → Placed → Type 0
HasKept kept s = (it : KeptValue) × Contains kept it × (it.standing ≡ s)

-- these are of some of the statements, and whichever matches in one of the contexts is among them
pub record AreKeptOf (access : AccessValue) (action : List ℕ) (Are : Contexts) (statements : List Placed) (kept : List KeptValue) : Type 0 where
  pub applying : (it : KeptValue) → Contains kept it → Contains statements it.standing × IsKept access action Are it
  pub matching : (context : ContextValue) (s : Placed) → Are context → Contains statements s
      → IsMatched (request_in access action context) s → HasKept kept s

-- it applies to the request, grants the requester this, and matches where what is open of it holds
pub record Stands (applicable : ApplicableValue) (q : RequestValue) (kept : KeptValue) : Type 0 where
  pub there : Contains (placed applicable) kept.standing
  pub grants : kept.grant ≡ grant_of kept.standing.statement.principal q.requester
  pub matches : OpenHolds kept q → IsMatched q kept.standing

-- of a request of a world, in the contexts in question: at some moment, with some keys of its own
pub record AreKept (world : WorldValue) (at : Numbers) (kept : List KeptValue) : Type 0 where
  pub matching : (own : ContextValue) (moment : ℕ) (other : WorldValue) (applicable : ApplicableValue) (q : RequestValue) (s : Placed)
      → IsCleanAt world at.principal at.resource own → IsWorldWith (at_moment world moment) at.resource own other
      → IsRequestAt other at.principal at.action at.resource applicable q → Contains (placed applicable) s → IsMatched q s → HasKept kept s
  pub stands : (own : ContextValue) (moment : ℕ) (other : WorldValue) (applicable : ApplicableValue) (q : RequestValue) (it : KeptValue)
      → IsCleanAt world at.principal at.resource own → IsWorldWith (at_moment world moment) at.resource own other
      → IsRequestAt other at.principal at.action at.resource applicable q → Contains kept it → Stands applicable q it
