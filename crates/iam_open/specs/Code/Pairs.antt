-- What is known of the requests of a principal for a resource, whatever the action. LOGIC 11.6.
use Rattle.std.specs.Prelude.{◌≡◌, ◌≤◌, ℕ, All, Any, Bool, Contains, IfSome, List, None, Option, [], true, false}
use Rattle.iam_context.specs.Context.{ContextValue}
use Rattle.iam_decision.specs.Applicable.{ApplicableValue, frame_of}
use Rattle.iam_decision.specs.Code.Scan.{placed_value}
use Rattle.iam_decision.specs.Living.{item_of}
use Rattle.iam_decision.specs.Matched.{Placed, placed}
use Rattle.iam_decision.specs.declared.scan.Standing.{Standing}
use Rattle.iam_layers.specs.Cell.{IsApplicableAt, IsDerivedAt, IsPrincipal, IsResource}
use Rattle.iam_layers.specs.Own.{IsCleanAt, IsOwnContext}
use Rattle.iam_match.specs.Requester.{RequesterValue}
use Rattle.iam_match.specs.Statement.{AccessValue, RestMatches}
use Rattle.iam_open.specs.Code.Certain.{Contexts, Tells}
use Rattle.iam_open.specs.Code.Known.{Follows, access_at}
use Rattle.iam_open.specs.Code.Tried.{AreKnownAt}
use Rattle.iam_open.specs.InQuestion.{at_moment}
use Rattle.iam_open.specs.declared.certain.Certain.{Certain}
use Rattle.iam_open.specs.declared.certain.Certain.TheVariants.{Always, Never, Open}
use Rattle.iam_open.specs.declared.kept.Kept.{Kept}
use Rattle.iam_open.specs.declared.pair.Chance.{Chance}
use Rattle.iam_open.specs.declared.pair.Pair.{Pair}
use Rattle.iam_world.specs.World.{WorldValue}

-- its statement, and where that stands
abbrev pub placed_of : Chance → Placed
placed_of chance = record { place = chance.matched.place; statement = chance.statement.now }

-- the chance of a statement of which this is known
abbrev pub chance_of : RequesterValue → Standing → Certain → Chance
chance_of requester s certain = record { matched = item_of requester (placed_value s); statement = s.statement; certain = certain }

-- what is known so may match
abbrev pub may_match : Certain → Bool
may_match Always = true
may_match Never = false
may_match Open = true

-- in these contexts all elements of its statement but the action element match as it says
pub record IsChance (access : AccessValue) (Are : Contexts) (chance : Chance) : Type 0 where
  pub matched : chance.matched ≡ item_of access.requester (placed_of chance)
  pub certain : Tells chance.certain Are (λ context. RestMatches chance.statement.now (access_at access context))

-- they are of these statements, and have each of them whose elements match in one of the contexts but for its action element
pub record AreChances (access : AccessValue) (Are : Contexts) (statements : List Placed) (chances : List Chance) : Type 0 where
  pub each : All (IsChance access Are) chances
  pub among : All (λ chance. Contains statements (placed_of chance)) chances
  pub all : (context : ContextValue) → Are context → (s : Placed) → Contains statements s → RestMatches s.statement (access_at access context)
      → Any (λ chance. placed_of chance ≡ s) chances

-- a pair to whose requests these policies apply, in the contexts that agree on the keys that are known
pub record IsPairOf (access : AccessValue) (known : List (List ℕ)) (a : ApplicableValue) (pair : Pair) : Type 0 where
  pub frame : pair.frame ≡ frame_of a
  pub chances : AreChances access (Follows known access.context) (placed a) pair.chances.items

-- the context that is looked at where principal p asks for resource r and these keys are tried, at this moment, if there is one
pub record IsViewAt (world : WorldValue) (p r : ℕ) (tried base derived : ContextValue) (at : Option ℕ) (moment : ℕ) (known : List (List ℕ))
    (requester : RequesterValue) (arn : List ℕ) : Type 0 where
  pub from : IfSome at (λ then. moment ≡ then)
  pub first : (later : ℕ) → IfSome at (λ then. later ≡ then) → world.moment ≤ later → moment ≤ later
  pub clean : IsCleanAt world p r tried
  pub keys : IsDerivedAt (at_moment world moment) p r derived
  pub context : IsOwnContext world p r tried derived base
  pub known_are : AreKnownAt world p r tried at known
  pub who : IsPrincipal world p (λ principal. requester ≡ principal.requester)
  pub what : IsResource world r (λ resource. arn ≡ resource.arn)

-- they are those of these statements in the contexts that are looked at where principal p asks for resource r and these keys are tried
pub record AreChancesAt (world : WorldValue) (p r : ℕ) (tried : ContextValue) (at : Option ℕ) (statements : List Placed) (chances : List Chance)
    : Type 0 where
  pub access : AccessValue
  pub derived : ContextValue
  pub moment : ℕ
  pub known : List (List ℕ)
  pub view : IsViewAt world p r tried access.context derived at moment known access.requester access.resource
  pub are : AreChances access (Follows known access.context) statements chances

-- the pair of principal p and resource r where these keys are tried
pub record IsPairAt (world : WorldValue) (p r : ℕ) (tried : ContextValue) (at : Option ℕ) (pair : Pair) : Type 0 where
  pub access : AccessValue
  pub derived : ContextValue
  pub moment : ℕ
  pub known : List (List ℕ)
  pub view : IsViewAt world p r tried access.context derived at moment known access.requester access.resource
  pub each : (a : ApplicableValue) → IsApplicableAt world p r a → IsPairOf access known a pair

-- a pair is that of its principal and its resource
abbrev pub IsKept : WorldValue → Pair → Type 0
IsKept world pair = IsPairAt world pair.principal pair.resource [] None pair

-- all pairs that are kept are
abbrev pub AreKept : WorldValue → Kept → Type 0
AreKept world kept = All (IsKept world) kept.pairs.items
