-- The same access: both worlds decide a request by the same, whatever the values of the keys are that nothing gives. LOGIC 11.10.
use Rattle.std.specs.Prelude.{◌≡◌, ◌++◌, ◌≤◌, ℕ, List, Contains, Some}
use Rattle.std.specs.List.{slice_get}
use Rattle.iam_context.specs.Context.{ContextValue}
use Rattle.iam_decision.specs.Applicable.{ApplicableValue, frame_of}
use Rattle.iam_decision.specs.Decision.{Says}
use Rattle.iam_decision.specs.Matched.{IsMatched, Placed, placed}
use Rattle.iam_layers.specs.Applicable.{applicable_of}
use Rattle.iam_layers.specs.Cell.{IsRequestAt}
use Rattle.iam_layers.specs.Own.{IsCleanAt, IsWorldWith}
use Rattle.iam_match.specs.Principal.{grant_of, rank}
use Rattle.iam_match.specs.Statement.{RequestValue}
use Rattle.iam_open.specs.InQuestion.{at_moment}
use Rattle.iam_open_changes.specs.declared.numbers.Numbers.{Numbers}
use Rattle.iam_policy.specs.declared.effect.Effect.{Effect}
use Rattle.iam_policy.specs.declared.effect.Effect.TheVariants.{Allow, Deny}
use Rattle.iam_world.specs.World.{PrincipalValue, ResourceValue, WorldValue}

-- ---- what the requests of both worlds have in common

-- the keys that a world, a principal and a resource give
abbrev pub known_context : WorldValue → PrincipalValue → ResourceValue → ContextValue
known_context world principal resource = world.context ++ (principal.context ++ resource.context)

-- in both worlds the same requester asks for the same action on a resource of the same text and account, with the same known keys, and the
-- frame of the decision is the same
pub record AskSame (before after : WorldValue) (was now : Numbers) : Type 0 where
  pub asked : PrincipalValue
  pub asks : PrincipalValue
  pub sought : ResourceValue
  pub seeks : ResourceValue
  pub action : List ℕ
  pub asked_at : slice_get before.principals was.principal ≡ Some asked
  pub asks_at : slice_get after.principals now.principal ≡ Some asks
  pub sought_at : slice_get before.resources was.resource ≡ Some sought
  pub seeks_at : slice_get after.resources now.resource ≡ Some seeks
  pub action_before : slice_get before.actions was.action ≡ Some action
  pub action_after : slice_get after.actions now.action ≡ Some action
  pub requester : asked.requester ≡ asks.requester
  pub text : sought.arn ≡ seeks.arn
  pub account : sought.account ≡ seeks.account
  pub known : known_context before asked sought ≡ known_context after asks seeks
  pub frame : frame_of (applicable_of before asked sought) ≡ frame_of (applicable_of after asks seeks)

-- ---- statements that say as much

-- the second statement says of a request what the first one says: it matches, with the same effect at the same layer and level, and grants
-- no less
pub record SaysAsMuch (q : RequestValue) (one other : Placed) : Type 0 where
  pub matched : IsMatched q other
  pub effect : other.statement.effect ≡ one.statement.effect
  pub layer : other.place.layer ≡ one.place.layer
  pub level : other.place.level ≡ one.place.level
  pub grant : rank (grant_of one.statement.principal q.requester) ≤ rank (grant_of other.statement.principal q.requester)

-- whichever of the first statements matches with this effect, one of the second ones says as much
abbrev pub Reaches : Effect → RequestValue → List Placed → List Placed → Type 0
Reaches effect q ones others =
    (s : Placed) → Contains ones s → Says q effect s → (t : Placed) × Contains others t × SaysAsMuch q s t

-- the request in a context in question of both worlds, and the policies that apply to it in each
pub record IsAskedInBoth (one other : WorldValue) (at to : Numbers) (a b : ApplicableValue) (q : RequestValue) : Type 0 where
  pub own : ContextValue
  pub moment : ℕ
  pub clean_one : IsCleanAt one at.principal at.resource own
  pub clean_other : IsCleanAt other to.principal to.resource own
  pub asked_one : (w : WorldValue) × IsWorldWith (at_moment one moment) at.resource own w × IsRequestAt w at.principal at.action at.resource a q
  pub asked_other : (w : WorldValue) × IsWorldWith (at_moment other moment) to.resource own w × IsRequestAt w to.principal to.action to.resource b q

-- in each of these contexts, whichever statement of the first world matches with this effect, one of the second says as much
abbrev pub ReachesIn : Effect → WorldValue → WorldValue → Numbers → Numbers → Type 0
ReachesIn effect one other at to =
    (a b : ApplicableValue) (q : RequestValue) → IsAskedInBoth one other at to a b q → Reaches effect q (placed a) (placed b)

-- what is asked is the same, and what matches in the one world says as much in the other, both ways
pub record HaveSame (before after : WorldValue) (was now : Numbers) : Type 0 where
  pub same : AskSame before after was now
  pub on : (effect : Effect) → ReachesIn effect before after was now
  pub back : (effect : Effect) → ReachesIn effect after before now was

-- what is asked is the same, the second world allows as much by its statements, and denies no more
pub record AllowsNoMore (one other : WorldValue) (at to : Numbers) : Type 0 where
  pub same : AskSame one other at to
  pub allows : ReachesIn Allow one other at to
  pub denies : ReachesIn Deny other one to at
