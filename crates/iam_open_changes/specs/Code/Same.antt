-- What is compared where two worlds may decide a request by the same. LOGIC 11.10.
use Rattle.std.specs.Prelude.{◌≡◌, ◌≤◌, ⊤, ℕ, All, Any, Contains, IsTrue, List, None, Option, Some}
use Rattle.iam_context.specs.Context.{ContextValue}
use Rattle.iam_decision.specs.Applicable.{ApplicableValue, frame_of}
use Rattle.iam_decision.specs.Matched.{Placed}
use Rattle.iam_layers.specs.Cell.{IsAction, IsApplicableAt, IsDerivedAt, IsPrincipal, IsResource}
use Rattle.iam_match.specs.Principal.{rank}
use Rattle.iam_open.specs.InQuestion.{at_moment}
use Rattle.iam_open_changes.specs.InBoth.{IsNeverTurned}
use Rattle.iam_open_changes.specs.Code.Implied.{Implies}
use Rattle.iam_open_changes.specs.Code.Kept.{KeptValue}
use Rattle.iam_open_changes.specs.declared.numbers.Numbers.{Numbers}
use Rattle.iam_open_changes.specs.declared.same.Excluded.{Excluded}
use Rattle.iam_open_changes.specs.declared.turn.Turn.TheVariants.{Gained, Lost}
use Rattle.iam_policy.specs.declared.effect.Effect.{Effect}
use Rattle.iam_policy.specs.declared.effect.Effect.TheVariants.{Allow, Deny}
use Rattle.iam_world.specs.World.{WorldValue}

-- what is excluded does not come about in any of the contexts in question
pub record Excludes (before after : WorldValue) (was now : Option Numbers) (excluded : Excluded) : Type 0 where
  pub gains : IsTrue excluded.gains → IsNeverTurned Gained before after was now
  pub losses : IsTrue excluded.losses → IsNeverTurned Lost before after was now

-- a user has a name of its own, and a session has not
abbrev pub AreOfOneKind : Option (List ℕ) → Option (List ℕ) → Type 0
AreOfOneKind None None = ⊤
AreOfOneKind None (Some name) = ⊥
AreOfOneKind (Some name) None = ⊥
AreOfOneKind (Some name) (Some other) = ⊤

-- the same requester asks
abbrev pub HaveSameWho : WorldValue → WorldValue → Numbers → Numbers → Type 0
HaveSameWho before after was now =
    IsPrincipal before was.principal (λ one. IsPrincipal after now.principal (λ other. one.requester ≡ other.requester))

-- for the action and the resource of the same texts
pub record HaveSameTexts (before after : WorldValue) (was now : Numbers) : Type 0 where
  pub action : List ℕ
  pub action_before : IsAction before was.action action
  pub action_after : IsAction after now.action action
  pub resource : IsResource before was.resource (λ one. IsResource after now.resource (λ other. one.arn ≡ other.arn))

-- the worlds give the same keys, and so do the principals and the resources
pub record HaveSameKnown (before after : WorldValue) (was now : Numbers) : Type 0 where
  pub worlds : before.context ≡ after.context
  pub principals : IsPrincipal before was.principal (λ one. IsPrincipal after now.principal (λ other. one.context ≡ other.context))
  pub resources : IsResource before was.resource (λ one. IsResource after now.resource (λ other. one.context ≡ other.context))

-- the decision asks the same beside the statements
abbrev pub HaveSameFrame : WorldValue → WorldValue → Numbers → Numbers → Type 0
HaveSameFrame before after was now =
    (one other : ApplicableValue) → IsApplicableAt before was.principal was.resource one
    → IsApplicableAt after now.principal now.resource other → frame_of one ≡ frame_of other

-- at the moment of the world before the same keys follow from requester, resource and moment
abbrev pub HaveSameDerived : WorldValue → WorldValue → Numbers → Numbers → Type 0
HaveSameDerived before after was now =
    (derived : ContextValue) × IsDerivedAt (at_moment before before.moment) was.principal was.resource derived
    × IsDerivedAt (at_moment after before.moment) now.principal now.resource derived

-- both statements have the same effect, and stand at the same level of the same layer
pub record StandAlike (one other : Placed) : Type 0 where
  pub effect : other.statement.effect ≡ one.statement.effect
  pub layer : other.place.layer ≡ one.place.layer
  pub level : other.place.level ≡ one.place.level

-- wherever the first statement matches, what is open of the second one holds; they stand alike, and the second grants no less
pub record IsReached (one other : KeptValue) : Type 0 where
  pub alike : StandAlike one.standing other.standing
  pub grant : rank one.grant ≤ rank other.grant
  pub resource : IsTrue other.resource → one.standing.statement.resource ≡ other.standing.statement.resource
  pub entries : All (λ entry. Any (λ it. Implies it entry) one.standing.statement.conditions) other.entries

-- each of the first statements that has the effect reaches one of the second ones
abbrev pub ReachOthers : Effect → List KeptValue → List KeptValue → Type 0
ReachOthers effect ones others =
    (one : KeptValue) → Contains ones one → one.standing.statement.effect ≡ effect → (other : KeptValue) × Contains others other × IsReached one other

-- of these statements the first allow no more
abbrev pub AllowNoMore : List KeptValue → List KeptValue → Type 0
AllowNoMore ones others = ReachOthers Allow ones others × ReachOthers Deny others ones
