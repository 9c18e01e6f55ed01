-- The context that is looked at where a principal asks for resources that a world does not name, and what those in question have in
-- common with it: AWS IAM User Guide, "AWS global condition context keys". LOGIC 9.1, 9.2 and 11.12.
use Rattle.std.specs.Prelude.{◌≡◌, ℕ, List, [], None, Some, Any, length, true}
use Rattle.std.specs.Str.{chars}
use Rattle.iam_context.specs.Context.{ContextValue}
use Rattle.iam_glob.specs.declared.sign.Sign.{Sign}
use Rattle.iam_match.specs.Statement.{AccessValue}
use Rattle.iam_decision.specs.Applicable.{ApplicableValue}
use Rattle.iam_decision.specs.Matched.{Placed, placed}
use Rattle.iam_world.specs.World.{ResourceValue, WorldValue}
use Rattle.iam_layers.specs.Cell.{IsApplicableAt, IsDerivedAt, IsPrincipal}
use Rattle.iam_layers.specs.Own.{IsOwnContext}
use Rattle.iam_layers.specs.Unnamed.{IsSaid, world_and}
use Rattle.iam_layers.specs.declared.unnamed.Unnamed.{Unnamed}
use Rattle.iam_every.specs.Groups
use Rattle.iam_open.specs.Code.Known.{Follows}
use Rattle.iam_open.specs.Code.Tried.{AreKnownAt}
use Rattle.iam_open.specs.InQuestion.{at_moment}
use Rattle.iam_open_every.specs.Concerned.{AreConcerned, MayConcern}
use Rattle.iam_open_every.specs.Groups.{AreOpenGroups, element_beyond, groups_at}
use Rattle.iam_open_every.specs.Turned.{AreTurnedAlike, IsUnnamedAskedIn}

-- what is seen where principal p asks for resource r of the world and nothing gives further keys, at its moment: who asks in which context,
-- the policies that apply, and the keys that are known whenever it asks
pub record IsSeen (world : WorldValue) (p r : ℕ) (a : ApplicableValue) (looked : AccessValue) (known : List (List ℕ)) : Type 0 where
  pub derived : ContextValue
  pub keys : IsDerivedAt (at_moment world world.moment) p r derived
  pub context : IsOwnContext world p r [] derived looked.context
  pub known_are : AreKnownAt world p r [] None known
  pub who : IsPrincipal world p (λ principal. looked.requester ≡ principal.requester)
  pub applies : IsApplicableAt world p r a

-- so it is where it asks for the resource of a text that the world does not name, of which this is said
pub record IsLookedAt (world : WorldValue) (p : ℕ) (unnamed : Unnamed) (a : ApplicableValue) (looked : AccessValue) (known : List (List ℕ)) : Type 0 where
  pub text : List ℕ
  pub seen : (action : List ℕ) (resource : ResourceValue) → IsSaid world unnamed text resource
      → IsSeen (world_and world action resource) p (length world.resources) a looked known

-- this is its context where principal p asks for resource r of the world and nothing gives further keys, at the moment of the world
abbrev pub IsContextSeen : WorldValue → ℕ → ℕ → ContextValue → Type 0
IsContextSeen world p r context =
    (derived : ContextValue) × IsDerivedAt (at_moment world world.moment) p r derived × IsOwnContext world p r [] derived context

-- whatever such a resource it asks for in a context in question, that agrees with the one that is looked at on the keys that are known,
-- and is at no earlier moment; the requester is the same, and so are the policies that apply
abbrev pub ContextsInQuestionFollow : Type 0
ContextsInQuestionFollow =
    (world : WorldValue) (p : ℕ) (unnamed : Unnamed) (a : ApplicableValue) (looked : AccessValue) (known : List (List ℕ)) (action text : List ℕ)
    (own : ContextValue) (moment : ℕ) (applicable : ApplicableValue) (access : AccessValue) → IsLookedAt world p unnamed a looked known
    → IsUnnamedAskedIn world p unnamed action text own moment applicable access
    → Follows known looked.context access.context × (access.requester ≡ looked.requester) × (applicable ≡ a)

-- where the groups agree of those that may concern its requests, the same is decided on both texts in each context in question
abbrev pub AgreeingTextsAreTurnedAlike : Type 0
AgreeingTextsAreTurnedAlike =
    (world : WorldValue) (p : ℕ) (unnamed : Unnamed) (a : ApplicableValue) (looked : AccessValue) (known : List (List ℕ)) (found : List Placed)
    (groups : List (List (List Sign))) (action one other : List ℕ) → IsLookedAt world p unnamed a looked known
    → AreConcerned looked known (placed a) found → AreOpenGroups known looked.context found groups
    → Groups.AgreeOn groups (chars one) (chars other) → AreTurnedAlike world p unnamed action one other

-- on texts that the groups agree on the same is decided in each context in question, whatever the action
abbrev pub AreOpenGroupsAt : WorldValue → ℕ → Unnamed → List (List (List Sign)) → Type 0
AreOpenGroupsAt world p unnamed groups =
    (action one other : List ℕ) → Groups.AgreeOn groups (chars one) (chars other) → AreTurnedAlike world p unnamed action one other

-- the groups are those of the statements that may concern, as principal p asks for resource r of the world
abbrev pub AreGroupsSeen : WorldValue → ℕ → ℕ → List (List (List Sign)) → Type 0
AreGroupsSeen world p r groups =
    (a : ApplicableValue) × (looked : AccessValue) × (known : List (List ℕ)) × (found : List Placed) × IsSeen world p r a looked known
    × AreConcerned looked known (placed a) found × (groups_at known looked.context found ≡ Some groups)

-- where principal p asks for resource r of the world, a text of the resource element of a statement that may concern it asks for a key that
-- is not known
abbrev pub AsksBeyondAt : WorldValue → ℕ → ℕ → Type 0
AsksBeyondAt world p r =
    (a : ApplicableValue) × (looked : AccessValue) × (known : List (List ℕ)) × IsSeen world p r a looked known
    × Any (λ s. MayConcern looked known s × (element_beyond known s.statement.resource ≡ true)) (placed a)
