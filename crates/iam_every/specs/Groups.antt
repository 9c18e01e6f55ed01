-- The groups of patterns by which the statements that concern a request read the text of a resource: AWS IAM User Guide, "IAM JSON
-- policy elements: Resource" and "NotResource". LOGIC 11.2.
use Rattle.std.specs.Prelude.{◌↔◌, ℕ, List, map, Contains}
use Rattle.std.specs.Global.{Vec}
use Rattle.std.specs.Str.{chars}
use Rattle.iam_glob.specs.declared.sign.Sign.{Sign}
use Rattle.iam_kinds.specs.Kinds.{GroupMatches}
use Rattle.iam_match.specs.Principal.{grant_of}
use Rattle.iam_match.specs.Requester.{RequesterValue}
use Rattle.iam_match.specs.Statement.{AccessValue}
use Rattle.iam_match.specs.declared.principal.Grant.{Grant}
use Rattle.iam_policy.specs.declared.effect.Effect.{Effect}
use Rattle.iam_policy.specs.declared.effect.Effect.TheVariants.{Allow, Deny}
use Rattle.iam_decision.specs.Applicable.{ApplicableValue}
use Rattle.iam_decision.specs.Matched.{Placed}
use Rattle.iam_decision.specs.declared.place.Layer.{Layer}
use Rattle.iam_decision.specs.declared.place.Layer.TheVariants.{Org, Control, Resource, Identity, Boundary, Session}
use Rattle.iam_every.specs.Alike.{AreAlike}
use Rattle.iam_every.specs.declared.groups.Side.{Side}
use Rattle.iam_every.specs.declared.groups.Side.TheVariants.{Denies, Allows, Grants}
use Rattle.iam_every.specs.declared.pattern.Pattern.{Pattern}
use Rattle.iam_every.specs.declared.pattern.Pattern.TheVariants.{Fixed, Made}

-- the pattern, without where it lies in memory
abbrev pub signs_of : Pattern → List Sign
signs_of (Fixed glob) = glob.now
signs_of (Made glob) = glob

abbrev pub groups_of : List (Vec Pattern) → List (List (List Sign))
groups_of groups = map (λ group. map signs_of group.items) groups

-- where an allow counts: the resource's policy by its grant kind, another by its layer and level
abbrev pub side_at : Layer → ℕ → Grant → Side
side_at Org level grant = Allows Org level
side_at Control level grant = Allows Control level
side_at Resource level grant = Grants grant
side_at Identity level grant = Allows Identity level
side_at Boundary level grant = Allows Boundary level
side_at Session level grant = Allows Session level

abbrev pub side_by : Effect → Layer → ℕ → Grant → Side
side_by Deny layer level grant = Denies
side_by Allow layer level grant = side_at layer level grant

-- the side on which a statement counts
abbrev pub side_of : RequesterValue → Placed → Side
side_of requester s = side_by s.statement.effect s.place.layer s.place.level (grant_of s.statement.principal requester)

-- every group matches both texts or neither
abbrev pub AgreeOn : List (List (List Sign)) → List ℕ → List ℕ → Type 0
AgreeOn groups one other = (group : List (List Sign)) → Contains groups group → GroupMatches group one ↔ GroupMatches group other

-- the groups tell apart just the texts that are not alike for requests for the action, of which decisions may tell apart fewer
abbrev pub AreGroups : ApplicableValue → AccessValue → List ℕ → List (List (List Sign)) → Type 0
AreGroups a access action groups = (one other : List ℕ) → AgreeOn groups (chars one) (chars other) ↔ AreAlike a access action one other
