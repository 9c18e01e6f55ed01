-- One name of each kind: actions, and texts of resources that a world does not name. AWS IAM User Guide, "Policy evaluation logic" and
-- "IAM JSON policy elements: Action". LOGIC 11.2.
use Rattle.std.specs.Prelude.{◌↔◌, ◌++◌, ◌∷◌, [], ℕ, List, Contains, map}
use Rattle.std.specs.Str.{chars}
use Rattle.iam_glob.specs.declared.sign.Sign.{Sign}
use Rattle.iam_kinds.specs.Kinds.{GroupMatchesFold, Question}
use Rattle.iam_kinds.specs.declared.grammar.Grammar.TheVariants.{Action, AnyText}
use Rattle.iam_match.specs.Statement.{AccessValue}
use Rattle.iam_decision.specs.Applicable.{ApplicableValue}
use Rattle.iam_decision.specs.declared.verdict.Decision.{Decision}
use Rattle.iam_world.specs.World.{WorldValue}
use Rattle.iam_layers.specs.Unnamed.{IsUnnamedAccess, IsUnnamedDecision}
use Rattle.iam_layers.specs.declared.unnamed.Unnamed.{Unnamed}
use Rattle.iam_every.specs.Alike.{AreAlikeActions}
use Rattle.iam_every.specs.Groups.{AgreeOn, AreGroups}
use Rattle.iam_every.specs.Telling.{telling}

-- which texts are asked about: all of these patterns match, the line's own and others, and they are none of those named; two are of one
-- kind where each of the groups that tell such texts apart, and each of the patterns that are told apart, matches both or neither
abbrev pub text_question : List (List (List Sign)) → List Sign → List (List Sign) → List (List Sign) → List (List ℕ) → Question
text_question groups line others apart named = record {
  grammar = AnyText;
  within = line ∷ others;
  groups = telling line (groups ++ map (λ pattern. pattern ∷ []) apart);
  named = map chars named;
}

-- so it is on requests of principal p for the action, on resources that the world does not name
abbrev pub AreGroupsAt : WorldValue → ℕ → Unnamed → List ℕ → List (List (List Sign)) → Type 0
AreGroupsAt world p unnamed action groups =
    (text : List ℕ) (a : ApplicableValue) (access : AccessValue) → IsUnnamedAccess world p unnamed action text a access
    → AreGroups a access action groups

-- on resources of texts that agree on such groups the decisions are the same
abbrev pub AlikeNamesDecideAlike : Type 0
AlikeNamesDecideAlike =
    (world : WorldValue) (p : ℕ) (unnamed : Unnamed) (action one other : List ℕ) (groups : List (List (List Sign))) (decision : Decision)
    → AreGroupsAt world p unnamed action groups → AgreeOn groups (chars one) (chars other)
    → IsUnnamedDecision world p unnamed action one decision → IsUnnamedDecision world p unnamed action other decision

-- ---- actions
-- every group matches both actions or neither, without regard to case
abbrev pub AgreeOnFold : List (List (List Sign)) → List ℕ → List ℕ → Type 0
AgreeOnFold groups one other =
    (group : List (List Sign)) → Contains groups group → GroupMatchesFold group one ↔ GroupMatchesFold group other

-- the groups tell apart just what the action elements of these statements do
abbrev pub AreActionGroups : List ApplicableValue → List (List (List Sign)) → Type 0
AreActionGroups applicables groups =
    (one other : List ℕ) → AgreeOnFold groups (chars one) (chars other)
    ↔ ((a : ApplicableValue) → Contains applicables a → AreAlikeActions a one other)

-- which actions are asked about: the pattern matches them without regard to case
abbrev pub action_question : List (List (List Sign)) → List Sign → Question
action_question groups pattern = record { grammar = Action; within = pattern ∷ []; groups = groups; named = [] }

-- for actions that agree on such groups the decisions are the same, whatever the resource
abbrev pub AlikeActionsAtDecideAlike : Type 0
AlikeActionsAtDecideAlike =
    (world : WorldValue) (p : ℕ) (unnamed : Unnamed) (one other text : List ℕ) (applicables : List ApplicableValue) (a : ApplicableValue)
    (access : AccessValue) (groups : List (List (List Sign))) (decision : Decision)
    → AreActionGroups applicables groups → Contains applicables a → AgreeOnFold groups (chars one) (chars other)
    → IsUnnamedAccess world p unnamed one text a access
    → IsUnnamedDecision world p unnamed one text decision → IsUnnamedDecision world p unnamed other text decision
