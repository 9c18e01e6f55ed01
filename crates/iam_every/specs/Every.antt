-- What is asked of all names, and the rows that answer it for a principal: AWS IAM User Guide, "Policy evaluation logic".
-- LOGIC 11.2 and 11.6.
use Rattle.std.specs.Prelude.{◌≡◌, ◌⊎◌, ◌<◌, ◌∷◌, ◌++◌, ℕ, false, List, [], All, Any, Contains, MatchOption, Option, Some, None, codes, length, map, string_bytes, take}
use Rattle.std.specs.Arc.{arc_value}
use Rattle.std.specs.List.{range_with_len, slice_get}
use Rattle.std.specs.Str.{IsUtf8, chars}
use Rattle.iam_glob.specs.Glob.{Matches, MatchesFold, wild_sign}
use Rattle.iam_glob.specs.declared.sign.Sign.{Sign}
use Rattle.iam_kinds.specs.Kinds.{IsAction, Question, folded_question}
use Rattle.iam_kinds.specs.States.{PassesLimit}
use Rattle.iam_decision.specs.Applicable.{ApplicableValue}
use Rattle.iam_decision.specs.Matched.{Selects}
use Rattle.iam_decision.specs.declared.verdict.Decision.{Decision}
use Rattle.iam_decision.specs.declared.verdict.Verdict.{Verdict}
use Rattle.iam_world.specs.World.{WorldValue}
use Rattle.iam_layers.specs.Cell.{IsResource}
use Rattle.iam_layers.specs.Unnamed.{IsThere, IsUnnamedDecision, IsUnnamedVerdict}
use Rattle.iam_layers.specs.declared.unnamed.Unnamed.{Unnamed}
use Rattle.iam_layers.specs.declared.unnamed.Unnamed.TheVariants.{Like}
use Rattle.iam_every.specs.Groups.{AgreeOn}
use Rattle.iam_every.specs.Names.{AreGroupsAt, action_question, text_question}
use Rattle.iam_every.specs.OwnActions.{AreOwnActionGroups, AreOwnPolicies}
use Rattle.iam_every.specs.OwnGroups.{AreOwnGroupsAt}
use Rattle.iam_every.specs.declared.asked.Asked.{Asked}
use Rattle.iam_every.specs.declared.asked.Line.{Line}
use Rattle.iam_every.specs.declared.asked.Which.{Which}
use Rattle.iam_every.specs.declared.asked.Which.TheVariants.{OfWorld, Matching}
use Rattle.iam_every.specs.declared.rows.Row.{Row}

-- what is said of texts that the world does not name: of those that this pattern matches, which is written so
pub record LineValue : Type 0 where
  pub pattern : List Sign
  pub text : List ℕ
  pub unnamed : Unnamed

-- a world, what is said of texts that it does not name, and the pattern of the actions in question: without one, those of the world. It
-- is written so
pub record EveryValue : Type 0 where
  pub world : WorldValue
  pub lines : List LineValue
  pub actions : Option (List Sign)
  pub written : List ℕ

-- without where it lies in memory
abbrev pub line_of : Line → LineValue
line_of line = record { pattern = line.pattern.now; text = line.text.now; unnamed = line.unnamed }

abbrev pub pattern_in : Which → Option (List Sign)
pattern_in OfWorld = None
pattern_in (Matching glob text) = Some glob.now

abbrev pub written_in : Which → List ℕ
written_in OfWorld = codes "*"
written_in (Matching glob text) = text.now

abbrev pub every_of : Asked → EveryValue
every_of asked = record {
  world = asked.world.now;
  lines = map line_of asked.lines.now;
  actions = pattern_in asked.actions;
  written = written_in asked.actions;
}

-- resources that others are like are there
abbrev pub AreThere : EveryValue → Type 0
AreThere every = All (λ line. IsThere every.world line.unnamed) every.lines

-- ---- which requests are meant
-- a text of a resource: `*`, or an ARN, which is `arn:` and six parts
abbrev pub arn_signs : List Sign
arn_signs = map wild_sign (codes "arn:*:*:*:*:*")

pub record IsResourceText (text : List ℕ) : Type 0 where
  pub utf8 : IsUtf8 text
  pub form : (text ≡ codes "*") ⊎ Matches arn_signs (chars text)

-- an action of the world, or one that can be and that the pattern matches
abbrev pub IsMeantBy : Option (List Sign) → WorldValue → List ℕ → Type 0
IsMeantBy None world action = Contains world.actions action
IsMeantBy (Some pattern) world action = IsUtf8 action × IsAction false (chars action) × MatchesFold pattern (chars action)

abbrev pub IsMeantAction : EveryValue → List ℕ → Type 0
IsMeantAction every action = IsMeantBy every.actions every.world action

-- the pattern of line k matches the text, and that of no line before does
pub record IsFirst (lines : List LineValue) (text : List ℕ) (k : ℕ) (line : LineValue) : Type 0 where
  pub at : slice_get lines k ≡ Some line
  pub matches : Matches line.pattern (chars text)
  pub first : (j : ℕ) (other : LineValue) → j < k → slice_get lines j ≡ Some other → ¬ Matches other.pattern (chars text)

-- a resource of the world has the text
abbrev pub IsNamed : WorldValue → List ℕ → Type 0
IsNamed world text = (r : ℕ) × IsResource world r (λ resource. resource.arn ≡ text)

-- what is said of a text that some line matches: what the world says of a resource that has it; where none has, what the first line says
abbrev pub Says : EveryValue → List ℕ → Unnamed → Type 0
Says every text unnamed =
    (k : ℕ) × (line : LineValue) × IsFirst every.lines text k line
    × (((r : ℕ) × IsResource every.world r (λ resource. resource.arn ≡ text) × (unnamed ≡ Like r))
    ⊎ (¬ IsNamed every.world text × (unnamed ≡ line.unnamed)))

-- ---- kinds
abbrev pub patterns_of : List LineValue → List (List Sign)
patterns_of lines = map (λ line. line.pattern) lines

-- which texts of line k are asked about, by those of these groups that tell them apart: ARNs that its pattern matches and that no resource
-- of the world has; they are also told apart by the lines before
abbrev pub line_question : EveryValue → ℕ → LineValue → List (List (List Sign)) → Question
line_question every k line groups =
    text_question groups line.pattern (arn_signs ∷ []) (patterns_of (take k every.lines))
    (map (λ resource. resource.arn) every.world.resources)

-- ---- rows
-- a request and its verdict; or a line of which not all texts, or not all actions, could be shown, by its pattern as it is written
pub record RowValue : Type 0 where
  pub action : List ℕ
  pub resource : List ℕ
  pub verdict : Option Verdict

abbrev pub row_of : Row → RowValue
row_of row = record { action = string_bytes (arc_value row.action_text); resource = string_bytes (arc_value row.said).resource; verdict = (arc_value row.said).verdict }

-- the kinds of texts that line k speaks of, on requests of principal p for the action, pass a limit
pub record TextsPass (every : EveryValue) (p : ℕ) (action : List ℕ) (k : ℕ) (line : LineValue) : Type 0 where
  pub at : slice_get every.lines k ≡ Some line
  pub groups : List (List (List Sign))
  pub own : AreOwnGroupsAt every.world p line.unnamed action groups
  pub passes : PassesLimit (line_question every k line groups)

-- some line matches resource r
abbrev pub IsMatched : WorldValue → List LineValue → ℕ → Type 0
IsMatched world lines r = IsResource world r (λ resource. Any (λ line. Matches line.pattern (chars resource.arn)) lines)

-- all that is said, in order: by each line, then of each resource of the world that some line matches
abbrev pub AreSaid : EveryValue → List Unnamed → Type 0
AreSaid every said =
    (matched : List ℕ) × Selects (IsMatched every.world every.lines) (range_with_len 0 (length every.world.resources)) matched
    × (said ≡ map (λ line. line.unnamed) every.lines ++ map (λ r. Like r) matched)

-- the groups of the policies that apply where principal p asks for a resource of which some of this is said
pub record AreOwnActionGroupsAt (every : EveryValue) (p : ℕ) (groups : List (List (List Sign))) : Type 0 where
  pub said : List Unnamed
  pub are_said : AreSaid every said
  pub applicables : List ApplicableValue
  pub apply : AreOwnPolicies every.world p said applicables
  pub are : AreOwnActionGroups applicables groups

-- the kinds of actions that the pattern matches, by these groups, pass a limit
pub record ActionsPass (every : EveryValue) (p : ℕ) : Type 0 where
  pub pattern : List Sign
  pub is : every.actions ≡ Some pattern
  pub groups : List (List (List Sign))
  pub own : AreOwnActionGroupsAt every p groups
  pub passes : PassesLimit (folded_question (action_question groups pattern))

-- the row has the verdict on principal p's request for its action on the resource of its text, of which this is said
pub record HasVerdict (every : EveryValue) (p : ℕ) (row : RowValue) (verdict : Verdict) : Type 0 where
  pub action : IsMeantAction every row.action
  pub resource : IsNamed every.world row.resource ⊎ IsResourceText row.resource
  pub unnamed : Unnamed
  pub says : Says every row.resource unnamed
  pub is : IsUnnamedVerdict every.world p unnamed row.action row.resource verdict

-- a limit keeps the texts of the row's line from being shown for its action, or the actions
abbrev pub IsOver : EveryValue → ℕ → RowValue → Type 0
IsOver every p row =
    (k : ℕ) × (line : LineValue) × (slice_get every.lines k ≡ Some line) × (row.resource ≡ line.text)
    × ((IsMeantAction every row.action × TextsPass every p row.action k line) ⊎ ActionsPass every p)

abbrev pub IsRight : EveryValue → ℕ → RowValue → Type 0
IsRight every p row = MatchOption row.verdict (IsOver every p row) (HasVerdict every p row)

-- two texts that no resource has, of which the same line is the first to speak, and that principal p's requests for the action do not
-- tell apart
pub record AreOneKind (every : EveryValue) (p : ℕ) (action one other : List ℕ) : Type 0 where
  pub number : ℕ
  pub line : LineValue
  pub one_first : IsFirst every.lines one number line
  pub other_first : IsFirst every.lines other number line
  pub one_unnamed : ¬ IsNamed every.world one
  pub other_unnamed : ¬ IsNamed every.world other
  pub groups : List (List (List Sign))
  pub are : AreGroupsAt every.world p line.unnamed action groups
  pub agree : AgreeOn groups (chars one) (chars other)

-- the row tells the decision on principal p's request for this action on the resource of this text, of which this is said: it has the
-- text, or one of its kind
pub record Tells (every : EveryValue) (p : ℕ) (action text : List ℕ) (unnamed : Unnamed) (row : RowValue) : Type 0 where
  pub verdict : Verdict
  pub is : row.verdict ≡ Some verdict
  pub decides : IsUnnamedDecision every.world p unnamed action text verdict.decision
  pub about : (row.resource ≡ text) ⊎ AreOneKind every p row.action row.resource text

-- the row says that the first line that matches the text is not shown
abbrev pub IsUnshown : EveryValue → List ℕ → RowValue → Type 0
IsUnshown every text row = (row.verdict ≡ None) × ((k : ℕ) × (line : LineValue) × IsFirst every.lines text k line × (row.resource ≡ line.text))

-- some row tells the decision for the resource of this text and each thing that may be said of it; or one says that its line is not
-- shown, if the world does not name it
abbrev pub IsToldBy : EveryValue → ℕ → List ℕ → List ℕ → Unnamed → RowValue → Type 0
IsToldBy every p action text unnamed row = Tells every p action text unnamed row ⊎ (¬ IsNamed every.world text × IsUnshown every text row)

abbrev pub IsTold : EveryValue → ℕ → List RowValue → List ℕ → List ℕ → Type 0
IsTold every p rows action text =
    (unnamed : Unnamed) → Says every text unnamed → (row : RowValue) × Contains rows row × IsToldBy every p action text unnamed row

-- on every resource that may be meant, principal p's requests for the two actions are decided alike
abbrev pub AreDecidedAlike : EveryValue → ℕ → List ℕ → List ℕ → Type 0
AreDecidedAlike every p one other =
    (text : List ℕ) (unnamed : Unnamed) (decision : Decision) → Says every text unnamed
    → IsUnnamedDecision every.world p unnamed one text decision → IsUnnamedDecision every.world p unnamed other text decision

-- the rows of principal p for one action
pub record AreRowsFor (every : EveryValue) (p : ℕ) (action : List ℕ) (rows : List RowValue) : Type 0 where
  pub right : IsMeantAction every action → All (IsRight every p) rows
  pub own : All (λ row. row.action ≡ action) rows
  pub whole : (text : List ℕ) → IsResourceText text → IsTold every p rows action text

-- a request that is meant is told by a row of an action that is decided alike; or there are too many actions, and a row says so of its line
abbrev pub IsAnswered : EveryValue → ℕ → List RowValue → List ℕ → List ℕ → Unnamed → Type 0
IsAnswered every p rows action text unnamed =
    (row : RowValue) × Contains rows row
    × ((AreDecidedAlike every p row.action action × IsToldBy every p action text unnamed row) ⊎ (ActionsPass every p × IsUnshown every text row))

-- ---- actions
-- actions that are meant, of which one is decided like each that is
pub record AreActions (every : EveryValue) (p : ℕ) (actions : List (List ℕ)) : Type 0 where
  pub meant : All (IsMeantAction every) actions
  pub whole : (action : List ℕ) → IsMeantAction every action → (shown : List ℕ) × Contains actions shown × AreDecidedAlike every p shown action

-- ---- one list of groups
abbrev pub OneListOfActionGroupsAt : Type 0
OneListOfActionGroupsAt =
    (every : EveryValue) (p : ℕ) (one other : List (List (List Sign)))
    → AreOwnActionGroupsAt every p one → AreOwnActionGroupsAt every p other → one ≡ other
