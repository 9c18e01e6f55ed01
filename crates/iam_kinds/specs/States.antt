-- What a walk counts, said of texts: the states behind texts, and the limits. LOGIC 2.2 and 15.
use Rattle.std.specs.Prelude.{◌≡◌, ◌≢◌, ◌↔◌, ◌⊎◌, ◌<◌, ◌≤◌, ◌+◌, ◌++◌, ℕ, List, [], ◌∷◌, Option, Some, length, map, IsTrue, AllPairs, Contains}
use Rattle.std.specs.List.{range_with_len, sum_by}
use Rattle.std.specs.Option.{option_and_then}
use Rattle.iam_glob.specs.Glob.{Matches}
use Rattle.iam_glob.specs.declared.sign.Sign.{Sign}
use Rattle.iam_glob.specs.declared.sign.Sign.TheVariants.{Any}
use Rattle.iam_kinds.specs.Code.{SameElements, first_stage, group_at, is_last_any, moves_of, next_stage, place_at, rest_at}
use Rattle.iam_kinds.specs.Kinds.{Agree, IsIn, IsMeant, IsText, Question}
use Rattle.iam_kinds.specs.declared.grammar.Grammar.{Grammar}
use Rattle.iam_kinds.specs.declared.grammar.Stage.{Stage}
use Rattle.iam_kinds.specs.declared.table.Pattern.{Pattern}
use Rattle.iam_kinds.specs.declared.table.Place.{Place}

-- ---- places
-- a grammar and patterns, of which the first so many are those where groups stand that have matched for good
pub record Machine : Type 0 where
  pub grammar : Grammar
  pub patterns : List Pattern
  pub count : ℕ

-- a text leads from a place to a place
abbrev pub LeadsTo : List Pattern → Place → List ℕ → Place → Type 0
LeadsTo patterns k [] j = k ≡ j
LeadsTo patterns k (c ∷ text) j = (i : Place) × Contains (moves_of patterns c k) i × LeadsTo patterns i text j

-- from where some pattern begins the text leads to the place
abbrev pub IsReached : Machine → List ℕ → Place → Type 0
IsReached machine text k = (p : ℕ) × (machine.count ≤ p) × (p < length machine.patterns) × LeadsTo machine.patterns (place_at p 0) text k

-- the group matches each text that begins with this one, since nothing but a last `Any` is left at a place of it
abbrev pub IsGood : Machine → List ℕ → ℕ → Type 0
IsGood machine text g =
    (k : Place) × IsReached machine text k × (group_at machine.patterns k ≡ g) × IsTrue (is_last_any (rest_at machine.patterns k))

-- a place of the state behind a text: one that is reached, and where its group has matched for good, the place of that group alone
abbrev pub IsPlace : Machine → List ℕ → Place → Type 0
IsPlace machine text k =
    (IsReached machine text k × ¬ IsGood machine text (group_at machine.patterns k))
    ⊎ (IsGood machine text (group_at machine.patterns k) × (k ≡ place_at (group_at machine.patterns k) 0))

-- ---- states
-- how far the grammar is read behind a text
abbrev pub stage_behind : List ℕ → Stage → Option Stage
stage_behind [] stage = Some stage
stage_behind (c ∷ text) stage = option_and_then (stage_behind text) (next_stage stage c)

pub record State : Type 0 where
  pub stage : Stage
  pub places : List Place

-- the state behind a text, each place once
pub record IsState (machine : Machine) (text : List ℕ) (state : State) : Type 0 where
  pub stage : stage_behind text (first_stage machine.grammar) ≡ Some state.stage
  pub places : (k : Place) → Contains state.places k ↔ IsPlace machine text k
  pub once : AllPairs (λ one other. one ≢ other) state.places

abbrev pub IsSame : State → State → Type 0
IsSame one other = (one.stage ≡ other.stage) × SameElements one.places other.places

-- states behind texts that are gone on with, no two of them the same
pub record AreStates (goes_on : List ℕ → Type 0) (machine : Machine) (states : List State) : Type 0 where
  pub behind : (state : State) → Contains states state → (text : List ℕ) × goes_on text × IsState machine text state
  pub apart : AllPairs (λ one other. ¬ IsSame one other) states

-- there are more than 65,536 states, or more than 4,194,304 places in states
abbrev pub HasManyStates : (List ℕ → Type 0) → Machine → Type 0
HasManyStates goes_on machine =
    (states : List State) × AreStates goes_on machine states
    × ((65536 < length states) ⊎ (4194304 < sum_by (λ state. length state.places) states))

-- ---- of a question
-- patterns with the numbers of their groups: each that has to match is a group of its own
abbrev pub with_number : ℕ → List (List Sign) → List (ℕ × List Sign)
with_number g patterns = map (λ p. (g, p)) patterns

abbrev pub numbered_within : ℕ → List (List Sign) → List (ℕ × List Sign)
numbered_within g [] = []
numbered_within g (p ∷ patterns) = (g, p) ∷ numbered_within (g + 1) patterns

abbrev pub numbered_groups : ℕ → List (List (List Sign)) → List (ℕ × List Sign)
numbered_groups g [] = []
numbered_groups g (group ∷ groups) = with_number g group ++ numbered_groups (g + 1) groups

abbrev pub pattern_of : ℕ × List Sign → Pattern
pattern_of pair = record { group = pair.0; signs = pair.1 }

-- a pattern of a group that matches every text
abbrev pub goal_of : ℕ → Pattern
goal_of g = record { group = g; signs = Any ∷ [] }

abbrev pub group_count : Question → ℕ
group_count question = length question.within + length question.groups

abbrev pub machine_of : Question → Machine
machine_of question = record {
  grammar = question.grammar;
  patterns =
      map goal_of (range_with_len 0 (group_count question))
      ++ map pattern_of (numbered_within 0 question.within ++ numbered_groups (length question.within) question.groups);
  count = group_count question;
}

-- a text is gone on with: the grammar and each pattern that has to match have texts that begin with it, and no named text does
pub record GoesOn (question : Question) (text : List ℕ) : Type 0 where
  pub characters : IsText text
  pub grammar : (rest : List ℕ) × IsIn question.grammar (text ++ rest)
  pub within : (pattern : List Sign) → Contains question.within pattern → (rest : List ℕ) × Matches pattern (text ++ rest)
  pub unnamed : (rest : List ℕ) → ¬ Contains question.named (text ++ rest)

-- texts that are asked about, of which no two agree
pub record AreApart (question : Question) (texts : List (List ℕ)) : Type 0 where
  pub meant : (text : List ℕ) → Contains texts text → IsText text × IsMeant question text
  pub apart : AllPairs (λ one other. ¬ Agree question one other) texts

-- there are more than 4,096 kinds
abbrev pub HasManyKinds : Question → Type 0
HasManyKinds question = (texts : List (List ℕ)) × AreApart question texts × (4096 < length texts)

-- a walk passes one of its limits
abbrev pub PassesLimit : Question → Type 0
PassesLimit question = HasManyStates (GoesOn question) (machine_of question) ⊎ HasManyKinds question
