-- What a walk keeps, beside the definitions that it meets (`Kinds`): the patterns have the numbers of their groups, and the first
-- groups are the patterns that have to match. LOGIC 2.2.
use Rattle.std.specs.Prelude.{◌≡◌, ◌≢◌, ◌↔◌, ◌<◌, ◌≤◌, ◌⊎◌, ◌++◌, ℕ, Bool, false, List, [], ◌∷◌, length, map, drop, IsTrue, AllPairs, Contains, Some}
use Rattle.std.specs.Char.{IsScalar}
use Rattle.std.specs.List.{slice_get, sum_by}
use Rattle.std.specs.List.Sorted.{IsStrictlyIncreasing}
use Rattle.std.specs.Option.{option_map_or}
use Rattle.iam_glob.specs.Glob.{Matches, folded}
use Rattle.iam_kinds.specs.Code.{AreIn, IsTable, Leads, first_stage, is_last_stage, next_stage, stage_number}
use Rattle.iam_kinds.specs.Kinds.{IsBefore, IsIn, IsText, Question}
use Rattle.iam_kinds.specs.Lists.{lists_in}
use Rattle.iam_kinds.specs.Places.{IsRising}
use Rattle.iam_kinds.specs.Spelled.{EachBehind, IsCasedAt, IsLetter, IsSpelledBy}
use Rattle.iam_kinds.specs.States.{HasManyStates, IsPlace, Machine, State, machine_of, stage_behind}
use Rattle.iam_kinds.specs.declared.grammar.Grammar.{Grammar}
use Rattle.iam_kinds.specs.declared.grammar.Stage.{Stage}
use Rattle.iam_kinds.specs.declared.table.Pattern.{Pattern}
use Rattle.iam_kinds.specs.declared.table.Place.{Place}
use Rattle.iam_kinds.specs.declared.asked.Asked.{Asked}
use Rattle.iam_kinds.specs.declared.asked.Node.{Node}
use Rattle.iam_kinds.specs.declared.walk.Walk.{Walk}

-- what is asked, by the patterns of all groups
pub record Query : Type 0 where
  pub patterns : List Pattern
  pub within : ℕ
  pub grammar : Grammar
  pub named : List (List ℕ)

abbrev pub query_of : Asked → Query
query_of asked = record {
  patterns = drop asked.count asked.table.now.patterns.items;
  within = asked.within;
  grammar = asked.grammar;
  named = map (λ text. text.items) asked.named.now;
}

abbrev pub machine_at : Asked → Machine
machine_at asked = record { grammar = asked.grammar; patterns = asked.table.now.patterns.items; count = asked.count }

-- each character of the text is as these patterns have it, which are not folded, behind the text so far
abbrev pub IsCasedFor : Asked → List Pattern → List ℕ → Type 0
IsCasedFor asked own text =
    EachBehind (λ before c. IsCasedAt (IsPlace (machine_at asked) (map folded before)) asked.table.now.patterns.items own c) text

-- what is asked is the question
pub record Asks (asked : Asked) (question : Question) : Type 0 where
  pub machine : machine_at asked ≡ machine_of question
  pub within : asked.within ≡ length question.within
  pub named : (query_of asked).named ≡ question.named

-- its table has a place for each group that has matched for good, and a pattern of each group that has to match
pub record IsReady (asked : Asked) : Type 0 where
  pub table : IsTable asked.table.now.patterns.items
  pub count : asked.count ≤ length asked.table.now.patterns.items
  pub within : (g : ℕ) → g < asked.within → (p : Pattern) × Contains (query_of asked).patterns p × (p.group ≡ g)

-- the group matches the text
abbrev pub Has : Query → ℕ → List ℕ → Type 0
Has query g text = (p : Pattern) × Contains query.patterns p × (p.group ≡ g) × Matches p.signs text

-- the grammar has the text, and the first groups match it
pub record Fits (query : Query) (text : List ℕ) : Type 0 where
  pub grammar : IsIn query.grammar text
  pub within : (g : ℕ) → g < query.within → Has query g text

-- it is not one of those named
pub record IsSought (query : Query) (text : List ℕ) : Type 0 where
  pub fits : Fits query text
  pub unnamed : ¬ Contains query.named text

-- some text of the grammar begins with it, and for each of the first groups one that the group matches
pub record IsLive (query : Query) (text : List ℕ) : Type 0 where
  pub grammar : (rest : List ℕ) × IsIn query.grammar (text ++ rest)
  pub within : (g : ℕ) → g < query.within → (rest : List ℕ) × Has query g (text ++ rest)

-- no named text begins with the text
abbrev pub IsFree : Query → List ℕ → Type 0
IsFree query text = (rest : List ℕ) → ¬ Contains query.named (text ++ rest)

-- it is gone on with, and its state is counted
abbrev pub IsCounted : Query → List ℕ → Type 0
IsCounted query text = IsText text × IsLive query text × IsFree query text

abbrev pub Alike : Query → List ℕ → List ℕ → Type 0
Alike query one other = (g : ℕ) → Has query g one ↔ Has query g other

-- one text is the other, or before it
abbrev pub IsNotAfter : List ℕ → List ℕ → Type 0
IsNotAfter one other = (one ≡ other) ⊎ IsBefore one other

pub record AreTexts (query : Query) (texts : List (List ℕ)) : Type 0 where
  pub sought : (text : List ℕ) → Contains texts text → IsSought query text
  pub whole : (text : List ℕ) → IsText text → IsSought query text
      → (shown : List ℕ) × Contains texts shown × Alike query shown text × (length shown ≤ length text)
  pub apart : AllPairs (λ one other. ¬ Alike query one other) texts
  pub order : AllPairs IsBefore texts

-- each is spelled by letters that are tried, and not after any that is like it and so spelled
pub record AreLeast (machine : Machine) (query : Query) (texts : List (List ℕ)) : Type 0 where
  pub spelled : (text : List ℕ) → Contains texts text → IsText text × IsSpelledBy machine query.named text
  pub least : (text : List ℕ) → IsSought query text → IsSpelledBy machine query.named text
      → (shown : List ℕ) × Contains texts shown × Alike query shown text × IsNotAfter shown text

-- whether characters complete a text of the grammar that is read as far as this
abbrev pub completes : List ℕ → Stage → Bool
completes [] stage = is_last_stage stage
completes (c ∷ text) stage = option_map_or (completes text) (next_stage stage c) false

abbrev pub tails_at : Node → List (List ℕ)
tails_at node = map (λ tail. tail.now) node.tails.items

-- a letter that is tried behind a text, and a text of such letters
abbrev pub IsTriedBehind : Asked → List ℕ → ℕ → Type 0
IsTriedBehind asked text c = IsLetter (machine_at asked) (query_of asked).named text c

abbrev pub IsSpelledFor : Asked → List ℕ → Type 0
IsSpelledFor asked text = IsSpelledBy (machine_at asked) (query_of asked).named text

-- a node says of its text how every text goes on that begins with it
pub record IsAt (asked : Asked) (node : Node) : Type 0 where
  pub stage : (text : List ℕ) → IsIn asked.grammar (node.text.items ++ text) ↔ IsTrue (completes text node.stage)
  pub places_in : AreIn asked.table.now.patterns.items node.places.items
  pub places : (g : ℕ) (text : List ℕ) → Leads asked.table.now.patterns.items node.places.items g text ↔ Has (query_of asked) g (node.text.items ++ text)
  pub tails : (text : List ℕ) → Contains (query_of asked).named (node.text.items ++ text) ↔ Contains (tails_at node) text
  pub characters : IsText node.text.items
  pub live : IsLive (query_of asked) node.text.items
  pub read : stage_behind node.text.items (first_stage asked.grammar) ≡ Some node.stage
  pub rising : IsRising node.places.items
  pub placed : (k : Place) → Contains node.places.items k ↔ IsPlace (machine_at asked) node.text.items k
  pub spelled : IsSpelledFor asked node.text.items

-- the numbers of a state
abbrev pub place_numbers : List Place → List ℕ
place_numbers [] = []
place_numbers (k ∷ places) = k.pattern ∷ (k.at ∷ place_numbers places)

abbrev pub key_of : Node → List ℕ
key_of node = stage_number node.stage ∷ place_numbers node.places.items

-- the state behind one text is that behind the other
pub record HasState (machine : Machine) (other text : List ℕ) : Type 0 where
  pub stage : stage_behind text (first_stage machine.grammar) ≡ stage_behind other (first_stage machine.grammar)
  pub places : (k : Place) → IsPlace machine text k ↔ IsPlace machine other k

-- whatever follows one text may follow the other, and none of those is named that follow the other, if it is not the same
pub record StandsFor (asked : Asked) (other text : List ℕ) : Type 0 where
  pub grammar : (rest : List ℕ) → IsIn asked.grammar (text ++ rest) ↔ IsIn asked.grammar (other ++ rest)
  pub groups : (g : ℕ) (rest : List ℕ) → Has (query_of asked) g (text ++ rest) ↔ Has (query_of asked) g (other ++ rest)
  pub named : IsFree (query_of asked) other ⊎ (other ≡ text)
  pub state : HasState (machine_at asked) other text
  pub shorter : length other ≤ length text

-- the numbers of the groups that match the text, in order
pub record Describes (query : Query) (numbers text : List ℕ) : Type 0 where
  pub rising : IsStrictlyIncreasing numbers
  pub groups : (g : ℕ) → Contains numbers g ↔ Has query g text

abbrev pub shown_in : Walk → List (List ℕ)
shown_in walk = map (λ text. text.items) walk.shown.items

-- a text like this one is shown that is not after it
abbrev pub IsCovered : Asked → Walk → List ℕ → Type 0
IsCovered asked walk text =
    (shown : List ℕ) × Contains (shown_in walk) shown × Alike (query_of asked) shown text × IsNotAfter shown text

-- the texts of the walk are before this one
pub record IsBelow (walk : Walk) (text : List ℕ) : Type 0 where
  pub nodes : (node : Node) → Contains walk.nodes.items node → IsBefore node.text.items text
  pub shown : (shown : List ℕ) → Contains (shown_in walk) shown → IsBefore shown text

-- so they are still once a node with this text came
abbrev pub StaysBelow : Walk → Walk → List ℕ → Type 0
StaysBelow old new added = (text : List ℕ) → IsBelow old text → IsBefore added text → IsBelow new text

-- so they are still once these letters were tried at a node
abbrev pub StaysBelowBehind : Walk → Walk → ℕ → List ℕ → Type 0
StaysBelowBehind old new head letters =
    (node : Node) → slice_get old.nodes.items head ≡ Some node → (text : List ℕ) → IsBelow old text
    → ((c : ℕ) → Contains letters c → IsBefore (node.text.items ++ (c ∷ [])) text) → IsBelow new text

pub record IsWalk (asked : Asked) (walk : Walk) : Type 0 where
  pub nodes : (node : Node) → Contains walk.nodes.items node → IsAt asked node
  pub sought : (text : List ℕ) → Contains (shown_in walk) text → IsText text × IsSought (query_of asked) text
  pub few : length (shown_in walk) ≤ 4096
  pub covered : (node : Node) → Contains walk.nodes.items node → IsSought (query_of asked) node.text.items → IsCovered asked walk node.text.items
  pub apart : AllPairs (λ one other. ¬ Alike (query_of asked) one other) (shown_in walk)
  pub rising : AllPairs (λ one other. IsBefore one.text.items other.text.items) walk.nodes.items
  pub order : AllPairs IsBefore (shown_in walk)
  pub spelled : (shown : List ℕ) → Contains (shown_in walk) shown → IsSpelledFor asked shown
  pub kinds : (numbers : List ℕ) → Contains (lists_in walk.kinds) numbers
      → (shown : List ℕ) × Contains (shown_in walk) shown × Describes (query_of asked) numbers shown
  pub described : (shown : List ℕ) → Contains (shown_in walk) shown
      → (numbers : List ℕ) × Contains (lists_in walk.kinds) numbers × Describes (query_of asked) numbers shown

abbrev pub state_of : Node → State
state_of node = record { stage = node.stage; places = node.places.items }

-- these nodes have the states that were seen, each another, and these are counted: they are those with which no named text begins
pub record Counts (walk : Walk) (free : List Node) : Type 0 where
  pub nodes : (node : Node) → Contains free node → Contains walk.nodes.items node × (tails_at node ≡ [])
  pub all : (node : Node) → Contains walk.nodes.items node → tails_at node ≡ [] → Contains (lists_in walk.seen) (key_of node)
  pub seen : (key : List ℕ) → Contains (lists_in walk.seen) key → (node : Node) × Contains free node × (key ≡ key_of node)
  pub back : (node : Node) → Contains free node → Contains (lists_in walk.seen) (key_of node)
  pub apart : AllPairs (λ one other. key_of one ≢ key_of other) free
  pub states : walk.states ≡ length free
  pub places : walk.places ≡ sum_by (λ node. length node.places.items) free
  pub few : walk.states ≤ 65536
  pub held : walk.places ≤ 4194304

abbrev pub HasSeen : Walk → Type 0
HasSeen walk = (free : List Node) × Counts walk free

-- texts that are asked about, of which no two are alike
pub record AreUnlike (query : Query) (texts : List (List ℕ)) : Type 0 where
  pub sought : (text : List ℕ) → Contains texts text → IsText text × IsSought query text
  pub apart : AllPairs (λ one other. ¬ Alike query one other) texts

abbrev pub HasManyTexts : Query → Type 0
HasManyTexts query = (texts : List (List ℕ)) × AreUnlike query texts × (4096 < length texts)

-- a walk passes one of its limits
abbrev pub IsOver : Asked → Type 0
IsOver asked = HasManyStates (IsCounted (query_of asked)) (machine_at asked) ⊎ HasManyTexts (query_of asked)

-- some nodes came after those that were there
abbrev pub Grows : Walk → Walk → Type 0
Grows old new = (more : List Node) × (new.nodes.items ≡ old.nodes.items ++ more)

-- some node stands for the text
abbrev pub IsMet : Asked → Walk → List ℕ → Type 0
IsMet asked walk text = (node : Node) × Contains walk.nodes.items node × StandsFor asked node.text.items text

-- a text stands for one that is spelled, and is not after it: it is the same, or no named text begins with either
abbrev pub IsFirstFor : Asked → List ℕ → List ℕ → Type 0
IsFirstFor asked other text =
    StandsFor asked other text
    × ((other ≡ text) ⊎ (IsFree (query_of asked) other × IsFree (query_of asked) text × IsBefore other text))

-- the text of some node is such a one
abbrev pub IsMetFirst : Asked → Walk → List ℕ → Type 0
IsMetFirst asked walk text = (node : Node) × Contains walk.nodes.items node × IsFirstFor asked node.text.items text

-- some node stands for the text and each character more with which it is gone on with, the first one where that is a letter
pub record IsExpanded (asked : Asked) (walk : Walk) (text : List ℕ) : Type 0 where
  pub all : (c : ℕ) → IsScalar c → IsLive (query_of asked) (text ++ (c ∷ [])) → IsMet asked walk (text ++ (c ∷ []))
  pub letters : (c : ℕ) → IsTriedBehind asked text c → IsLive (query_of asked) (text ++ (c ∷ [])) → IsMetFirst asked walk (text ++ (c ∷ []))

abbrev pub IsExpandedAt : Asked → Walk → ℕ → Type 0
IsExpandedAt asked walk head = (node : Node) → slice_get walk.nodes.items head ≡ Some node → IsExpanded asked walk node.text.items

-- these are the letters of a node
abbrev pub AreLetters : Asked → Walk → List ℕ → ℕ → Type 0
AreLetters asked walk letters head =
    (node : Node) → slice_get walk.nodes.items head ≡ Some node → (c : ℕ) → Contains letters c ↔ IsTriedBehind asked node.text.items c

-- once each of these letters is tried at a node, it is expanded
abbrev pub TriesAll : Asked → Walk → List ℕ → ℕ → Type 0
TriesAll asked walk letters head =
    (node : Node) → slice_get walk.nodes.items head ≡ Some node → (c : ℕ) → IsScalar c
    → IsLive (query_of asked) (node.text.items ++ (c ∷ []))
    → (o : ℕ) × Contains letters o × IsLive (query_of asked) (node.text.items ++ (o ∷ []))
    × ((other : List ℕ) → StandsFor asked other (node.text.items ++ (o ∷ [])) → StandsFor asked other (node.text.items ++ (c ∷ [])))

-- each of these letters was tried at a node
abbrev pub IsTried : Asked → Walk → ℕ → List ℕ → Type 0
IsTried asked walk head letters =
    (node : Node) → slice_get walk.nodes.items head ≡ Some node → (c : ℕ) → Contains letters c
    → IsLive (query_of asked) (node.text.items ++ (c ∷ [])) → IsMetFirst asked walk (node.text.items ++ (c ∷ []))
