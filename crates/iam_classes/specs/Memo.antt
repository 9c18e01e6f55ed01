-- What an engine keeps: classes of requests that share the same, and verdicts on them. It may keep anything that is right,
-- and let go of it at any time. LOGIC 1.1.
use Rattle.std.specs.Prelude.{◌≡◌, ◌+◌, ◌<◌, ◌≤◌, ◌⊎◌, ◌++◌, ℕ, [], List, Option, Some, length, sum_by}
use Rattle.std.specs.List.{Contains, slice_get}
use Rattle.iam_match.specs.Statement.{AccessValue, request_for}
use Rattle.iam_decision.specs.Applicable.{ApplicableValue}
use Rattle.iam_decision.specs.Decision.{IsVerdict}
use Rattle.iam_decision.specs.Living.{AreFound, IsShared, SharedValue}
use Rattle.iam_decision.specs.Matched.{placed}
use Rattle.iam_decision.specs.Ruling.{IsRuling, RulingValue}
use Rattle.iam_decision.specs.declared.frame.Frame.{Frame}
use Rattle.iam_decision.specs.declared.living.Matched.{Matched}
use Rattle.iam_decision.specs.declared.verdict.Verdict.{Verdict}
use Rattle.iam_layers.specs.Cell.{IsAction, IsSharedAt, IsVerdictAt}
use Rattle.iam_world.specs.World.{WorldValue}
use Rattle.iam_index.specs.Elements.{ActAlike, AreActRows, AreActs, AreElements}
use Rattle.iam_columns.specs.Slots.{AllAre}
use Rattle.iam_columns.specs.declared.numbered.Numbered.{Numbered}
use Rattle.iam_index.specs.declared.elements.Element.{Element}
use Rattle.iam_index.specs.declared.signs.Sign.{Sign}
use Rattle.iam_classes.specs.declared.memo.Class.{Class}
use Rattle.iam_classes.specs.declared.memo.Room.{Room}

-- the world, the classes of requests and the verdicts, with what they follow from, by number; how many more statements and how many
-- verdicts may be kept
pub record MemoValue : Type 0 where
  pub world : WorldValue
  pub classes : List Class
  pub rulings : List RulingValue
  pub room : Room
  pub most_verdicts : ℕ

-- it is of the same world, with the same bounds
abbrev pub IsSameMemo : MemoValue → MemoValue → Type 0
IsSameMemo old new = (new.world ≡ old.world) × (new.room.most ≡ old.room.most) × (new.most_verdicts ≡ old.most_verdicts)

-- there are these classes, and perhaps more behind them
abbrev pub HasMore : List Class → List Class → Type 0
HasMore old new = (more : List Class) × (new ≡ old ++ more)

-- requests of the class share this
abbrev pub HasShared : List Class → SharedValue → ℕ → Type 0
HasShared classes shared n = (class : Class) × (slice_get classes n ≡ Some class) × (class.shared ≡ shared)

-- requests of principal p for resource r share what requests of the class share
abbrev pub HasClass : WorldValue → List Class → ℕ → ℕ → ℕ → Type 0
HasClass world classes p r n = (class : Class) × (slice_get classes n ≡ Some class) × IsSharedAt world p r class.shared

-- this is the verdict on every request for action a that shares this
abbrev pub IsSharedVerdict : WorldValue → SharedValue → ℕ → Verdict → Type 0
IsSharedVerdict world shared a verdict =
    (action : List ℕ) (applicable : ApplicableValue) (access : AccessValue) → IsAction world a action
    → IsShared world.actions applicable access shared → IsVerdict applicable (request_for access action) verdict

-- the verdict of this number is the one on requests for action a that share this
abbrev pub IsNumber : WorldValue → SharedValue → List RulingValue → ℕ → ℕ → Type 0
IsNumber world shared rulings a number =
    (ruling : RulingValue) × (slice_get rulings number ≡ Some ruling) × IsSharedVerdict world shared a ruling.verdict

-- the same of requests of the class
abbrev pub HasNumber : WorldValue → List Class → List RulingValue → ℕ → ℕ → ℕ → Type 0
HasNumber world classes rulings n a number =
    (class : Class) × (slice_get classes n ≡ Some class) × IsNumber world class.shared rulings a number

-- the verdict of this number follows from this
abbrev pub HasRuling : List RulingValue → Frame → List Matched → ℕ → Type 0
HasRuling rulings frame found number = (ruling : RulingValue) × (slice_get rulings number ≡ Some ruling) × IsRuling frame found ruling

-- the verdict of this number is the one on principal p's request for action a on resource r
abbrev pub HasVerdict : WorldValue → List RulingValue → ℕ → ℕ → ℕ → ℕ → Type 0
HasVerdict world rulings p a r number =
    (ruling : RulingValue) × (slice_get rulings number ≡ Some ruling) × IsVerdictAt world p a r ruling.verdict

-- what is asked of requests that share this, and which statements match those of them that are for the action
abbrev pub Finds : WorldValue → SharedValue → List ℕ → Frame → List Matched → Type 0
Finds world shared action frame found =
    (applicable : ApplicableValue) (access : AccessValue) → IsShared world.actions applicable access shared
    → (frame ≡ shared.frame) × AreFound (request_for access action) (placed applicable) found

-- the same of each action of the world whose acts on these statements are those of this one
abbrev pub FindsAlike : WorldValue → SharedValue → List ℕ → Frame → List Matched → Type 0
FindsAlike world shared action frame found =
    (other : List ℕ) → Contains world.actions other → ActAlike action other shared.living → Finds world shared other frame found

-- the word is the signature of action a in the class
abbrev pub IsSign : WorldValue → List Class → ℕ → ℕ → ℕ → Type 0
IsSign world classes n a word =
    (class : Class) (text : List ℕ) → slice_get classes n ≡ Some class → IsAction world a text → AreActs text class.shared.living word

-- the verdict of this number is the one on requests of the class for each action of this signature
abbrev pub HasSigned : WorldValue → List Class → List RulingValue → ℕ → ℕ → ℕ → Type 0
HasSigned world classes rulings n word number = (a : ℕ) → IsSign world classes n a word → HasNumber world classes rulings n a number

-- each pair of a principal and a resource is of its class
abbrev pub ArePairs : WorldValue → List Class → List (Option Numbered) → Type 0
ArePairs world classes pairs = AllAre (λ pair. HasClass world classes pair.one pair.other pair.number) pairs

-- each answer, under a class and an action, is the one on the requests of that class for that action
abbrev pub AreAnswers : WorldValue → List Class → List RulingValue → List (Option Numbered) → Type 0
AreAnswers world classes rulings answers =
    AllAre (λ answer. HasNumber world classes rulings answer.one answer.other answer.number) answers

-- so each number under a class and a signature
abbrev pub AreSigns : WorldValue → List Class → List RulingValue → List (Option Sign) → Type 0
AreSigns world classes rulings signs = AllAre (λ sign. HasSigned world classes rulings sign.class sign.word sign.number) signs

-- the rows of each class tell what the action elements of its statements match
abbrev pub HaveRows : WorldValue → List Class → Type 0
HaveRows world classes = (n : ℕ) (class : Class) → slice_get classes n ≡ Some class → AreActRows world class.shared.living class.rows.items

-- what the classes cost of the room: each of them its statements, and one more
abbrev pub cost : List Class → ℕ
cost classes = sum_by (λ class. length class.shared.living + 1) classes

-- the classes and what is left make up the room, or one class alone is dearer than all of it
abbrev pub AreWithin : Room → List Class → Type 0
AreWithin room classes =
    (cost classes + room.left ≡ room.most) ⊎ ((length classes ≡ 1) × (room.left ≡ 0) × (room.most ≤ cost classes))

-- there is room for a class of requests that share this, or no class is kept
abbrev pub IsFreeFor : Room → List Class → SharedValue → Type 0
IsFreeFor room classes shared = (length shared.living < room.left) ⊎ (classes ≡ [])

-- everything that is kept is right, and no more than may be
pub record IsRight
    (world : WorldValue) (elements : List Element) (classes : List Class) (rulings : List RulingValue) (pairs : List (Option Numbered))
    (answers : List (Option Numbered)) (signs : List (Option Sign)) (room : Room) (most_verdicts : ℕ) : Type 0 where
  pub pairs_are : ArePairs world classes pairs
  pub answers_are : AreAnswers world classes rulings answers
  pub signs_are : AreSigns world classes rulings signs
  pub elements_are : AreElements world elements
  pub rows_are : HaveRows world classes
  pub classes_fit : AreWithin room classes
  pub rulings_fit : length rulings ≤ most_verdicts
  pub some_fit : 1 ≤ most_verdicts
