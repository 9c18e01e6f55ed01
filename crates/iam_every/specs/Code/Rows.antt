-- Rows for some of the texts that lines match, as they are collected.
use Rattle.std.specs.Prelude.{◌≡◌, ◌<◌, ◌∷◌, [], ℕ, List, Contains, codes, length, map}
use Rattle.std.specs.List.{All, range_with_len}
use Rattle.std.specs.Str.{IsUtf8, chars}
use Rattle.iam_glob.specs.Glob.{Matches}
use Rattle.iam_glob.specs.Signs.{signs_in}
use Rattle.iam_glob.specs.declared.sign.Sign.{Sign}
use Rattle.iam_decision.specs.Matched.{Selects}
use Rattle.iam_kinds.specs.Answers.{IsAnswer}
use Rattle.iam_kinds.specs.Kept.{AreFound, names_of}
use Rattle.iam_kinds.specs.declared.kinds.Kinds.{Kinds}
use Rattle.iam_kinds.specs.declared.walks.Walks.{Walks}
use Rattle.iam_world.specs.World.{WorldValue}
use Rattle.iam_layers.specs.Cell.{IsResource}
use Rattle.iam_layers.specs.declared.unnamed.Unnamed.{Unnamed}
use Rattle.iam_layers.specs.declared.unnamed.Unnamed.TheVariants.{Like}
use Rattle.iam_every.specs.Every.{AreThere, EveryValue, IsFirst, IsMatched, IsMeantAction, IsNamed, IsResourceText, IsRight, IsToldBy, LineValue, RowValue, Says, arn_signs, every_of, line_question, patterns_of}
use Rattle.iam_every.specs.Made.{IsRowOf}
use Rattle.iam_every.specs.Names.{AreGroupsAt}
use Rattle.iam_every.specs.OwnGroups.{AreOwnGroupsAt}
use Rattle.iam_every.specs.declared.given.Given.{Given}

-- ---- what is worked out once
-- the texts of all resources
pub record AreNames (world : WorldValue) (names : List (List ℕ)) : Type 0 where
  pub are : names ≡ map (λ resource. resource.arn) world.resources
  pub utf8 : All IsUtf8 names

-- kinds are sought, and were found, beside these texts
pub record AreWalksOf (world : WorldValue) (walks : Walks) : Type 0 where
  pub found : AreFound walks
  pub names : names_of walks ≡ map chars (map (λ resource. resource.arn) world.resources)

-- line k is the first whose pattern matches the text
abbrev pub IsFirstOf : List LineValue → List ℕ → ℕ → Type 0
IsFirstOf lines text k = (line : LineValue) × IsFirst lines text k line

-- the resources that some line matches, in order; of each some line is the first
pub record AreMatched (world : WorldValue) (lines : List LineValue) (matched : List ℕ) : Type 0 where
  pub selected : Selects (IsMatched world lines) (range_with_len 0 (length world.resources)) matched
  pub first : All (λ r. IsResource world r (λ resource. (k : ℕ) × IsFirstOf lines resource.arn k)) matched

pub record IsGiven (given : Given) : Type 0 where
  pub principal : given.p < length given.asked.world.now.principals
  pub there : AreThere (every_of given.asked)
  pub arn : signs_in given.arn ≡ arn_signs
  pub none : given.none.now.items ≡ []
  pub matched : AreMatched given.asked.world.now (every_of given.asked).lines given.matched.now
  pub names : AreNames given.asked.world.now (map (λ name. name.now) given.names.now)
  pub patterns : map signs_in given.patterns.now ≡ patterns_of (every_of given.asked).lines

-- ---- rows
-- some row tells the resource of this text, of which this is said
abbrev pub IsToldAs : EveryValue → ℕ → List RowValue → List ℕ → List ℕ → Unnamed → Type 0
IsToldAs every p rows action text unnamed = (row : RowValue) × Contains rows row × IsToldBy every p action text unnamed row

-- rows for one action, and for texts of which P holds together with what is said of them
pub record AreRowsOn (every : EveryValue) (p : ℕ) (action : List ℕ) (P : List ℕ → Unnamed → Type 0) (rows : List RowValue) : Type 0 where
  pub right : IsMeantAction every action → All (IsRight every p) rows
  pub own : All (λ row. row.action ≡ action) rows
  pub whole : (text : List ℕ) (unnamed : Unnamed) → IsResourceText text → Says every text unnamed → P text unnamed
      → IsToldAs every p rows action text unnamed

-- one of the first so many resources has the text, and the text is like it
abbrev pub IsNamedBelow : EveryValue → ℕ → List ℕ → Unnamed → Type 0
IsNamedBelow every i text unnamed =
    (r : ℕ) × (r < i) × IsResource every.world r (λ resource. resource.arn ≡ text) × (unnamed ≡ Like r)

-- or one of these
abbrev pub IsNamedAmong : EveryValue → List ℕ → List ℕ → Unnamed → Type 0
IsNamedAmong every among text unnamed =
    (r : ℕ) × Contains among r × IsResource every.world r (λ resource. resource.arn ≡ text) × (unnamed ≡ Like r)

-- the row of resource r, and it alone
abbrev pub IsRowOfResource : EveryValue → ℕ → List ℕ → ℕ → RowValue → Type 0
IsRowOfResource every p action r row = IsResource every.world r (λ resource. IsRowOf every.world p (Like r) action resource.arn row)

abbrev pub AreOfMatched : EveryValue → ℕ → List ℕ → ℕ → List RowValue → Type 0
AreOfMatched every p action r rows = (row : RowValue) × IsRowOfResource every p action r row × (rows ≡ row ∷ [])

-- the text `*`, which no resource has
abbrev pub IsStar : EveryValue → List ℕ → Unnamed → Type 0
IsStar every text unnamed = ¬ IsNamed every.world text × (text ≡ codes "*")

-- the text of an ARN that no resource has, of which line k is the first to speak
abbrev pub IsLined : EveryValue → ℕ → List ℕ → Unnamed → Type 0
IsLined every k text unnamed =
    ¬ IsNamed every.world text × Matches arn_signs (chars text)
    × ((line : LineValue) × IsFirst every.lines text k line × (unnamed ≡ line.unnamed))

-- or one of the first so many lines is
abbrev pub IsLinedBelow : EveryValue → ℕ → List ℕ → Unnamed → Type 0
IsLinedBelow every i text unnamed = (k : ℕ) × (k < i) × IsLined every k text unnamed

-- ---- the rows of a line
-- a row for each of the texts of which line k is the first to speak
pub record AreRowsOfTexts (every : EveryValue) (p : ℕ) (action : List ℕ) (k : ℕ) (line : LineValue) (texts : List (List ℕ)) (rows : List RowValue) : Type 0 where
  pub only : (row : RowValue) → Contains rows row
      → (text : List ℕ) × Contains texts text × IsFirst every.lines text k line × IsRowOf every.world p line.unnamed action text row
  pub whole : (text : List ℕ) → Contains texts text → IsFirst every.lines text k line
      → (row : RowValue) × Contains rows row × IsRowOf every.world p line.unnamed action text row

-- one text of each kind of texts that line k speaks of
pub record AreLineKinds (every : EveryValue) (p : ℕ) (action : List ℕ) (k : ℕ) (line : LineValue) (kinds : Kinds) : Type 0 where
  pub groups : List (List (List Sign))
  pub own : AreOwnGroupsAt every.world p line.unnamed action groups
  pub are : AreGroupsAt every.world p line.unnamed action groups
  pub answer : IsAnswer (line_question every k line groups) kinds
