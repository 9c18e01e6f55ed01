-- What is told for each action, worked out once for actions that the same statements match.
use Rattle.std.specs.Prelude.{◌≡◌, ◌⊎◌, ◌<◌, ◌∷◌, [], ℕ, List, Option, Some, MatchOption, codes, length, map, string_bytes}
use Rattle.std.specs.Arc.{arc_value}
use Rattle.std.specs.Global.{Global, Vec}
use Rattle.std.specs.declared.sync.Arc.{Arc}
use Rattle.std.specs.List.{AllZip, Any, range_with_len, slice_get}
use Rattle.std.specs.Str.{chars}
use Rattle.iam_glob.specs.Glob.{Matches}
use Rattle.iam_match.specs.Request.{access_of}
use Rattle.iam_match.specs.Statement.{AccessValue}
use Rattle.iam_decision.specs.Applicable.{ApplicableValue, frame_of}
use Rattle.iam_decision.specs.Code.Scan.{placed_value}
use Rattle.iam_decision.specs.Living.{Lives}
use Rattle.iam_decision.specs.Matched.{Placed, Selects, placed}
use Rattle.iam_world.specs.World.{WorldValue}
use Rattle.iam_layers.specs.Unnamed.{IsUnnamedAccess}
use Rattle.iam_layers.specs.declared.unnamed.Unnamed.{Unnamed}
use Rattle.iam_layers.specs.declared.unnamed.Unnamed.TheVariants.{Like}
use Rattle.iam_every.specs.Code.Picked.{ActsOn, IsEligible, TellEach}
use Rattle.iam_every.specs.Code.Rows.{AreOfMatched, AreRowsOn, IsLined}
use Rattle.iam_every.specs.Every.{EveryValue, IsFirst, IsNamed, LineValue, RowValue, every_of}
use Rattle.iam_every.specs.Made.{AreOfLine, IsRowOf}
use Rattle.iam_every.specs.declared.given.Given.{Given}
use Rattle.iam_every.specs.declared.scene.Scene.{Scene}
use Rattle.iam_every.specs.declared.told.About.{About}
use Rattle.iam_every.specs.declared.told.About.TheVariants.{Line, Resource, Star}
use Rattle.iam_every.specs.declared.told.Known.{Known}
use Rattle.iam_every.specs.declared.told.Lived.{Lived}
use Rattle.iam_every.specs.declared.rows.Said.{Said}
use Rattle.iam_every.specs.declared.told.Told.{Told}

-- who asks in which context, for the resource of this text
abbrev pub access_at : AccessValue → List ℕ → AccessValue
access_at access text = record access { resource = text }

-- without where they lie in memory
abbrev pub eligible_in : Scene → List Placed
eligible_in scene = map placed_value scene.eligible.now

-- it is that of requests of principal p for resources of which this is said
pub record IsScene (world : WorldValue) (p : ℕ) (unnamed : Unnamed) (scene : Scene) : Type 0 where
  pub applicable : ApplicableValue
  pub asks : (action : List ℕ) → IsUnnamedAccess world p unnamed action scene.access.resource.now applicable (access_of scene.access)
  pub frame : scene.frame ≡ frame_of applicable
  pub eligible : Selects (IsEligible (access_of scene.access)) (placed applicable) (eligible_in scene)

-- ---- what is asked about
-- P holds of what is said of the line
abbrev pub OfLine : EveryValue → ℕ → (Unnamed → Type 0) → Type 0
OfLine every k P = (line : LineValue) → slice_get every.lines k ≡ Some line → P line.unnamed

-- P holds of what is said of the texts that are asked about
abbrev pub OfAbout : EveryValue → About → (Unnamed → Type 0) → Type 0
OfAbout every (Line k) P = OfLine every k P
OfAbout every (Resource r) P = P (Like r)
OfAbout every (Star k) P = OfLine every k P

-- this is said of the texts that are asked about
abbrev pub IsSaidOf : EveryValue → About → Unnamed → Type 0
IsSaidOf every about unnamed = OfAbout every about (λ said. said ≡ unnamed)

-- there is what is asked about
abbrev pub IsAbout : EveryValue → About → Type 0
IsAbout every (Line k) = k < length every.lines
IsAbout every (Resource r) = r < length every.world.resources
IsAbout every (Star k) = ¬ IsNamed every.world (codes "*") × ((line : LineValue) × IsFirst every.lines (codes "*") k line)

abbrev pub IsSceneOf : EveryValue → ℕ → About → Scene → Type 0
IsSceneOf every p about scene = OfAbout every about (λ unnamed. IsScene every.world p unnamed scene)

-- ---- what is told
abbrev pub row_as : List ℕ → Arc Said Global → RowValue
row_as action said = record { action = action; resource = string_bytes (arc_value said).resource; verdict = (arc_value said).verdict }

-- the row of `*`, and it alone
abbrev pub AreOfStarIn : EveryValue → ℕ → List ℕ → ℕ → List RowValue → Type 0
AreOfStarIn every p action k rows =
    (row : RowValue) × OfLine every k (λ unnamed. IsRowOf every.world p unnamed action (codes "*") row) × (rows ≡ row ∷ [])

-- the rows for the action
abbrev pub AreRowsAbout : EveryValue → ℕ → About → List ℕ → List RowValue → Type 0
AreRowsAbout every p (Line k) action rows = AreRowsOn every p action (IsLined every k) rows × AreOfLine every p action k rows
AreRowsAbout every p (Resource r) action rows = AreOfMatched every p action r rows
AreRowsAbout every p (Star k) action rows = AreOfStarIn every p action k rows

-- this is told for the action
abbrev pub IsSaidFor : EveryValue → ℕ → About → List ℕ → List (Arc Said Global) → Type 0
IsSaidFor every p about action said = AreRowsAbout every p about action (map (row_as action) said)

-- what is kept is told for each action that just these of the statements match
abbrev pub IsKnown : EveryValue → ℕ → About → Scene → Known → Type 0
IsKnown every p about scene known =
    (action : List ℕ) → TellEach (ActsOn action) (eligible_in scene) known.acts.items → IsSaidFor every p about action known.said.items

-- these live on the resource of the text
abbrev pub IsLived : Scene → Lived → Type 0
IsLived scene lived = TellEach (Lives (access_at (access_of scene.access) (string_bytes lived.text))) (eligible_in scene) lived.lives.items

-- the number is that of what is told for the action
abbrev pub IsNumberFor : EveryValue → ℕ → About → List Known → List ℕ → ℕ → Type 0
IsNumberFor every p about known action n = (one : Known) × (slice_get known n ≡ Some one) × IsSaidFor every p about action one.said.items

-- so it is where the statements are let go
abbrev pub SaidList : Type 0
SaidList = Vec (Arc Said Global)

abbrev pub IsNumberIn : EveryValue → ℕ → About → List SaidList → List ℕ → ℕ → Type 0
IsNumberIn every p about lists action n =
    (one : SaidList) × (slice_get lists n ≡ Some one) × IsSaidFor every p about action one.items

abbrev pub IsTold : EveryValue → ℕ → About → List (List ℕ) → Told → Type 0
IsTold every p about actions told = AllZip (IsNumberIn every p about told.lists.items) actions told.numbers.items

-- ---- what is told of all
-- of each resource that some line matches
abbrev pub AreNamed : Given → List (List ℕ) → List Told → Type 0
AreNamed given actions named = AllZip (λ r told. IsTold (every_of given.asked) given.p (Resource r) actions told) given.matched.now named

-- `*` has no row: a resource has it, or no line speaks of it
abbrev pub HasNoStar : EveryValue → Type 0
HasNoStar every = IsNamed every.world (codes "*") ⊎ ¬ Any (λ line. Matches line.pattern (chars (codes "*"))) every.lines

abbrev pub IsToldOfStar : EveryValue → ℕ → List (List ℕ) → Told → Type 0
IsToldOfStar every p actions told = (k : ℕ) × IsAbout every (Star k) × IsTold every p (Star k) actions told

-- of `*`, if it has a row
abbrev pub AreStar : EveryValue → ℕ → List (List ℕ) → Option Told → Type 0
AreStar every p actions star = MatchOption star (HasNoStar every) (IsToldOfStar every p actions)

-- of each line
abbrev pub AreLined : EveryValue → ℕ → List (List ℕ) → List Told → Type 0
AreLined every p actions lined =
    AllZip (λ k told. IsTold every p (Line k) actions told) (range_with_len 0 (length every.lines)) lined
