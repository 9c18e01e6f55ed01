-- Action elements of which it is kept what they match. LOGIC 1.1.
use Rattle.std.specs.Prelude.{◌≡◌, ◌↔◌, ◌/◌, ◌%◌, ◌++◌, ◌∷◌, [], ℕ, Bool, All, Any, IsTrue, List, length, Some, false}
use Rattle.std.specs.Borrow.{Bor}
use Rattle.std.specs.List.{AllZip, Contains, slice_get}
use Rattle.std.specs.Str.{chars}
use Rattle.iam_glob.specs.Glob.{MatchesFold}
use Rattle.iam_glob.specs.declared.sign.Sign.{Sign}
use Rattle.iam_services.specs.Services.{AreServices}
use Rattle.iam_element.specs.Reading.{ActionElement}
use Rattle.iam_match.specs.Statement.{ActionMatches}
use Rattle.iam_decision.specs.Living.{LivingValue}
use Rattle.iam_layers.specs.Cell.{IsAction}
use Rattle.iam_world.specs.World.{WorldValue}
use Rattle.iam_index.specs.declared.elements.Element.{Element}
use Rattle.iam_index.specs.declared.elements.Elements.{Elements}

-- each of these says whether the action element matches the action of the world at its place
abbrev pub TellActs : WorldValue → ActionElement → List Bool → Type 0
TellActs world action acts =
    (a : ℕ) (act : Bool) (text : List ℕ) → slice_get acts a ≡ Some act → IsAction world a text → IsTrue act ↔ ActionMatches action text

-- the action element matches no action of the world
abbrev pub MatchesNone : WorldValue → ActionElement → Type 0
MatchesNone world element = All (λ action. ¬ ActionMatches element action) world.actions

-- what is kept of the element is right
pub record IsElement (world : WorldValue) (element : Element) : Type 0 where
  pub acts : TellActs world element.action.now element.acts.items
  pub idle : element.some ≡ false → MatchesNone world element.action.now

abbrev pub AreElements : WorldValue → List Element → Type 0
AreElements world elements = (n : ℕ) (element : Element) → slice_get elements n ≡ Some element → IsElement world element

-- everything that is kept of the action elements of a world is right
pub record AreKept (world : WorldValue) (elements : Elements) : Type 0 where
  pub elements_are : AreElements world elements.elements.items
  pub services_are : AreServices world.actions elements.services

-- some of the patterns matches the action
abbrev pub SomeMatches : List (List Sign) → List ℕ → Type 0
SomeMatches patterns action = Any (λ pattern. MatchesFold pattern (chars action)) patterns

-- of the actions of the world those have this mark at their places that some of the patterns matches, and no others
pub record TellSome (world : WorldValue) (mark : Bool) (patterns : List (List Sign)) (acts : List Bool) : Type 0 where
  pub count : length acts ≡ length world.actions
  pub tells : (a : ℕ) (act : Bool) (text : List ℕ) → slice_get acts a ≡ Some act → IsAction world a text
      → act ≡ mark ↔ SomeMatches patterns text

-- so of the patterns that are done, and one more was tried on the actions of these numbers
pub record Marked (world : WorldValue) (mark : Bool) (done : List (List Sign)) (pattern : List Sign) (numbers : List ℕ) (acts : List Bool) : Type 0 where
  pub count : length acts ≡ length world.actions
  pub right : (a : ℕ) (act : Bool) (text : List ℕ) → slice_get acts a ≡ Some act → IsAction world a text → act ≡ mark
      → SomeMatches (done ++ pattern ∷ []) text
  pub before : (a : ℕ) (act : Bool) (text : List ℕ) → slice_get acts a ≡ Some act → IsAction world a text → SomeMatches done text → act ≡ mark
  pub tried : (a : ℕ) (act : Bool) (text : List ℕ) → slice_get acts a ≡ Some act → IsAction world a text → Contains numbers a
      → MatchesFold pattern (chars text) → act ≡ mark

-- this is the action element of the number
abbrev pub HasElement : List Element → ℕ → ActionElement → Type 0
HasElement elements n action = (element : Element) × (slice_get elements n ≡ Some element) × (element.action.now ≡ action)

-- for each living statement there is a row, which says of actions of the world, from the first on, whether its action element matches
abbrev pub AreActRows : WorldValue → List LivingValue → List (Bor (List Bool)) → Type 0
AreActRows world living rows = AllZip (λ s row. TellActs world s.action row.now) living rows

-- the bits of the word, from the least on, say of each of the living statements whether its action element matches the action;
-- behind them is none
abbrev pub AreActs : List ℕ → List LivingValue → ℕ → Type 0
AreActs text [] word = word ≡ 0
AreActs text (s ∷ living) word = ((word % 2 ≡ 1) ↔ ActionMatches s.action text) × AreActs text living (word / 2)

-- the same of these living statements act on both actions
abbrev pub ActAlike : List ℕ → List ℕ → List LivingValue → Type 0
ActAlike one other living = All (λ s. ActionMatches s.action one ↔ ActionMatches s.action other) living
