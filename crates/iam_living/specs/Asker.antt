-- A principal that asks, the statements that are listed for it, and those that stand with the resources that it asks for. LOGIC 11.1.
use Rattle.std.specs.Prelude.{◌≡◌, ◌⊎◌, ℕ, Bool, List, Option, Some, None, length, map, true}
use Rattle.std.specs.List.{slice_get}
use Rattle.iam_context.specs.Context.{ContextValue}
use Rattle.iam_match.specs.Requester.{RequesterValue}
use Rattle.iam_match.specs.Statement.{AccessValue}
use Rattle.iam_decision.specs.Applicable.{ApplicableValue}
use Rattle.iam_decision.specs.Code.Scan.{placed_value}
use Rattle.iam_decision.specs.Matched.{Placed}
use Rattle.iam_decision.specs.declared.scan.Standing.{Standing}
use Rattle.iam_layers.specs.Cell.{IsAccessAt, IsContextAt, IsPrincipal}
use Rattle.iam_columns.specs.Slots.{Keeps}
use Rattle.iam_world.specs.World.{WorldValue}
use Rattle.iam_index.specs.Given.{IsFree}
use Rattle.iam_index.specs.Index.{AreResourceLists, IsListOf, ListsResource}
use Rattle.iam_index.specs.declared.lists.Listed.{Listed}
use Rattle.iam_living.specs.Listing.{Lists, statements_of}
use Rattle.iam_living.specs.Living.{ConcernNone}
use Rattle.iam_living.specs.Marks.{AreListingMarks}
use Rattle.iam_living.specs.Word.{AreBits}
use Rattle.iam_living.specs.declared.asker.Asker.{Asker}
use Rattle.iam_living.specs.declared.asker.Bits.{Bits}
use Rattle.iam_living.specs.declared.keys.Told.{Told}

-- principal p asks; its statements, and those that stand with resources, are listed
pub record IsAsker (world : WorldValue) (p : ℕ) (asker : Asker) : Type 0 where
  pub of : asker.listing.world ≡ world
  pub asks : IsPrincipal world p (λ principal. asker.requester.now ≡ principal.requester)
  pub lists : Lists world p asker.listing.org asker.listing.own
  pub resources : AreResourceLists world asker.lists.now.lists.items asker.lists.now.numbers.items
  pub count : length asker.lists.now.numbers.items ≡ length world.resources

-- this is the list of resource r
abbrev pub AreNumbered : Asker → ℕ → Listed → Type 0
AreNumbered asker r listed =
    (n : ℕ) × (slice_get asker.lists.now.numbers.items r ≡ Some n) × (slice_get asker.lists.now.lists.items n ≡ Some listed)

-- in a request for this access the bits say which of the statements live that are listed for the principal, and which of these ones, of
-- which the list is told where one lives
pub record AreBitsOf (asker : Asker) (access : AccessValue) (statements : List Placed) (bits : Bits) : Type 0 where
  pub asks : access.requester ≡ asker.requester.now
  pub principal : AreBits access (statements_of asker.listing) bits.principal
  pub resource : AreBits access statements bits.resource
  pub list : (bits.resource ≡ 0) ⊎ IsListOf asker.lists.now.lists.items bits.list statements

-- so the bits say of principal p's requests for resource r and the statements that stand with the resource
pub record AreBitsAt (world : WorldValue) (p r : ℕ) (asker : Asker) (bits : Bits) : Type 0 where
  pub applicable : ApplicableValue
  pub access : AccessValue
  pub listed : List Standing
  pub at : IsAccessAt world p r applicable access
  pub lists : ListsResource world r listed
  pub are : AreBitsOf asker access (map placed_value listed) bits

-- whether the statement matches depends neither on a resource's ARN nor on a key that a resource gives
abbrev pub AsksForNone : WorldValue → Placed → Type 0
AsksForNone world s = (s.statement.resource ≡ None) × IsFree world s.statement

-- the word says which of these statements live in each request of the requester, principal p, that has these derived keys
abbrev pub LiveBy : WorldValue → ℕ → ContextValue → RequesterValue → List Placed → ℕ → Type 0
LiveBy world p derived requester statements word =
    (r : ℕ) (access : AccessValue) → access.requester ≡ requester → IsContextAt world p r derived access.context
    → AreBits access statements word

-- what is told of the lists is right
abbrev pub AreListWords : WorldValue → ℕ → ContextValue → RequesterValue → List Listed → List (Option ℕ) → Type 0
AreListWords world p derived requester lists told =
    (n word : ℕ) (listed : Listed) → Keeps told n word → slice_get lists n ≡ Some listed
    → LiveBy world p derived requester (map placed_value listed.statements.items) word

-- what is told by the derived keys is right
pub record AreTold (asker : Asker) (p : ℕ) (derived : ContextValue) (told : Told) : Type 0 where
  pub listing : AreListingMarks asker.listing p derived told.listing
  pub lists : AreListWords asker.listing.world p derived asker.requester.now asker.lists.now.lists.items told.lists.items

-- where it is kept that the list concerns the requester in nothing, that is so
abbrev pub AreConcerns : Asker → List (Option Bool) → Type 0
AreConcerns asker concerns =
    (n : ℕ) (listed : Listed) → Keeps concerns n true → slice_get asker.lists.now.lists.items n ≡ Some listed
    → ConcernNone asker.requester.now (map placed_value listed.statements.items)
