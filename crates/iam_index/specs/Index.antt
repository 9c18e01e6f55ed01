-- An index of a world: of the statements that apply to requests those that may match one for some action of the world. LOGIC 1.1.
use Rattle.std.specs.Prelude.{◌≡◌, ◌++◌, ℕ, All, IfSome, List, [], ◌∷◌, Option, Some, length, map}
use Rattle.std.specs.Global.{Vec}
use Rattle.std.specs.List.{slice_get}
use Rattle.iam_unasked.specs.Names.{HasNames}
use Rattle.iam_unasked.specs.declared.names.Names.{Names}
use Rattle.iam_match.specs.Statement.{ActionMatches, RequestValue}
use Rattle.iam_decision.specs.Applicable.{ApplicableValue}
use Rattle.iam_decision.specs.Code.Scan.{org_placed, placed_value, requester_placed, resource_placed}
use Rattle.iam_decision.specs.Living.{AreCandidates}
use Rattle.iam_decision.specs.Matched.{Placed, placed}
use Rattle.iam_decision.specs.declared.place.Place.{Place}
use Rattle.iam_decision.specs.declared.scan.Standing.{Standing}
use Rattle.iam_layers.specs.Cell.{IsAction, IsApplicableAt, IsCell, IsRequestAt}
use Rattle.iam_layers.specs.Code.Statements.{HasLevels}
use Rattle.iam_world.specs.World.{WorldValue}
use Rattle.iam_index.specs.Elements.{AreElements}
use Rattle.iam_columns.specs.Columns.{AreColumns}
use Rattle.iam_columns.specs.Rows.{AreRows}
use Rattle.iam_columns.specs.declared.rows.Row.{Row}
use Rattle.iam_index.specs.Given.{given_keys}
use Rattle.iam_index.specs.Numbers.{AreAllNumbered}
use Rattle.iam_index.specs.Rows.{AreListRows}
use Rattle.iam_index.specs.declared.elements.Element.{Element}
use Rattle.iam_index.specs.declared.list_rows.ListRows.{ListRows}
use Rattle.iam_index.specs.declared.lists.Listed.{Listed}
use Rattle.iam_index.specs.declared.lists.Org.{Org}

-- of these statements those are listed that may match a request for some action of the world
abbrev pub AreListed : WorldValue → List Placed → List Standing → Type 0
AreListed world statements listed = AreCandidates world.actions statements (map placed_value listed)

-- so listed are the statements of the organisation that binds principal p, whatever it asks for; its own statements; and those
-- that stand with resource r, whoever asks
abbrev pub ListsOrg : WorldValue → ℕ → List Standing → Type 0
ListsOrg world p listed = (r : ℕ) (a : ApplicableValue) → IsApplicableAt world p r a → AreListed world (org_placed a) listed

abbrev pub ListsRequester : WorldValue → ℕ → List Standing → Type 0
ListsRequester world p listed = (r : ℕ) (a : ApplicableValue) → IsApplicableAt world p r a → AreListed world (requester_placed a) listed

abbrev pub ListsResource : WorldValue → ℕ → List Standing → Type 0
ListsResource world r listed = (p : ℕ) (a : ApplicableValue) → IsApplicableAt world p r a → AreListed world (resource_placed a) listed

-- each list has the property, by its number
abbrev pub AreLists : (ℕ → List Standing → Type 0) → List Listed → Type 0
AreLists P lists = (i : ℕ) (listed : Listed) → slice_get lists i ≡ Some listed → P i listed.statements.items

-- this organisation binds principal p
pub record IsOrg (world : WorldValue) (p : ℕ) (org : Org) : Type 0 where
  pub levels : HasLevels world p org.levels
  pub lists : ListsOrg world p org.statements.items

-- the organisation of this number binds principal p
abbrev pub HasOrg : WorldValue → List Org → ℕ → ℕ → Type 0
HasOrg world orgs p n = (org : Org) × (slice_get orgs n ≡ Some org) × IsOrg world p org

-- these are the numbers of the organisations of principals
abbrev pub HaveOrgs : WorldValue → List Org → List ℕ → Type 0
HaveOrgs world orgs numbers = (p n : ℕ) → slice_get numbers p ≡ Some n → HasOrg world orgs p n

-- each organisation is that of its principal
abbrev pub AreOrgs : WorldValue → List Org → Type 0
AreOrgs world orgs = (n : ℕ) (org : Org) → slice_get orgs n ≡ Some org → IsOrg world org.principal org

-- the list of this number has these statements
abbrev pub IsListOf : List Listed → ℕ → List Placed → Type 0
IsListOf lists n statements = (listed : Listed) × (slice_get lists n ≡ Some listed) × (map placed_value listed.statements.items ≡ statements)

-- the list of this number is that of the statements that stand with resource r
abbrev pub HasResourceList : WorldValue → List Listed → ℕ → ℕ → Type 0
HasResourceList world lists r n = (listed : Listed) × (slice_get lists n ≡ Some listed) × ListsResource world r listed.statements.items

-- these are the numbers of the lists of resources
abbrev pub AreResourceLists : WorldValue → List Listed → List ℕ → Type 0
AreResourceLists world lists numbers = (r n : ℕ) → slice_get numbers r ≡ Some n → HasResourceList world lists r n

-- everything that an index has is right
pub record IsIndex (world parts : WorldValue) (elements : List Element) (orgs : List Org) (numbers : List ℕ) (requesters resources : List Listed)
    (resource_numbers : List ℕ) (org_acts requester_acts resource_acts : List (Vec (Option ℕ))) (rows : List Row) (org_rows requester_rows : List ListRows) (columns : List (Option ℕ)) (given : Option Names) : Type 0 where
  pub parts_are : parts ≡ world
  pub elements_are : AreElements world elements
  pub orgs_are : HaveOrgs world orgs numbers
  pub orgs_count : length numbers ≡ length world.principals
  pub requesters_are : AreLists (ListsRequester world) requesters
  pub requesters_count : length requesters ≡ length world.principals
  pub resources_are : AreResourceLists world resources resource_numbers
  pub resources_count : length resource_numbers ≡ length world.resources
  pub org_acts_are : AreAllNumbered (λ org. org.statements.items) elements orgs org_acts
  pub requester_acts_are : AreAllNumbered (λ listed. listed.statements.items) elements requesters requester_acts
  pub resource_acts_are : AreAllNumbered (λ listed. listed.statements.items) elements resources resource_acts
  pub rows_are : AreRows world rows
  pub org_rows_are : AreListRows (λ org. org.statements.items) rows orgs org_rows
  pub requester_rows_are : AreListRows (λ listed. listed.statements.items) rows requesters requester_rows
  pub columns_are : AreColumns world rows columns
  pub given_are : IfSome given (λ keys. HasNames keys (given_keys world))

-- the candidates of a request: some of the statements that apply, in place order, and among them each whose action element matches
-- its action
abbrev pub AreCandidatesOf : WorldValue → ℕ → List Place → Type 0
AreCandidatesOf world cell places =
    (p a r : ℕ) (applicable : ApplicableValue) (q : RequestValue) → IsCell world cell p a r → IsRequestAt world p a r applicable q
    → (candidates : List Placed) × AreCandidates (q.action ∷ []) (placed applicable) candidates × (places ≡ map (λ s. s.place) candidates)

-- the action element of each of these matches the action
abbrev pub AllAct : List ℕ → List Standing → Type 0
AllAct action statements = All (λ s. ActionMatches s.statement.now.action action) statements

-- those of the listed statements whose action element matches the action came behind these
abbrev pub Adds : List ℕ → List Standing → List Standing → List Standing → Type 0
Adds action listed old new =
    ((before : List Placed) → AreCandidates (action ∷ []) before (map placed_value old)
    → AreCandidates (action ∷ []) (before ++ map placed_value listed) (map placed_value new))
    × (AllAct action old → AllAct action new)

-- so it is for action a
abbrev pub AddsAt : WorldValue → ℕ → List Standing → List Standing → List Standing → Type 0
AddsAt world a listed old new = (action : List ℕ) → IsAction world a action → Adds action listed old new
