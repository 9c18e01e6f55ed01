-- What it hangs on whether a request is allowed: keys beside which nothing that nothing gives turns it, and statements beside which none
-- does. LOGIC 11.11.
use Rattle.std.specs.Prelude.{◌≡◌, ◌⊎◌, ◌++◌, ℕ, List, [], ◌∷◌, All, codes, false, map, take, true}
use Rattle.std.specs.List.{flat_map}
use Rattle.iam_context.specs.Context.{ContextValue, derived_names, has_key, keys_of}
use Rattle.iam_decision.specs.Applicable.{ApplicableValue}
use Rattle.iam_decision.specs.Matched.{IsMatched, Placed, placed}
use Rattle.iam_decision.specs.declared.place.Place.{Place}
use Rattle.iam_decision.specs.declared.verdict.Decision.{Decision}
use Rattle.iam_decision.specs.declared.verdict.Decision.TheVariants.{Allowed}
use Rattle.iam_layers.specs.Cell.{IsAccessAt, IsAction, IsRequestAt}
use Rattle.iam_layers.specs.Own.{IsWorldWith}
use Rattle.iam_match.specs.Entry.{EntryHolds}
use Rattle.iam_match.specs.Principal.{PrincipalMatches}
use Rattle.iam_match.specs.Statement.{AccessValue, ActionMatches, RequestValue, ResourceMatches}
use Rattle.iam_open.specs.Asks.{all_added, element_keys, entry_keys, is_beyond, keys_asked}
use Rattle.iam_open.specs.Code.Known.{AgreeOn}
use Rattle.iam_open.specs.InQuestion.{IsDecisionIn, IsInQuestion, at_moment}
use Rattle.iam_open.specs.declared.answer.Turned.{Turned}
use Rattle.iam_open.specs.declared.answer.Turned.TheVariants.{Always, Never, Possible, Open}
use Rattle.iam_policy.specs.Reading.{StatementValue}
use Rattle.iam_world.specs.World.{PrincipalValue, ResourceValue, WorldValue}

-- one of the two keys that follow from the moment is among these
abbrev pub HasTime : List (List ℕ) → Type 0
HasTime keys = (has_key keys (codes "aws:CurrentTime") ≡ true) ⊎ (has_key keys (codes "aws:EpochTime") ≡ true)

-- a request that gives these keys of its own at this moment, and another one, give the same to each of some keys; and the moments are the
-- same where one of these follows from it
pub record AreAlikeOn (keys : List (List ℕ)) (one other : ContextValue) (early late : ℕ) : Type 0 where
  pub values : AgreeOn keys one other
  pub moments : HasTime keys → early ≡ late

-- where principal p's request for action a on resource r is allowed in a context in question, it is in each other one that is alike on
-- these keys
abbrev pub HangsOn : List WorldValue → WorldValue → ℕ → ℕ → ℕ → List (List ℕ) → Type 0
HangsOn worlds world p a r keys =
    (one other : ContextValue) (early late : ℕ) (decision : Decision) → IsInQuestion worlds world p r one early
    → IsInQuestion worlds world p r other late → AreAlikeOn keys one other early late → IsDecisionIn world p a r one early Allowed
    → IsDecisionIn world p a r other late decision → decision ≡ Allowed

-- principal p's request for action a on resource r in a context in question
pub record IsAskedIn (worlds : List WorldValue) (world : WorldValue) (p a r : ℕ) (request : RequestValue) : Type 0 where
  pub own : ContextValue
  pub moment : ℕ
  pub other : WorldValue
  pub applicable : ApplicableValue
  pub question : IsInQuestion worlds world p r own moment
  pub there : IsWorldWith (at_moment world moment) r own other
  pub is : IsRequestAt other p a r applicable request

-- the statement matches the request in each of the contexts in question, or in none
abbrev pub IsSettled : List WorldValue → WorldValue → ℕ → ℕ → ℕ → Placed → Type 0
IsSettled worlds world p a r s =
    ((request : RequestValue) → IsAskedIn worlds world p a r request → IsMatched request s)
    ⊎ ((request : RequestValue) → IsAskedIn worlds world p a r request → ¬ IsMatched request s)

-- what holds of a statement that asks for a key that is not known: its resource element matches if it asks for known keys alone, and so does
-- each entry hold that asks for no other
pub record AreAsking (known : List (List ℕ)) (access : AccessValue) (s : StatementValue) : Type 0 where
  pub resource_matches : is_beyond known (element_keys s.resource) ≡ false → ResourceMatches s.resource access.resource access.context
  pub entries_hold : All (λ entry. is_beyond known (entry_keys entry) ≡ false → EntryHolds access.context entry) s.conditions
  pub asks : is_beyond known (keys_asked s) ≡ true

-- the statement matches by its action element and its principal element, and as far as known keys tell; and it asks for one that is not known
pub record IsAsking (known : List (List ℕ)) (access : AccessValue) (action : List ℕ) (s : StatementValue) : Type 0 where
  pub action_matches : ActionMatches s.action action
  pub principal_matches : PrincipalMatches s.principal access.requester
  pub elements : AreAsking known access s

-- those that are chosen of a list, in its order, have the one property, and each other one has the other
abbrev pub AreChosen : {X : Type 0} → (X → Type 0) → (X → Type 0) → List X → List X → Type 0
AreChosen P Q [] chosen = chosen ≡ []
AreChosen P Q (x ∷ xs) chosen =
    (P x × ((rest : List _) × (chosen ≡ x ∷ rest) × AreChosen P Q xs rest)) ⊎ (Q x × AreChosen P Q xs chosen)

-- the keys that are known where the principal asks for the resource: those that some part of the context gives, and those that follow from
-- requester and resource
abbrev pub known_keys : WorldValue → PrincipalValue → ResourceValue → List (List ℕ)
known_keys world principal resource =
    keys_of world.context ++ (keys_of principal.context ++ (keys_of resource.context ++ take 5 derived_names))

-- of the statements that apply some are listed, in their order, which match as the world gives the request as far as known keys tell, and ask
-- for others; each other one is settled. The places are those of the listed ones, and the keys those that these ask for and that are not
-- known, each once, in the order in which they are asked for, as they are first written
pub record AreListed (worlds : List WorldValue) (world : WorldValue) (p a r : ℕ) (places : List Place) (keys : List (List ℕ)) : Type 0 where
  pub applicable : ApplicableValue
  pub access : AccessValue
  pub action : List ℕ
  pub listed : List Placed
  pub access_is : IsAccessAt world p r applicable access
  pub action_is : IsAction world a action
  pub chosen :
      AreChosen (λ s. IsAsking (known_keys world access_is.principal access_is.resource) access action s.statement) (IsSettled worlds world p a r)
      (placed applicable) listed
  pub places_are : places ≡ map (λ s. s.place) listed
  pub keys_are :
      keys ≡ all_added (known_keys world access_is.principal access_is.resource) [] (flat_map (λ s. keys_asked s.statement) listed)

-- where it is not said that the request is always allowed, or never; else there are none
abbrev pub AreListedOf : List WorldValue → WorldValue → ℕ → ℕ → ℕ → Turned → List Place → List (List ℕ) → Type 0
AreListedOf worlds world p a r Always places keys = (places ≡ []) × (keys ≡ [])
AreListedOf worlds world p a r Never places keys = (places ≡ []) × (keys ≡ [])
AreListedOf worlds world p a r (Possible example) places keys = AreListed worlds world p a r places keys
AreListedOf worlds world p a r Open places keys = AreListed worlds world p a r places keys
