-- A line has one meaning, its least fault follows from what is found, and a request has no fault.
use Rattle.std.proofs.Common.{◌≡◌, ◌⊎◌, ℕ, ◌<◌, ◌≤◌, Bool, false, IsTrue, length, inl, inr, List, [], ◌∷◌, ◌++◌, Some, refl, sym, ap, subst, ◌∙◌, ⊎_elim, arith}
use Rattle.std.proofs.lemmas.Bool.{cases_lt}
use Rattle.serde_json.specs.Data.{Data}
use Rattle.iam_context.specs.Context.{ContextValue, all_of}
use Rattle.iam_context.specs.ContextFault.{JoinFault, part_has}
use Rattle.iam_context.specs.declared.fault.ContextFault.{ContextFault}
use Rattle.iam_layers.specs.Own.{IsCleanAt, IsFaultAt, given_with}
use Rattle.iam_world.specs.World.{PrincipalValue, ResourceValue, WorldValue}
use Rattle.iam_world.specs.WorldFault.{IsJson}
use Rattle.iam_asked.specs.Code.Found.{HasNumbers, IsSaidFault}
use Rattle.iam_asked.specs.Code.Reading.{IsOwnFault, IsUnfound}
use Rattle.iam_asked.specs.Code.Unread.{IsUnread}
use Rattle.iam_asked.specs.Fault.{IsLineFault, LineHasFault, SaidHasFault, fault_rank, line_number_of}
use Rattle.iam_asked.specs.Request.{AskedValue, IsMeant, IsRequest, IsWithin, RequestsValue, asked_with}
use Rattle.iam_asked.specs.Said.{IsSaid, IsShort, SaidValue, Says}
use Rattle.iam_asked.specs.Size.{AreLarge}
use Rattle.iam_asked.specs.declared.asked.Asked.{Asked}
use Rattle.iam_asked.specs.declared.fault.LineFault.{LineFault}
use Rattle.iam_asked.specs.declared.fault.LineFault.TheVariants.{NotJson, BadShape, NoPrincipal, SeveralPrincipals, NoAction, NoResource, SeveralResources, Context, TooMany, ContextsTooLarge, OutOfMemory}
use Rattle.iam_asked.proofs.Faults.{least_numbered, least_said}

-- ---- one meaning

pub some_same : {X : Type 0} (x y : X) → Some x ≡ Some y → x ≡ y
some_same x y e = let same : x ≡ y = cc in same

pub one_json : (line : List ℕ) (d e : Data) → IsJson line d → IsJson line e → d ≡ e
one_json line d e one two = some_same d e (sym one.1 ∙ two.1)

said_same : (a b : SaidValue) → a.principal ≡ b.principal → a.action ≡ b.action → a.resource ≡ b.resource → a.own ≡ b.own → a ≡ b
said_same a b principal action resource own =
    ap (λ x. record { principal = x; action = a.action; resource = a.resource; own = a.own }) principal
    ∙ ap (λ x. record { principal = b.principal; action = x; resource = a.resource; own = a.own }) action
    ∙ ap (λ x. record { principal = b.principal; action = b.action; resource = x; own = a.own }) resource
    ∙ ap (λ x. record { principal = b.principal; action = b.action; resource = b.resource; own = x }) own

one_said : (d : Data) (said other : SaidValue) → IsSaid d said → IsSaid d other → said ≡ other
one_said d said other one two =
    said_same said other (some_same said.principal other.principal (sym one.principal ∙ two.principal)) (some_same said.action other.action (sym one.action ∙ two.action))
    (some_same said.resource other.resource (sym one.resource ∙ two.resource)) (one.own ∙ sym two.own)

pub one_meaning : (line : List ℕ) (said other : SaidValue) → Says line said → Says line other → said ≡ other
one_meaning line said other (short, (d, json, one)) (short', (e, json', two)) =
    one_said d said other one (subst (λ x. IsSaid x other) (sym (one_json line d e json json')) two)

-- ---- the least fault of a line

-- no fault has a rank below k where none of those below k is there
least_line : (before : RequestsValue) (line : List ℕ) (k : ℕ) → k ≤ 10 → length before.asked < 16777216 → (1 < k → ¬ LineHasFault before line NotJson)
    → (2 < k → ¬ LineHasFault before line BadShape)
    → ((said : SaidValue) (other : LineFault) → Says line said → SaidHasFault before.world said other → k ≤ line_number_of other) → (other : LineFault)
    → LineHasFault before line other → k ≤ fault_rank other
least_line before line k low few json shape names NotJson has = ⊎_elim (λ h. absurd (json h has)) (λ h. h) (cases_lt 1 k)
least_line before line k low few json shape names BadShape has = ⊎_elim (λ h. absurd (shape h has)) (λ h. h) (cases_lt 2 k)
least_line before line k low few json shape names NoPrincipal (said, says, has) = names said NoPrincipal says has
least_line before line k low few json shape names SeveralPrincipals (said, says, has) = names said SeveralPrincipals says has
least_line before line k low few json shape names NoAction (said, says, has) = names said NoAction says has
least_line before line k low few json shape names NoResource (said, says, has) = names said NoResource says has
least_line before line k low few json shape names SeveralResources (said, says, has) = names said SeveralResources says has
least_line before line k low few json shape names (Context fault) (said, says, has) = names said (Context fault) says has
least_line before line k low few json shape names TooMany has = absurd (omega (arith, has, few))
least_line before line k low few json shape names ContextsTooLarge has = low
least_line before line k low few json shape names OutOfMemory has = absurd has

-- all faults of what a line says have numbers from 3 on
from_three : (world : WorldValue) (k : ℕ) → k ≤ 3 → (said : SaidValue) (other : LineFault) → SaidHasFault world said other → k ≤ line_number_of other
from_three world k low said other has =
    let none = least_said world said 3 (omega arith) (λ h. absurd (omega (arith, h))) (λ h. absurd (omega (arith, h))) (λ h. absurd (omega (arith, h)))
    (λ h. absurd (omega (arith, h))) (λ h. absurd (omega (arith, h))) other has in
    omega (arith, none, low)

pub too_many : (before : RequestsValue) (line : List ℕ) → 16777216 ≤ length before.asked → IsLineFault before line TooMany
too_many before line many = record { holds = many; least = λ other has. omega arith }

not_json : (before : RequestsValue) (line : List ℕ) → length before.asked < 16777216 → IsShort line → ((d : Data) → ¬ IsJson line d) → IsLineFault before line NotJson
not_json before line few short none = record {
  holds = (short, none);
  least =
      least_line before line 1 (omega arith) few (λ h. absurd (omega (arith, h))) (λ h. absurd (omega (arith, h)))
      (λ said other says has. from_three before.world 1 (omega arith) said other has);
}

bad_shape : (before : RequestsValue) (line : List ℕ) → length before.asked < 16777216 → LineHasFault before line BadShape → ¬ LineHasFault before line NotJson
    → IsLineFault before line BadShape
bad_shape before line few has json = record {
  holds = has;
  least =
      least_line before line 2 (omega arith) few (λ h. json) (λ h. absurd (omega (arith, h)))
      (λ said other says it. from_three before.world 2 (omega arith) said other it);
}

-- the fault of a line that has no JSON value
pub unread_fault : (before : RequestsValue) (line : List ℕ) (fault : LineFault) → length before.asked < 16777216 → IsUnread line fault → IsLineFault before line fault
unread_fault before line fault few (inl (is, long)) = subst (IsLineFault before line) (sym is) (bad_shape before line few (inl long) (λ has. long has.0))
unread_fault before line fault few (inr (is, short, none)) = subst (IsLineFault before line) (sym is) (not_json before line few short none)

-- a line that says something is JSON of the right shape
says_is_json : (before : RequestsValue) (line : List ℕ) (said : SaidValue) → Says line said → ¬ LineHasFault before line NotJson
says_is_json before line said (short, (d, json, is)) has = has.1 d json

says_has_shape : (before : RequestsValue) (line : List ℕ) (said : SaidValue) → Says line said → ¬ LineHasFault before line BadShape
says_has_shape before line said (short, (d, json, is)) (inl long) = long short
says_has_shape before line said (short, (d, json, is)) (inr (e, json', none)) = none said (subst (λ x. IsSaid x said) (one_json line d e json json') is)

-- a fault of what a line says is one of the line, with its number as its rank
said_line : (before : RequestsValue) (line : List ℕ) (said : SaidValue) (fault : LineFault) → Says line said → SaidHasFault before.world said fault
    → LineHasFault before line fault
said_line before line said NotJson says has = absurd has
said_line before line said BadShape says has = absurd has
said_line before line said NoPrincipal says has = (said, says, has)
said_line before line said SeveralPrincipals says has = (said, says, has)
said_line before line said NoAction says has = (said, says, has)
said_line before line said NoResource says has = (said, says, has)
said_line before line said SeveralResources says has = (said, says, has)
said_line before line said (Context fault) says has = (said, says, has)
said_line before line said TooMany says has = absurd has
said_line before line said ContextsTooLarge says has = absurd has
said_line before line said OutOfMemory says has = absurd has

said_rank : (world : WorldValue) (said : SaidValue) (fault : LineFault) → SaidHasFault world said fault → fault_rank fault ≡ line_number_of fault
said_rank world said NotJson has = refl
said_rank world said BadShape has = refl
said_rank world said NoPrincipal has = refl
said_rank world said SeveralPrincipals has = refl
said_rank world said NoAction has = refl
said_rank world said NoResource has = refl
said_rank world said SeveralResources has = refl
said_rank world said (Context fault) has = refl
said_rank world said TooMany has = absurd has
said_rank world said ContextsTooLarge has = refl
said_rank world said OutOfMemory has = refl

number_low : (world : WorldValue) (said : SaidValue) (fault : LineFault) → SaidHasFault world said fault → line_number_of fault ≤ 10
number_low world said NotJson has = omega arith
number_low world said BadShape has = omega arith
number_low world said NoPrincipal has = omega arith
number_low world said SeveralPrincipals has = omega arith
number_low world said NoAction has = omega arith
number_low world said NoResource has = omega arith
number_low world said SeveralResources has = omega arith
number_low world said (Context fault) has = omega arith
number_low world said TooMany has = omega arith
number_low world said ContextsTooLarge has = omega arith
number_low world said OutOfMemory has = absurd has

pub said_fault : (before : RequestsValue) (line : List ℕ) (said : SaidValue) (fault : LineFault) → length before.asked < 16777216 → Says line said
    → IsSaidFault before.world said fault → IsLineFault before line fault
said_fault before line said fault few says is = record {
  holds = said_line before line said fault says is.holds;
  least = λ other has.
      let all = least_line before line (line_number_of fault) (number_low before.world said fault is.holds) few (λ h. says_is_json before line said says)
      (λ h. says_has_shape before line said says)
      (λ it one says' has'. is.least one (subst (λ x. SaidHasFault before.world x one) (one_meaning line it said says' says) has')) other has in
      omega (arith, all, said_rank before.world said fault is.holds);
}

-- the fault of a line whose JSON value has one
pub unfound_fault : (before : RequestsValue) (line : List ℕ) (d : Data) (fault : LineFault) → length before.asked < 16777216 → IsShort line → IsJson line d
    → IsUnfound before.world d fault → IsLineFault before line fault
unfound_fault before line d fault few short json (inl (is, none)) =
    subst (IsLineFault before line) (sym is) (bad_shape before line few (inr (d, json, none)) (λ has. has.1 d json))
unfound_fault before line d fault few short json (inr (said, is, has)) = said_fault before line said fault few (short, (d, json, is)) has

-- ---- a request has no fault

is_false : (b : Bool) → IsTrue b → b ≡ false → ⊥
is_false b holds fails = let wrong : ⊥ = cc in wrong

clean_has_none : (world : WorldValue) (p r : ℕ) (own : ContextValue) (fault : ContextFault) → IsCleanAt world p r own → ¬ IsFaultAt world p r own fault
clean_has_none world p r own fault (principal, at, (resource, there, clean)) (principal', at', (resource', there', has)) =
    let who : principal' ≡ principal = some_same principal' principal (sym at' ∙ at) in
    let what : resource' ≡ resource = some_same resource' resource (sym there' ∙ there) in
    let F : PrincipalValue → ResourceValue → Type 0 = λ x y. JoinFault (given_with world x y own) fault in
    let same : F principal resource = subst (F principal) what (subst (λ x. F x resource') who has) in
    is_false (part_has [] (all_of (given_with world principal resource own)) fault) same.holds (clean fault)

-- what has numbers and is within the world is meant
pub meant_of : (world : WorldValue) (said : SaidValue) (asked : Asked) (own : ContextValue) → HasNumbers world said asked → own ≡ said.own
    → IsWithin world (asked_with asked own) → IsMeant world said (asked_with asked own)
meant_of world said asked own has same within = record {
  principal = has.principal;
  action = has.action;
  resource = has.resource;
  own = same;
  clean = within.clean;
}

pub meant_has_none : (world : WorldValue) (said : SaidValue) (asked : AskedValue) (other : LineFault) → IsMeant world said asked → ¬ SaidHasFault world said other
meant_has_none world said asked other meant has = by other has (least_numbered world said asked.principal asked.action asked.resource meant.principal meant.action meant.resource other has)
  where
    by : (fault : LineFault) → SaidHasFault world said fault → 8 ≤ line_number_of fault → ⊥
    by NotJson has low = has
    by BadShape has low = has
    by NoPrincipal has low = omega (arith, low)
    by SeveralPrincipals has low = omega (arith, low)
    by NoAction has low = omega (arith, low)
    by NoResource has low = omega (arith, low)
    by SeveralResources has low = omega (arith, low)
    by (Context fault) (p, r, who, what, some, faulty) low =
        let same_p : p ≡ asked.principal = meant.principal.1 p who.0 in
        let same_r : r ≡ asked.resource = meant.resource.1 r what.0 in
        let F : ℕ → ℕ → ContextValue → Type 0 = λ x y own. IsFaultAt world x y own fault in
        let here : F asked.principal asked.resource asked.own =
        subst (F asked.principal asked.resource) (sym meant.own) (subst (λ y. F asked.principal y said.own) same_r (subst (λ x. F x r said.own) same_p faulty)) in
        clean_has_none world asked.principal asked.resource asked.own fault (meant.clean (λ none. some (sym meant.own ∙ none))) here
    by TooMany has low = has
    by ContextsTooLarge has low = has
    by OutOfMemory has low = has

pub too_large : (before : RequestsValue) (line : List ℕ) (said : SaidValue) (asked : AskedValue) → length before.asked < 16777216 → Says line said
    → IsMeant before.world said asked → AreLarge (before.asked ++ asked ∷ []) → IsLineFault before line ContextsTooLarge
too_large before line said asked few says meant large = record {
  holds = (asked, (said, says, meant), large);
  least =
      least_line before line 10 (omega arith) few (λ h. says_is_json before line said says) (λ h. says_has_shape before line said says)
      (
      λ it one says' has.
      absurd (meant_has_none before.world said asked one meant (subst (λ x. SaidHasFault before.world x one) (one_meaning line it said says' says) has))
      );
}

-- the fault of the keys of a request
pub own_fault : (before : RequestsValue) (line : List ℕ) (said : SaidValue) (asked : Asked) (own : ContextValue) (fault : LineFault)
    → length before.asked < 16777216 → Says line said → HasNumbers before.world said asked → own ≡ said.own → IsOwnFault before (asked_with asked own) fault
    → IsLineFault before line fault
own_fault before line said asked own fault few says has same (inl (found, is, some, faulty)) =
    let here : IsFaultAt before.world asked.principal asked.resource said.own found =
    subst (λ it. IsFaultAt before.world asked.principal asked.resource it found) same faulty in
    subst (IsLineFault before line) (sym is)
    (
    said_fault before line said (Context found) few says
    (
    record {
      holds = (asked.principal, asked.resource, has.principal, has.resource, (λ none. some (same ∙ none)), here);
      least = least_numbered before.world said asked.principal asked.action asked.resource has.principal has.action has.resource;
    }
    )
    )
own_fault before line said asked own fault few says has same (inr (is, within, large)) =
    subst (IsLineFault before line) (sym is) (too_large before line said (asked_with asked own) few says (meant_of before.world said asked own has same within) large)

-- ---- laws

pub no_fault : (before : RequestsValue) (line : List ℕ) (asked : AskedValue) (fault : LineFault) → IsRequest before.world line asked → LineHasFault before line fault
    → (fault ≡ TooMany) ⊎ (fault ≡ ContextsTooLarge)
no_fault before line asked fault (said, says, meant) has = by fault has
  where
    none : (it : SaidValue) (one : LineFault) → Says line it → ¬ SaidHasFault before.world it one
    none it one says' has' = meant_has_none before.world said asked one meant (subst (λ x. SaidHasFault before.world x one) (one_meaning line it said says' says) has')

    by : (fault : LineFault) → LineHasFault before line fault → (fault ≡ TooMany) ⊎ (fault ≡ ContextsTooLarge)
    by NotJson has = absurd (says_is_json before line said says has)
    by BadShape has = absurd (says_has_shape before line said says has)
    by NoPrincipal (it, says', has) = absurd (none it NoPrincipal says' has)
    by SeveralPrincipals (it, says', has) = absurd (none it SeveralPrincipals says' has)
    by NoAction (it, says', has) = absurd (none it NoAction says' has)
    by NoResource (it, says', has) = absurd (none it NoResource says' has)
    by SeveralResources (it, says', has) = absurd (none it SeveralResources says' has)
    by (Context fault) (it, says', has) = absurd (none it (Context fault) says' has)
    by TooMany has = inl refl
    by ContextsTooLarge has = inr refl
    by OutOfMemory has = absurd has
