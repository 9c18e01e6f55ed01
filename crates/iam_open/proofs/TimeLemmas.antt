-- What is certain of the time in the contexts that are at no earlier moment than one.
use Rattle.std.proofs.Common.{◌≡◌, ◌↔◌, ◌∙◌, ◌<◌, ◌≤◌, ◌*ℤ◌, inl, inr, pos, ℕ, ℤ, List, [], ◌∷◌, Bool, true, false, All, Any, IfSome, MatchBool, None, Option, Some, ap, arith, get_or, length, map, refl, subst, sym}
use Rattle.std.proofs.lemmas.Int.{ints}
use Rattle.std.proofs.lemmas.Slice.Eq.{bytes_eq-Decides}
use Rattle.std.specs.Char.{to_ascii_lowercase}
use Rattle.std.specs.List.{find}
use Rattle.std.specs.Option.{is_some, option_map_or}
use Rattle.std.specs.Str.{bytes_eq}
use Rattle.iam_condition.specs.Entry.{EntryValue}
use Rattle.iam_condition.specs.declared.operand.Operand.{Operand}
use Rattle.iam_condition.specs.declared.operator.Base.{Base}
use Rattle.iam_condition.specs.declared.operator.Base.TheVariants.{Date}
use Rattle.iam_condition.specs.declared.operator.Operator.{Operator}
use Rattle.iam_condition.specs.declared.operator.Order.{Order}
use Rattle.iam_condition.specs.declared.operator.Quantifier.{Quantifier}
use Rattle.iam_context.specs.Context.{ContextValue, is_same_key, values_of}
use Rattle.iam_match.specs.Entry.{EntryHolds, HasTruth, HoldsOn, Ordered, Resolves, Satisfies, ValueMatches, asks_every, is_null}
use Rattle.iam_open.specs.Code.Certain.{Tells}
use Rattle.iam_open.specs.Code.Time.{DateTells, IsFrom, IsInTime, IsNoEarlier, time_key}
use Rattle.iam_open.specs.declared.certain.Certain.{Certain}
use Rattle.iam_open.specs.declared.certain.Certain.TheVariants.{Always, Never, Open}
use Rattle.iam_open.proofs.ListLemmas.{none_of_none, some_cases, some_first}
use Rattle.iam_value.specs.Moment.{IsMoment}
use Rattle.iam_value.specs.Reading.{IsReading}

abbrev pub OneMoment : Type 0
OneMoment = (text : List ℕ) (value other : ℤ) → IsMoment text value → IsMoment text other → value ≡ other

abbrev Values : Type 0
Values = List (List ℕ)

alone : (text other : List ℕ) → text ∷ [] ≡ other ∷ [] → text ≡ other
alone text other e = cc

-- a context at no earlier moment is at no earlier instant
pub from_now : OneMoment → (one other : ContextValue) (text : List ℕ) (now : ℤ) → values_of one time_key ≡ text ∷ [] → IsMoment text now
    → IsNoEarlier one other → IsFrom now other
from_now unique one other text now is names (m, n, le, (first, first_is, first_names), (then, then_is, then_names)) =
    let same : first ≡ text = alone first text (sym first_is ∙ is) in
    let at : now ≡ pos m *ℤ pos 1_000_000_000 = unique text now (pos m *ℤ pos 1_000_000_000) names
    (subst (λ (t : List ℕ). IsMoment t (pos m *ℤ pos 1_000_000_000)) same first_names) in
    (then, pos n *ℤ pos 1_000_000_000, then_is, then_names, omega (arith, ints, le, at))

-- what is known of each instant from one on is known of the time of a context that is at no earlier one
pub date_tells : OneMoment → (one : ContextValue) (now : ℤ) (order : Order) (value : Operand) (certain : Certain)
    → ((other : ContextValue) → IsNoEarlier one other → IsFrom now other) → DateTells certain order now value
    → Tells certain (IsNoEarlier one) (λ other. IsInTime other order value)
date_tells unique one now order value Always from told = λ other is.
    let (text, n, values, names, le) = from other is in
    let (m, value_is, ordered) = told n le in
    (text, values, (n, m, value_is, names, ordered))
date_tells unique one now order value Never from told = λ other is (text, values, (n, m, value_is, names, ordered)).
    let (text', n', values', names', le) = from other is in
    let same : text ≡ text' = alone text text' (sym values ∙ values') in
    let at : n ≡ n' = unique text' n n' (subst (λ (t : List ℕ). IsMoment t n) same names) names' in
    told n' le (m, value_is, subst (λ (x : ℤ). Ordered order x m) at ordered)
date_tells unique one now order value Open from told = tt

-- ---- an entry that asks for the time

-- a key in other letters has the same values
values_same : (context : ContextValue) (one other : List ℕ) → is_same_key one other ≡ true → values_of context one ≡ values_of context other
values_same context one other same =
    let alike : map to_ascii_lowercase one ≡ map to_ascii_lowercase other =
    (bytes_eq-Decides (map to_ascii_lowercase one) (map to_ascii_lowercase other)).0 same in
    ap (λ (key : List ℕ). option_map_or (λ (e : List ℕ × Values). e.1)
    (find (λ (e : List ℕ × Values). bytes_eq (map to_ascii_lowercase e.0) key) context) []) alike

of_one : {X : Type 0} (P : X → Type 0) (x : X) → Any P (x ∷ []) ↔ P x
of_one P x = (
  λ some. elim (some_cases P x [] some) [ inl p ↦ p | inr none ↦ absurd (none_of_none P none) ],
  λ p. some_first P x [] p,
)

some_same : {X : Type 0} (P Q : X → Type 0) (xs : List X) → ((x : X) → P x → Q x) → Any P xs → Any Q xs
some_same P Q xs each (k, x, below, at, p) = (k, x, below, at, each x p)

-- by its operator
satisfies_in_time : (context : ContextValue) (operator : Operator) (order : Order) (values : List Operand) (text : List ℕ)
    → operator.base ≡ Date order → operator.is_negated ≡ false → values_of context time_key ≡ text ∷ []
    → Satisfies context operator values text ↔ Any (IsInTime context order) values
satisfies_in_time context operator order values text base plain at =
    let some : Base → Type 0 = λ b. Any (ValueMatches context b text) values in
    let X = All (Resolves context operator.base) values × ¬ some operator.base in (
      λ held.
          let found : some operator.base = subst (λ (b : Bool). MatchBool b X (some operator.base)) plain held in
          some_same (ValueMatches context (Date order) text) (IsInTime context order) values (λ value matches. (text, at, matches))
          (subst some base found),
      λ found.
          subst (λ (b : Bool). MatchBool b X (some operator.base)) (sym plain)
          (subst some (sym base)
          (some_same (IsInTime context order) (ValueMatches context (Date order) text) values
          (λ value (text', at', matches).
          subst (λ (t : List ℕ). ValueMatches context (Date order) t value) (alone text' text (sym at' ∙ at)) matches)
          found)),
    )

pub holds_in_time : (context : ContextValue) (entry : EntryValue) (order : Order) (text : List ℕ) → entry.operator.base ≡ Date order
    → entry.operator.is_negated ≡ false → entry.operator.quantifier ≡ None → is_same_key time_key entry.key ≡ true
    → values_of context time_key ≡ text ∷ [] → Any (IsInTime context order) entry.values ↔ EntryHolds context entry
holds_in_time context entry order text base plain bare key at =
    let operator = entry.operator in
    let values = entry.values in
    let S : Type 0 = Any (Satisfies context operator values) (text ∷ []) in
    let every : Type 0 = All (Satisfies context operator values) (text ∷ []) in
    let asked : Bool = asks_every operator.quantifier operator.is_negated in
    let not_asked : asked ≡ false =
    ap (λ (q : Option Quantifier). asks_every q operator.is_negated) bare ∙ ap (λ (b : Bool). asks_every None b) plain in
    let no_null : is_null operator.base ≡ false = ap is_null base in
    let truth : Type 0 = HasTruth false values in
    let there : values_of context entry.key ≡ text ∷ [] = sym (values_same context time_key entry.key key) ∙ at in
    let same = satisfies_in_time context operator order values text base plain at in
    let one = of_one (Satisfies context operator values) text in (
      λ found.
          let inner : MatchBool asked every S = subst (λ (b : Bool). MatchBool b every S) (sym not_asked) (one.1 (same.1 found)) in
          let outer : HoldsOn context entry (text ∷ []) =
          subst (λ (b : Bool). MatchBool b truth (MatchBool asked every S)) (sym no_null) inner in
          subst (λ (texts : Values). HoldsOn context entry texts) (sym there) outer,
      λ held.
          let outer : HoldsOn context entry (text ∷ []) = subst (λ (texts : Values). HoldsOn context entry texts) there held in
          let inner : MatchBool asked every S = subst (λ (b : Bool). MatchBool b truth (MatchBool asked every S)) no_null outer in
          same.0 (one.0 (subst (λ (b : Bool). MatchBool b every S) not_asked inner)),
    )

-- ---- the time of a context

-- a list of one element
pub lone : (xs : Values) (x : List ℕ) → 1 ≤ length xs → length xs < 2 → x ≡ get_or xs 0 x → xs ≡ x ∷ []
lone [] x some few at = absurd (let wrong : ⊥ = omega (arith, some) in wrong)
lone (y ∷ []) x some few at = ap (λ (z : List ℕ). z ∷ []) (sym at)
lone (y ∷ z ∷ xs) x some few at = absurd (let wrong : ⊥ = omega (arith, few) in wrong)

pub time_read : OneMoment → (context : ContextValue) (found : Option ℤ) (text : List ℕ) → values_of context time_key ≡ text ∷ []
    → IsReading found (IsMoment text) → IfSome found (λ now. (other : ContextValue) → IsNoEarlier context other → IsFrom now other)
time_read unique context (Some now) text is names = λ other later. from_now unique context other text now is names later
time_read unique context None text is none = tt

-- an entry that compares the time with dates, in the contexts that are at no earlier moment than one
pub in_time : (one other : ContextValue) (entry : EntryValue) (order : Order) → entry.operator.base ≡ Date order → entry.operator.is_negated ≡ false
    → entry.operator.quantifier ≡ None → is_same_key time_key entry.key ≡ true → IsNoEarlier one other
    → Any (IsInTime other order) entry.values ↔ EntryHolds other entry
in_time one other entry order base plain bare key (m, n, le, first, (text, at, names)) =
    holds_in_time other entry order text base plain bare key at

pub no_quantifier : {X : Type 0} (found : Option X) → is_some found ≡ false → found ≡ None
no_quantifier (Some x) free = absurd (let wrong : ⊥ = cc in wrong)
no_quantifier None free = refl
