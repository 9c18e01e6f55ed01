-- Entries of conditions that hold wherever others do.
use Rattle.std.proofs.Common.{◌≡◌, ◌≢◌, ◌∙◌, ℕ, ℤ, List, [], ◌∷◌, All, Bool, true, false, IsSome, MatchBool, Option, Some, None, ap, arith, get_or, inl, inr, refl, subst, sym}
use Rattle.std.proofs.lemmas.Int.{ints}
use Rattle.std.specs.List.{Any}
use Rattle.std.specs.Str.{chars}
use Rattle.iam_condition.specs.Entry.{EntryValue}
use Rattle.iam_condition.specs.declared.operand.Operand.{Operand}
use Rattle.iam_condition.specs.declared.operand.Operand.TheVariants as operand
use Rattle.iam_condition.specs.declared.operator.Base.{Base}
use Rattle.iam_condition.specs.declared.operator.Base.TheVariants.{Text, Arn, Number, Date, Truth, Binary, Address, Null}
use Rattle.iam_condition.specs.declared.operator.Operator.{Operator}
use Rattle.iam_condition.specs.declared.operator.Order.{Order}
use Rattle.iam_condition.specs.declared.operator.Order.TheVariants.{Equal, Less, AtMost, Greater, AtLeast}
use Rattle.iam_condition.specs.declared.operator.Quantifier.{Quantifier}
use Rattle.iam_condition.specs.declared.operator.Quantifier.TheVariants.{ForAllValues, ForAnyValue}
use Rattle.iam_condition.specs.declared.operator.TextTest.TheVariants as test
use Rattle.iam_context.specs.Context.{ContextValue, values_of}
use Rattle.iam_context.specs.Resolve.{resolved}
use Rattle.iam_glob.specs.Glob.{Matches}
use Rattle.iam_glob.specs.declared.sign.Sign.{Sign}
use Rattle.iam_match.specs.Entry.{HasTruth, HoldsBare, HoldsOn, HoldsWith, HoldsWithout, Ordered, Resolves, Satisfies, ValueMatches, asks_every, is_null}
use Rattle.iam_match.proofs.StatementLemmas.{plain_resolved}
use Rattle.iam_open.proofs.ListLemmas.{in_some, some_in}
use Rattle.iam_open_changes.specs.Code.Implied.{AreWithin, AreWithinBy, AreWithinSign, Covers, HoldsAddress, Implies, IsFurther, IsWider, IsWithin}
use Rattle.iam_text.specs.Draft.{plain_draft}
use Rattle.iam_text.specs.declared.draft.Piece.{Piece}
use Rattle.iam_value.specs.Address.{Block, Holds}

-- ---- wider values

-- such a text becomes no other pattern
one_becomes : (context : ContextValue) (value : Operand) (pieces known : List Piece) (signs found : List Sign) → value ≡ operand.Text pieces
    → pieces ≡ plain_draft signs → value ≡ operand.Text known → resolved context known ≡ Some found → found ≡ signs
one_becomes context value pieces known signs found is plain is_known resolves =
    let texts : operand.Text known ≡ operand.Text pieces = sym is_known ∙ is in
    let same : known ≡ pieces = cc in
    let both : Some found ≡ Some signs = sym resolves ∙ ap (resolved context) (same ∙ plain) ∙ plain_resolved context signs in
    cc

-- what stands so to a bound stands so to one further out
further : (order : Order) (n bound wide : ℤ) → IsFurther order bound wide → Ordered order n bound → Ordered order n wide
further Equal n bound wide beyond ordered = ordered ∙ beyond
further Less n bound wide beyond ordered = omega (arith, ints)
further AtMost n bound wide beyond ordered = omega (arith, ints)
further Greater n bound wide beyond ordered = omega (arith, ints)
further AtLeast n bound wide beyond ordered = omega (arith, ints)

-- a text of the request that matches a value matches each one that covers it
wider_matches : (context : ContextValue) (base : Base) (text : List ℕ) (one other : Operand) → IsWider base one other
    → ValueMatches context base text one → ValueMatches context base text other
wider_matches context (Text test.Equals) text one other wider matches = absurd wider
wider_matches context (Text test.EqualsIgnoreCase) text one other wider matches = absurd wider
wider_matches context (Text test.Like) text one other (pieces, wide, is, is_wide, (signs, around, plain, bare, on)) (known, found, is_known, resolves, fits) =
    let same : found ≡ signs = one_becomes context one pieces known signs found is plain is_known resolves in
    (wide, around, is_wide, ap (resolved context) bare ∙ plain_resolved context around, on (chars text) (subst (λ (ss : List Sign). Matches ss (chars text)) same fits))
wider_matches context Arn text one other wider matches = absurd wider
wider_matches context (Number order) text one other (bound, wide, is, is_wide, beyond) (n, m, is_m, whole, ordered) =
    let both : operand.Number m ≡ operand.Number bound = sym is_m ∙ is in
    let same : m ≡ bound = cc in
    (n, wide, is_wide, whole, further order n bound wide beyond (subst (λ (k : ℤ). Ordered order n k) same ordered))
wider_matches context (Date order) text one other (bound, wide, is, is_wide, beyond) (n, m, is_m, moment, ordered) =
    let both : operand.Instant m ≡ operand.Instant bound = sym is_m ∙ is in
    let same : m ≡ bound = cc in
    (n, wide, is_wide, moment, further order n bound wide beyond (subst (λ (k : ℤ). Ordered order n k) same ordered))
wider_matches context Truth text one other wider matches = absurd wider
wider_matches context Binary text one other wider matches = absurd wider
wider_matches context Address text one other wider matches = absurd wider
wider_matches context Null text one other wider matches = absurd wider

covered_matches : (context : ContextValue) (base : Base) (text : List ℕ) (one other : Operand) → Covers base one other
    → ValueMatches context base text one → ValueMatches context base text other
covered_matches context base text one other (inl same) matches = subst (ValueMatches context base text) same matches
covered_matches context base text one other (inr wider) matches = wider_matches context base text one other wider matches

-- a value with a wider one becomes a pattern, if it is a text
wider_resolves : (context : ContextValue) (base : Base) (one other : Operand) → IsWider base one other → Resolves context base one
wider_resolves context (Text test.Equals) one other wider = absurd wider
wider_resolves context (Text test.EqualsIgnoreCase) one other wider = absurd wider
wider_resolves context (Text test.Like) one other (pieces, wide, is, is_wide, (signs, around, plain, bare, on)) = λ has known is_known.
    let texts : operand.Text known ≡ operand.Text pieces = sym is_known ∙ is in
    let same : known ≡ pieces = cc in
    subst (λ (found : Option (List Sign)). IsSome found) (sym (ap (resolved context) (same ∙ plain) ∙ plain_resolved context signs)) refl
wider_resolves context Arn one other wider = absurd wider
wider_resolves context (Number order) one other wider = λ has known is_known. absurd (let wrong : ⊥ = cc in wrong)
wider_resolves context (Date order) one other wider = λ has known is_known. absurd (let wrong : ⊥ = cc in wrong)
wider_resolves context Truth one other wider = absurd wider
wider_resolves context Binary one other wider = absurd wider
wider_resolves context Address one other wider = absurd wider
wider_resolves context Null one other wider = absurd wider

-- it is no truth value
wider_is_no_truth : (base : Base) (truth : Bool) (one other : Operand) → IsWider base one other → one ≢ operand.Truth truth
wider_is_no_truth (Text test.Equals) truth one other wider = absurd wider
wider_is_no_truth (Text test.EqualsIgnoreCase) truth one other wider = absurd wider
wider_is_no_truth (Text test.Like) truth one other (pieces, wide, is, is_wide, rest) = λ is_truth.
    let clash : operand.Text pieces ≡ operand.Truth truth = sym is ∙ is_truth in let wrong : ⊥ = cc in wrong
wider_is_no_truth Arn truth one other wider = absurd wider
wider_is_no_truth (Number order) truth one other (bound, wide, is, is_wide, rest) = λ is_truth.
    let clash : operand.Number bound ≡ operand.Truth truth = sym is ∙ is_truth in let wrong : ⊥ = cc in wrong
wider_is_no_truth (Date order) truth one other (bound, wide, is, is_wide, rest) = λ is_truth.
    let clash : operand.Instant bound ≡ operand.Truth truth = sym is ∙ is_truth in let wrong : ⊥ = cc in wrong
wider_is_no_truth Truth truth one other wider = absurd wider
wider_is_no_truth Binary truth one other wider = absurd wider
wider_is_no_truth Address truth one other wider = absurd wider
wider_is_no_truth Null truth one other wider = absurd wider

-- ---- one value

-- a text of the request that matches a value matches one of those that this one is within
value_within : (context : ContextValue) (base : Base) (text : List ℕ) (one : Operand) (others : List Operand) → IsWithin base others one
    → ValueMatches context base text one → Any (ValueMatches context base text) others
value_within context base text one others (inl some) matches =
    let (other, among, covers) = some_in (Covers base one) others some in
    in_some (ValueMatches context base text) others other among (covered_matches context base text one other covers matches)
value_within context (Text test) text one others (inr (range, is, held)) matches =
    absurd (let clash : operand.Range range ≡ operand.Text matches.0 = sym is ∙ matches.2 in let wrong : ⊥ = cc in wrong)
value_within context Arn text one others (inr (range, is, held)) matches =
    absurd (let clash : operand.Range range ≡ operand.Text matches.0 = sym is ∙ matches.2 in let wrong : ⊥ = cc in wrong)
value_within context (Number order) text one others (inr (range, is, held)) matches =
    absurd (let clash : operand.Range range ≡ operand.Number matches.1 = sym is ∙ matches.2 in let wrong : ⊥ = cc in wrong)
value_within context (Date order) text one others (inr (range, is, held)) matches =
    absurd (let clash : operand.Range range ≡ operand.Instant matches.1 = sym is ∙ matches.2 in let wrong : ⊥ = cc in wrong)
value_within context Truth text one others (inr (range, is, held)) matches =
    absurd (let clash : operand.Range range ≡ operand.Truth matches.0 = sym is ∙ matches.1 in let wrong : ⊥ = cc in wrong)
value_within context Binary text one others (inr (range, is, held)) matches =
    absurd (let clash : operand.Range range ≡ operand.Bytes matches.0 = sym is ∙ matches.1 in let wrong : ⊥ = cc in wrong)
value_within context Address text one others (inr (range, is, held)) (address, found, is_found, is_address, holds) =
    let both : operand.Range range ≡ operand.Range found = sym is ∙ is_found in
    let same : found ≡ range = cc in
    let (other, among, (wide, is_wide, inside)) =
    some_in (HoldsAddress address) others (held address (subst (λ (r : Block). Holds r address) same holds)) in
    in_some (ValueMatches context Address text) others other among (address, wide, is_wide, is_address, inside)
value_within context Null text one others (inr (range, is, held)) matches = absurd matches

-- one that does not resolve is one of the others
resolves_within : (context : ContextValue) (base : Base) (one : Operand) (others : List Operand) → IsWithin base others one
    → All (Resolves context base) others → Resolves context base one
resolves_within context base one others (inl some) resolve =
    let (other, (k, below, at), covers) = some_in (Covers base one) others some in
    elim covers [
      | inl same ↦ subst (Resolves context base) (sym same) (subst (Resolves context base) at (resolve k other below))
      | inr wider ↦ wider_resolves context base one other wider
    ]
resolves_within context base one others (inr (range, is, held)) resolve = λ has pieces is_text.
    absurd (let clash : operand.Range range ≡ operand.Text pieces = sym is ∙ is_text in let wrong : ⊥ = cc in wrong)

truth_within : (base : Base) (truth : Bool) (one : Operand) (others : List Operand) → IsWithin base others one → one ≡ operand.Truth truth
    → HasTruth truth others
truth_within base truth one others (inl some) is_truth =
    let (other, among, covers) = some_in (Covers base one) others some in
    elim covers [
      | inl same ↦ in_some (λ value. value ≡ operand.Truth truth) others other among (sym same ∙ is_truth)
      | inr wider ↦ absurd (wider_is_no_truth base truth one other wider is_truth)
    ]
truth_within base truth one others (inr (range, is, held)) is_truth =
    absurd (let clash : operand.Range range ≡ operand.Truth truth = sym is ∙ is_truth in let wrong : ⊥ = cc in wrong)

-- ---- lists of values

some_within : (base : Base) (P : Operand → Type 0) (ones others : List Operand) → AreWithin base ones others
    → ((x : Operand) → IsWithin base others x → P x → Any P others) → Any P ones → Any P others
some_within base P ones others within keeps some =
    let (x, (k, below, at), p) = some_in P ones some in
    keeps x (subst (IsWithin base others) at (within k x below)) p

satisfied : (context : ContextValue) (base : Base) (negated : Bool) (ones others : List Operand) → AreWithinSign base negated ones others
    → (text : List ℕ) → MatchBool negated (All (Resolves context base) ones × ¬ Any (ValueMatches context base text) ones) (Any (ValueMatches context base text) ones)
    → MatchBool negated (All (Resolves context base) others × ¬ Any (ValueMatches context base text) others) (Any (ValueMatches context base text) others)
satisfied context base true ones others within text (resolve, none) = (
  λ k d below. resolves_within context base (get_or others k d) ones (within k d below) resolve,
  λ some. none (some_within base (ValueMatches context base text) others ones within (λ x. value_within context base text x ones) some),
)
satisfied context base false ones others within text some =
    some_within base (ValueMatches context base text) ones others within (λ x. value_within context base text x others) some

every_within : (every : Bool) (P Q : List ℕ → Type 0) (texts : List (List ℕ)) → ((text : List ℕ) → P text → Q text)
    → MatchBool every (All P texts) (Any P texts) → MatchBool every (All Q texts) (Any Q texts)
every_within true P Q texts keeps all = λ k d below. keeps (get_or texts k d) (all k d below)
every_within false P Q texts keeps some = (let (text, among, p) = some_in P texts some in in_some Q texts text among (keeps text p))

with_values : (context : ContextValue) (operator : Operator) (ones others : List Operand) (texts : List (List ℕ)) (null : Bool)
    → AreWithinBy operator.base null operator.is_negated ones others
    → MatchBool null (HasTruth false ones) (MatchBool (asks_every operator.quantifier operator.is_negated)
    (All (Satisfies context operator ones) texts) (Any (Satisfies context operator ones) texts))
    → MatchBool null (HasTruth false others) (MatchBool (asks_every operator.quantifier operator.is_negated)
    (All (Satisfies context operator others) texts) (Any (Satisfies context operator others) texts))
with_values context operator ones others texts true within has =
    some_within operator.base (λ value. value ≡ operand.Truth false) ones others within (λ x. truth_within operator.base false x others) has
with_values context operator ones others texts false within holds =
    every_within (asks_every operator.quantifier operator.is_negated) (Satisfies context operator ones) (Satisfies context operator others) texts
    (satisfied context operator.base operator.is_negated ones others within) holds

bare_values : (operator : Operator) (quantifier : Option Quantifier) (ones others : List Operand)
    → AreWithinBy operator.base (is_null operator.base) operator.is_negated ones others → HoldsBare quantifier operator ones → HoldsBare quantifier operator others
bare_values operator (Some ForAllValues) ones others within holds = tt
bare_values operator (Some ForAnyValue) ones others within holds = holds
bare_values operator None ones others within (inl negated) = inl negated
bare_values operator None ones others within (inr (null, has)) =
    let plain : AreWithinBy operator.base true operator.is_negated ones others =
    subst (λ (b : Bool). AreWithinBy operator.base b operator.is_negated ones others) null within in
    inr (null, some_within operator.base (λ value. value ≡ operand.Truth true) ones others plain (λ x. truth_within operator.base true x others) has)

without_values : (operator : Operator) (ones others : List Operand) → AreWithinBy operator.base (is_null operator.base) operator.is_negated ones others
    → HoldsWithout operator ones → HoldsWithout operator others
without_values operator ones others within (inl if_exists) = inl if_exists
without_values operator ones others within (inr bare) = inr (bare_values operator operator.quantifier ones others within bare)

holds_on : (context : ContextValue) (one other : EntryValue) (texts : List (List ℕ)) → one.operator ≡ other.operator
    → AreWithinBy one.operator.base (is_null one.operator.base) one.operator.is_negated one.values other.values → HoldsOn context one texts
    → HoldsOn context other texts
holds_on context one other [] same within holds =
    subst (λ (operator : Operator). HoldsWithout operator other.values) same (without_values one.operator one.values other.values within holds)
holds_on context one other (text ∷ texts) same within holds =
    subst (λ (operator : Operator). HoldsWith context operator other.values (text ∷ texts)) same
    (with_values context one.operator one.values other.values (text ∷ texts) (is_null one.operator.base) within holds)

pub implied : (one other : EntryValue) → one.operator ≡ other.operator → one.key ≡ other.key
    → AreWithinBy one.operator.base (is_null one.operator.base) one.operator.is_negated one.values other.values → Implies one other
implied one other same key within context holds =
    subst (λ (k : List ℕ). HoldsOn context other (values_of context k)) key
    (holds_on context one other (values_of context one.key) same within holds)
