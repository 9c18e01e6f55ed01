-- Entries that no value of their key meets.
use Rattle.std.proofs.Common.{◌≡◌, ◌∙◌, ◌⊎◌, inl, inr, ℕ, List, [], ◌∷◌, All, Any, Bool, true, false, MatchBool, Option, Some, None, ap, subst, sym}
use Rattle.iam_condition.specs.Entry.{EntryValue}
use Rattle.iam_condition.specs.declared.operand.Operand.{Operand}
use Rattle.iam_condition.specs.declared.operand.Operand.TheVariants as operand
use Rattle.iam_condition.specs.declared.operator.Base.{Base}
use Rattle.iam_condition.specs.declared.operator.Base.TheVariants.{Text, Arn, Number, Date, Truth, Binary, Address, Null}
use Rattle.iam_condition.specs.declared.operator.Operator.{Operator}
use Rattle.iam_condition.specs.declared.operator.Quantifier.{Quantifier}
use Rattle.iam_context.specs.Context.{ContextValue, values_of}
use Rattle.iam_context.specs.Resolve.{resolved}
use Rattle.iam_glob.specs.declared.sign.Sign.{Sign}
use Rattle.iam_match.specs.Entry.{EntryHolds, HasTruth, HoldsBare, HoldsOn, HoldsWith, HoldsWithout, ResolvesTo, Resolves, Satisfies, ValueMatches, asks_every, is_null}
use Rattle.iam_open.specs.Code.Known.{AgreeOn}
use Rattle.iam_open.specs.Code.Unmet.{AsksForOne, IsUnmet}
use Rattle.iam_open.proofs.AgreeLemmas.{resolved_same}
use Rattle.iam_open.proofs.ListLemmas.{some_in}

-- ---- one value

-- it becomes no pattern in another context that agrees on what is known
no_pattern : (known : List (List ℕ)) (context other : ContextValue) (value : Operand) → AgreeOn known context other → IsUnmet known context value
    → (P : List Sign → Type 0) → ¬ ResolvesTo other value P
no_pattern known context other value agree (pieces, is, unresolved) P (found, signs, is_found, resolves, p) =
    let texts : operand.Text found ≡ operand.Text pieces = sym is_found ∙ is in
    let same : found ≡ pieces = cc in
    let both : Some signs ≡ None =
    sym resolves ∙ ap (resolved other) same ∙ sym (resolved_same known context other agree pieces unresolved.free) ∙ unresolved.none in
    let wrong : ⊥ = cc in wrong

-- so no text matches it
unmatched : (known : List (List ℕ)) (context other : ContextValue) (base : Base) (text : List ℕ) (value : Operand) → AgreeOn known context other
    → IsUnmet known context value → ¬ ValueMatches other base text value
unmatched known context other (Text test) text value agree unmet matches = no_pattern known context other value agree unmet _ matches
unmatched known context other Arn text value agree unmet matches = no_pattern known context other value agree unmet _ matches
unmatched known context other (Number order) text value agree (pieces, is, rest) (n, m, is_m, more, order_is) =
    let clash : operand.Text pieces ≡ operand.Number m = sym is ∙ is_m in let wrong : ⊥ = cc in wrong
unmatched known context other (Date order) text value agree (pieces, is, rest) (n, m, is_m, more, order_is) =
    let clash : operand.Text pieces ≡ operand.Instant m = sym is ∙ is_m in let wrong : ⊥ = cc in wrong
unmatched known context other Truth text value agree (pieces, is, rest) (truth, is_truth, more) =
    let clash : operand.Text pieces ≡ operand.Truth truth = sym is ∙ is_truth in let wrong : ⊥ = cc in wrong
unmatched known context other Binary text value agree (pieces, is, rest) (bytes, is_bytes, more) =
    let clash : operand.Text pieces ≡ operand.Bytes bytes = sym is ∙ is_bytes in let wrong : ⊥ = cc in wrong
unmatched known context other Address text value agree (pieces, is, rest) (address, range, is_range, more, holds) =
    let clash : operand.Text pieces ≡ operand.Range range = sym is ∙ is_range in let wrong : ⊥ = cc in wrong
unmatched known context other Null text value agree unmet matches = matches

-- ---- all values

none_matches : (known : List (List ℕ)) (context other : ContextValue) (base : Base) (values : List Operand) → AgreeOn known context other
    → All (IsUnmet known context) values → (text : List ℕ) → ¬ Any (ValueMatches other base text) values
none_matches known context other base values agree all text some =
    let (value, (k, below, at), matches) = some_in (ValueMatches other base text) values some in
    unmatched known context other base text value agree (subst (IsUnmet known context) at (all k value below)) matches

no_truth : (known : List (List ℕ)) (context : ContextValue) (values : List Operand) → All (IsUnmet known context) values → (truth : Bool)
    → ¬ HasTruth truth values
no_truth known context values all truth some =
    let (value, (k, below, at), is_truth) = some_in (λ value. value ≡ operand.Truth truth) values some in
    let (pieces, is, rest) = subst (IsUnmet known context) at (all k value below) in
    let clash : operand.Text pieces ≡ operand.Truth truth = sym is ∙ is_truth in let wrong : ⊥ = cc in wrong

-- ---- the operator

-- it asks for some value of the key, not for every one
asks_some : (operator : Operator) → AsksForOne operator → asks_every operator.quantifier operator.is_negated ≡ false
asks_some operator asks =
    elim asks.some [
      | inl none ↦ ap (λ (q : Option Quantifier). asks_every q operator.is_negated) none ∙ asks.plain
      | inr any ↦ ap (λ (q : Option Quantifier). asks_every q operator.is_negated) any
    ]

-- one that is not negated is satisfied where some value matches
satisfies_some : (negated : Bool) (A B : Type 0) → negated ≡ false → MatchBool negated A B → B
satisfies_some true A B plain m = absurd (let wrong : ⊥ = cc in wrong)
satisfies_some false A B plain m = m

of_some : (null every : Bool) (A B C : Type 0) → every ≡ false → MatchBool null A (MatchBool every B C) → A ⊎ C
of_some true every A B C some m = inl m
of_some false true A B C some m = absurd (let wrong : ⊥ = cc in wrong)
of_some false false A B C some m = inr m

not_without : (operator : Operator) (values : List Operand) → AsksForOne operator → ((truth : Bool) → ¬ HasTruth truth values)
    → ¬ HoldsWithout operator values
not_without operator values asks none (inl if_exists) = let wrong : ⊥ = (let is = asks.present in cc) in wrong
not_without operator values asks none (inr bare) =
    elim asks.some [
      | inl is ↦
          elim (subst (λ (q : Option Quantifier). HoldsBare q operator values) is bare) [
            | inl negated ↦ (let plain = asks.plain in let wrong : ⊥ = cc in wrong)
            | inr null ↦ none true null.1
          ]
      | inr is ↦ subst (λ (q : Option Quantifier). HoldsBare q operator values) is bare
    ]

not_with : (other : ContextValue) (operator : Operator) (values : List Operand) (texts : List (List ℕ)) → AsksForOne operator
    → ((text : List ℕ) → ¬ Any (ValueMatches other operator.base text) values) → ((truth : Bool) → ¬ HasTruth truth values)
    → ¬ HoldsWith other operator values texts
not_with other operator values texts asks unmatched none holds =
    elim (of_some (is_null operator.base) (asks_every operator.quantifier operator.is_negated) (HasTruth false values)
    (All (Satisfies other operator values) texts) (Any (Satisfies other operator values) texts) (asks_some operator asks) holds) [
      | inl truth ↦ none false truth
      | inr some ↦
          (let (text, among, satisfies) = some_in (Satisfies other operator values) texts some in
          unmatched text
          (satisfies_some operator.is_negated (All (Resolves other operator.base) values × ¬ Any (ValueMatches other operator.base text) values)
          (Any (ValueMatches other operator.base text) values) asks.plain satisfies))
    ]

-- ---- the entry

pub unmet_holds : (known : List (List ℕ)) (context other : ContextValue) (entry : EntryValue) → AsksForOne entry.operator
    → All (IsUnmet known context) entry.values → AgreeOn known context other → ¬ EntryHolds other entry
unmet_holds known context other entry asks all agree = go (values_of other entry.key)
  where
    go : (texts : List (List ℕ)) → ¬ HoldsOn other entry texts
    go [] holds = not_without entry.operator entry.values asks (no_truth known context entry.values all) holds
    go (text ∷ texts) holds =
        not_with other entry.operator entry.values (text ∷ texts) asks
        (none_matches known context other entry.operator.base entry.values agree all) (no_truth known context entry.values all) holds
