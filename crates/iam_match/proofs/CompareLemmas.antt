-- What comparing a text of a request with a value of a policy tells of the definition (`Entry`).
use Rattle.std.proofs.Common.{◌≡◌, ◌↔◌, ◌≤◌, arith, length, inl, inr, ℕ, ℤ, List, [], ◌∷◌, Bool, true, false, Option, Some, None, IsTrue, refl, sym, ap, ◌∙◌, subst}
use Rattle.iam_text.specs.Arn.{parts_of}
use Rattle.iam_text.specs.declared.arn.Arn.{Arn}
use Rattle.iam_text.specs.declared.draft.Piece.{Piece}
use Rattle.iam_glob.specs.declared.sign.Sign.{Sign}
use Rattle.iam_value.specs.Address.{AddressBits, Block, Holds, IsAddress}
use Rattle.iam_value.specs.Moment.{IsMoment}
use Rattle.iam_context.specs.Context.{ContextValue}
use Rattle.iam_context.specs.Resolve.{resolved}
use Rattle.iam_condition.specs.declared.operand.Operand.{Operand}
use Rattle.iam_condition.specs.declared.operand.Operand.TheVariants as operand
use Rattle.iam_condition.specs.declared.operator.Base.{Base}
use Rattle.iam_condition.specs.declared.operator.Base.TheVariants as base
use Rattle.iam_condition.specs.declared.operator.Order.{Order}
use Rattle.iam_condition.specs.Operand.{has_texts}
use Rattle.iam_condition.specs.Entry.{EntryValue}
use Rattle.iam_match.specs.Entry.{ArnMatches, HoldsOn, HoldsWith, Ordered, PartsMatch, Resolves, ResolvesTo, ValueMatches}
use Rattle.iam_match.specs.Code.Asked.{IsComparison, IsArnOf, IsThe}
use Rattle.iam_match.specs.Code.Compared.{ArnFits, IsTextAnswer}
use Rattle.iam_match.proofs.StatementLemmas.{Tells}

-- the pieces of a text
same_pieces : (p q : List Piece) → operand.Text p ≡ operand.Text q → p ≡ q
same_pieces p q e = cc

same_some : {X : Type 0} (x y : X) → Some x ≡ Some y → x ≡ y
same_some x y e = cc

no_some : {X : Type 0} (x : X) → None ≡ Some x → ⊥
no_some x e = cc

-- a value that is no text becomes no pattern, so the text does not match it
other : (context : ContextValue) (b : Base) (text : List ℕ) (value : Operand) (P : List Sign → Type 0) (answer : Option Bool)
    → (ValueMatches context b text value → ResolvesTo context value P) → ((pieces : List Piece) → value ≡ operand.Text pieces → ⊥)
    → answer ≡ Some false → IsComparison context b text value answer
other context b text value P None means no_text e = absurd (let wrong : ⊥ = cc in wrong)
other context b text value P (Some true) means no_text e = absurd (let wrong : ⊥ = cc in wrong)
other context b text value P (Some false) means no_text e = (
  λ texts pieces is. absurd (no_text pieces is),
  (λ yes. absurd (let wrong : ⊥ = cc in wrong), λ matched. let to = means matched in absurd (no_text to.0 to.2)),
)

-- the comparison by the pattern that a text becomes
pub comparison : (context : ContextValue) (b : Base) (text : List ℕ) (value : Operand) (P : List Sign → Type 0) (answer : Option Bool)
    → (ValueMatches context b text value → ResolvesTo context value P) → (ResolvesTo context value P → ValueMatches context b text value)
    → (IsTrue (has_texts b)) → IsTextAnswer context value P answer → IsComparison context b text value answer
comparison context b text (operand.Text pieces) P None means back texts is = (
  λ resolves.
      let some = resolves texts pieces refl in absurd (let wrong : ⊥ = cc in wrong),
  λ matched.
      let to = means matched in
      let same = same_pieces pieces to.0 to.2 in
      absurd (no_some to.1 (sym is ∙ ap (resolved context) same ∙ to.3)),
)
comparison context b text (operand.Text pieces) P (Some holds) means back texts (signs, is, agrees) = (
  λ _ others e. let same = same_pieces pieces others e in let here : resolved context others ≡ Some signs = ap (resolved context) (sym same) ∙ is in cc,
  (
    λ yes. back (pieces, signs, refl, is, agrees.0 yes),
    λ matched.
        let to = means matched in
        let same = same_pieces pieces to.0 to.2 in
        let signs_same = same_some signs to.1 (sym is ∙ ap (resolved context) same ∙ to.3) in
        agrees.1 (subst P (sym signs_same) to.4),
  ),
)
comparison context b text (operand.Number n) P answer means back texts is = other context b text (operand.Number n) P answer means (λ pieces e. cc) is
comparison context b text (operand.Instant n) P answer means back texts is = other context b text (operand.Instant n) P answer means (λ pieces e. cc) is
comparison context b text (operand.Truth t) P answer means back texts is = other context b text (operand.Truth t) P answer means (λ pieces e. cc) is
comparison context b text (operand.Bytes bytes) P answer means back texts is = other context b text (operand.Bytes bytes) P answer means (λ pieces e. cc) is
comparison context b text (operand.Range range) P answer means back texts is = other context b text (operand.Range range) P answer means (λ pieces e. cc) is

-- the ARN of a text is the one that it is cut into
arn_is_fitted : (text : List ℕ) (found : Option Arn) → IsArnOf text found → (signs : List Sign) → ArnMatches signs text → ArnFits found signs
arn_is_fitted text None cut signs (parts, is, fits) = absurd (cut parts is)
arn_is_fitted text (Some a) cut signs (parts, is, inl star) = inl star
arn_is_fitted text (Some a) cut signs (parts, is, inr fits) = inr (subst (PartsMatch signs) (cut.1 parts is) fits)

fits_arn : (text : List ℕ) (found : Option Arn) → IsArnOf text found → (signs : List Sign) → ArnFits found signs → ArnMatches signs text
fits_arn text None cut signs fits = absurd fits
fits_arn text (Some a) cut signs fits = (parts_of a, cut.0, fits)

pub arn_comparison : (context : ContextValue) (text : List ℕ) (found : Option Arn) (value : Operand) (answer : Option Bool) → IsArnOf text found
    → IsTextAnswer context value (ArnFits found) answer → IsComparison context base.Arn text value answer
arn_comparison context text found value answer cut is =
    comparison context base.Arn text value (ArnFits found) answer
    (λ matched. (matched.0, matched.1, matched.2, matched.3, arn_is_fitted text found cut matched.1 matched.4))
    (λ to. (to.0, to.1, to.2, to.3, fits_arn text found cut to.1 to.4)) refl is

-- the comparison of instants
pub instant_comparison : (context : ContextValue) (text : List ℕ) (nanos : ℤ) (order : Order) (value : Operand) (holds : Bool)
    → IsThe (IsMoment text) nanos → (IsTrue holds ↔ ((m : ℤ) × (value ≡ operand.Instant m) × Ordered order nanos m))
    → IsComparison context (base.Date order) text value (Some holds)
instant_comparison context text nanos order value holds the agrees = (
  λ texts. absurd (let wrong : ⊥ = cc in wrong),
  (
    λ yes. let found = agrees.0 yes in (nanos, found.0, found.1, the.0, found.2),
    λ matched. agrees.1 (matched.1, matched.2, subst (λ n. Ordered order n matched.1) (the.1 matched.0 matched.3) matched.4),
  ),
)

-- the comparison of an address with a range
pub address_comparison : (context : ContextValue) (text : List ℕ) (address : AddressBits) (value : Operand) (holds : Bool)
    → IsThe (IsAddress text) address → (IsTrue holds ↔ ((range : Block) × (value ≡ operand.Range range) × Holds range address))
    → IsComparison context base.Address text value (Some holds)
address_comparison context text address value holds the agrees = (
  λ texts. absurd (let wrong : ⊥ = cc in wrong),
  (
    λ yes. let found = agrees.0 yes in (address, found.0, found.1, the.0, found.2),
    λ matched. agrees.1 (matched.1, matched.2, subst (λ a. Holds matched.1 a) (the.1 matched.0 matched.3) matched.4),
  ),
)

pub compared : (context : ContextValue) (b : Base) (text : List ℕ) (value : Operand) (answer : Option Bool) → IsComparison context b text value answer
    → Tells (Resolves context b value) (ValueMatches context b text value) answer
compared context b text value None is = is
compared context b text value (Some matched) is = is

pub not_false : (b : Bool) → b ≡ false → IsTrue b → ⊥
not_false b is held = let wrong : true ≡ false = sym held ∙ is in let false_is : ⊥ = cc in false_is

-- a key with some value
pub holds_on : (context : ContextValue) (entry : EntryValue) (texts : List (List ℕ)) → 1 ≤ length texts
    → HoldsWith context entry.operator entry.values texts ↔ HoldsOn context entry texts
holds_on context entry [] some = absurd (omega arith)
holds_on context entry (text ∷ texts) some = (λ h. h, λ h. h)
