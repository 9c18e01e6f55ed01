use Rattle.std.proofs.Common.{◌≡◌, ◌↔◌, ℕ, ℤ, List, Some, IfOk, IsTrue, FitsSigned, refl, sym, subst}
use Rattle.std.specs.Int.{w128}
use Rattle.std.proofs.lemmas.Int.{to_z-of_z}
use Rattle.iam_condition.specs.declared.operand.Operand.TheVariants as operand
use Rattle.std.proofs.lemmas.Result.{IfOk-weaker}
use Rattle.iam_condition.specs.declared.operator.Base.{Base}
use Rattle.iam_condition.specs.declared.operator.Base.TheVariants as base
use Rattle.iam_match.specs.Code.Asked.{IsAsked, IsComparison}
use Rattle.iam_match.specs.Code.Compared.{IsTextAnswer}
use Rattle.iam_match.specs.Entry.{Ordered, PatternMatches}
use Rattle.iam_match.specs.declared.asked.Asked.{Asked}
use Rattle.iam_match.proofs.CompareLemmas.{address_comparison, arn_comparison, comparison, instant_comparison}
use Rattle.iam_match.proofs.compare.compare.Goals as goal

pub returns-in-Text : goal.returns-in-Text
returns-in-Text c = λ b text is.
    let context = c.args.context.now in
    let value = c.args.value.now in
    let test = c.in-Text.test in
    let K : Asked → Type 0 = λ asked. IsAsked b text asked in
    let known = subst K c.in-Text.is is in
    let P : Base → Type 0 = λ b. IfOk c.compare_text.result (IsComparison context b text value) in
    subst P (sym known.0)
    (IfOk-weaker c.compare_text.result _ _
    (λ answer fits. let Q : List ℕ → Type 0 = λ t. IsTextAnswer context value (λ signs. PatternMatches test signs t) answer in
    comparison context (base.Text test) text value (λ signs. PatternMatches test signs text) answer (λ m. m) (λ m. m) refl (subst Q known.1 fits))
    c.compare_text.ensures)

pub returns-in-Arn : goal.returns-in-Arn
returns-in-Arn c = λ b text is.
    let context = c.args.context.now in
    let value = c.args.value.now in
    let K : Asked → Type 0 = λ asked. IsAsked b text asked in
    let known = subst K c.in-Arn.is is in
    let P : Base → Type 0 = λ b. IfOk c.compare_arn.result (IsComparison context b text value) in
    subst P (sym known.0)
    (IfOk-weaker c.compare_arn.result _ _ (λ answer fits. arn_comparison context text c.in-Arn.arn value answer known.1 fits) c.compare_arn.ensures)

pub returns-in-Instant : goal.returns-in-Instant
returns-in-Instant c = λ b text is.
    let context = c.args.context.now in
    let value = c.args.value.now in
    let K : Asked → Type 0 = λ asked. IsAsked b text asked in
    let known = subst K c.in-Instant.is is in
    let nanos = c.in-Instant.nanos in
    let fits : FitsSigned w128 nanos = search in
    let A : ℤ → Type 0 = λ n. IsTrue c.is_instant.result ↔ ((m : ℤ) × (value ≡ operand.Instant m) × Ordered c.in-Instant.order n m) in
    let agrees = subst A (to_z-of_z w128 nanos fits) c.is_instant.ensures in
    let P : Base → Type 0 = λ b. IsComparison context b text value (Some c.is_instant.result) in
    subst P (sym known.0) (instant_comparison context text nanos c.in-Instant.order value c.is_instant.result known.1 agrees)

pub returns-in-Address : goal.returns-in-Address
returns-in-Address c = λ b text is.
    let context = c.args.context.now in
    let value = c.args.value.now in
    let K : Asked → Type 0 = λ asked. IsAsked b text asked in
    let known = subst K c.in-Address.is is in
    let P : Base → Type 0 = λ b. IsComparison context b text value (Some c.holds_address.result) in
    subst P (sym known.0) (address_comparison context text c.in-Address.address value c.holds_address.result known.1 c.holds_address.ensures)
