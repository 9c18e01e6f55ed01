use Rattle.std.proofs.Common.{◌≡◌, ◌+◌, ◌-◌, ◌∙◌, Some, None, ap, arith, drop, sym, subst, take, List, ℕ}
use Rattle.std.specs.List.{slice_range}
use Rattle.iam_text.specs.Stretches.{IsCutAtForm}
use Rattle.std.proofs.lemmas.Str.{IsCharBoundary-after_ascii}
use Rattle.std.specs.Str.{IsCharBoundary}
use Rattle.iam_text.specs.Code.Forms.{IsFirstForm}
use Rattle.iam_text.proofs.FormLemmas.{cut_at, none_at}
use Rattle.iam_text.proofs.VariableLemmas.{cut_told}
use Rattle.iam_text.proofs.form.cut_form.Goals as goal

pub returns-in_err-i-clause-cut : goal.returns-in_err-i-clause-cut
returns-in_err-i-clause-cut c = rw c.from_residual.ensures (none_at c.args.text.now (rw c.as_bytes.ensures.value at c.in_err-i.ensures))

pub returns-in_err-i-clause-grammar : goal.returns-in_err-i-clause-grammar
returns-in_err-i-clause-grammar c =
    let none = none_at c.args.text.now (rw c.as_bytes.ensures.value at c.in_err-i.ensures) in
    rw c.from_residual.ensures (cut_told c.args.text.now None c.utf8.text none)

pub range_from-requires : goal.range_from-requires
range_from-requires c = λ some.
    let i = c.in_ok-i.i in
    let found : IsFirstForm c.args.text.now i = rw c.as_bytes.ensures.value at c.in_ok-i.ensures in
    let B : ℕ → Type 0 = λ n. IsCharBoundary c.args.text.now n in
    let two : i + 1 + 1 ≡ i + 2 = omega arith in
    subst B two (IsCharBoundary-after_ascii c.args.text.now (i + 1) c.utf8.text found.here.inside (omega (arith, found.here.brace)))

slice_range_front : (text : List ℕ) (i : ℕ) → slice_range text 0 i ≡ take i text
slice_range_front text i =
    let n : i - 0 ≡ i = omega arith in
    ap (λ m. take m text) n

cut-parts : (text front inside : List ℕ) (i : ℕ) → front ≡ slice_range text 0 i → inside ≡ drop (i + 2) text → IsFirstForm text i → IsCutAtForm text front inside
cut-parts text front inside i is is' found =
    let P : List ℕ → Type 0 = λ t. IsCutAtForm text t inside in
    let Q : List ℕ → Type 0 = λ t. IsCutAtForm text (take i text) t in
    subst P (sym (is ∙ slice_range_front text i)) (subst Q (sym is') (cut_at text i found))

pub returns-clause-cut : goal.returns-clause-cut
returns-clause-cut c =
    let found : IsFirstForm c.args.text.now c.in_ok-i.i = rw c.as_bytes.ensures.value at c.in_ok-i.ensures in
    cut-parts c.args.text.now c.range.result.now c.range_from.result.now c.in_ok-i.i c.range.ensures.value c.range_from.ensures.value found

pub returns-clause-grammar : goal.returns-clause-grammar
returns-clause-grammar c =
    let found : IsFirstForm c.args.text.now c.in_ok-i.i = rw c.as_bytes.ensures.value at c.in_ok-i.ensures in
    let cut = cut-parts c.args.text.now c.range.result.now c.range_from.result.now c.in_ok-i.i c.range.ensures.value c.range_from.ensures.value found in
    cut_told c.args.text.now (Some (c.range.result, c.range_from.result)) c.utf8.text cut
