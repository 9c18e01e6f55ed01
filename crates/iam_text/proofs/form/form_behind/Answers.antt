use Rattle.std.proofs.Common.{◌≡◌, ◌∙◌, ◌∷◌, ◌++◌, ◌==◌, List, ℕ, [], IsTrue, Some, None, ap, eqb-true, false, arith, length, subst, sym}
use Rattle.std.proofs.lemmas.Str.Pattern.{strip_prefix_char}
use Rattle.iam_text.specs.Draft.{is_key}
use Rattle.iam_text.specs.Code.Forms.{IsQuoted}
use Rattle.iam_text.proofs.FormLemmas.{literal, plain, fallback, form_cut}
use Rattle.iam_text.proofs.form.form_behind.Goals as goal

no-key : (key : List ℕ) → length key ≡ 0 → IsTrue (is_key key) → ⊥
no-key [] none is = let no : ⊥ = cc in no
no-key (c ∷ key) none is = omega arith

empty-key : (key : List ℕ) → key ≡ [] → (length key == 0) ≡ false → ⊥
empty-key [] empty some = let no : ⊥ = cc in no
empty-key (c ∷ key) empty some = let no : ⊥ = cc in no

pub returns-in_err-character : goal.returns-in_err-character
returns-in_err-character c =
    let key = c.cut_key.result.0.now in
    let behind = c.cut_key.result.1.now in
    let none : length key ≡ 0 = eqb-true (length key) 0 (sym c.is_empty.ensures ∙ c.if-is_empty.true) in
    rw c.from_residual.ensures
    (
    λ piece rest has.
    elim (form_cut c.args.text.now key behind c.cut_key.ensures piece rest has) [
      | literal d empty is ↦ c.in_err-character.ensures d rest (is.0, c.cut_key.ensures.joined ∙ ap (λ k. k ++ behind) empty ∙ is.1)
      | plain is same ↦ no-key key none is
      | fallback default more is same quoted ↦ no-key key none is
    ]
    )

pub returns-in_err-strip_prefix : goal.returns-in_err-strip_prefix
returns-in_err-strip_prefix c =
    let key = c.cut_key.result.0.now in
    let behind = c.cut_key.result.1.now in
    let some : (length key == 0) ≡ false = sym c.is_empty.ensures ∙ c.if-is_empty.false in
    rw c.from_residual-in_err-strip_prefix.ensures
    (
    λ piece rest has.
    elim (form_cut c.args.text.now key behind c.cut_key.ensures piece rest has) [
      | literal d empty is ↦ empty-key key empty some
      | plain is same ↦ strip_prefix_char 125 behind None c.in_default.ensures.cases (omega arith) rest same
      | fallback default more is same quoted ↦ strip_prefix_char 44 behind None c.in_err-strip_prefix.ensures.cases (omega arith) more same
    ]
    )

pub returns-in_err-default : goal.returns-in_err-default
returns-in_err-default c =
    let key = c.cut_key.result.0.now in
    let behind = c.cut_key.result.1.now in
    let some : (length key == 0) ≡ false = sym c.is_empty.ensures ∙ c.if-is_empty.false in
    let comma = strip_prefix_char 44 behind (Some c.in_ok-strip_prefix.field-0) c.in_ok-strip_prefix.ensures.cases (omega arith) in
    rw c.from_residual-in_err-default.ensures
    (
    λ piece rest has.
    elim (form_cut c.args.text.now key behind c.cut_key.ensures piece rest has) [
      | literal d empty is ↦ empty-key key empty some
      | plain is same ↦ strip_prefix_char 125 behind None c.in_default.ensures.cases (omega arith) rest same
      | fallback default more is same quoted ↦ (
          let both : 44 ∷ more ≡ 44 ∷ c.in_ok-strip_prefix.field-0.now = sym same ∙ comma in
          let P : List ℕ → Type 0 = λ t. IsQuoted t default rest in
          c.in_err-default.ensures default rest (subst P (let tails : more ≡ c.in_ok-strip_prefix.field-0.now = cc in tails) quoted)
          )
    ]
    )
