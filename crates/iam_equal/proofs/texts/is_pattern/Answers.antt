use Rattle.std.proofs.Common.{◌≡◌, ◌↔◌, ◌∙◌, List, IsTrue, ap, map, refl, subst, sym}
use Rattle.std.specs.Str.{chars}
use Rattle.iam_glob.specs.Glob.{sign_of}
use Rattle.iam_glob.specs.declared.sign.Sign.{Sign}
use Rattle.iam_text.specs.Draft.{plain_draft}
use Rattle.iam_equal.proofs.PieceLemmas.{form_in_one, plain_told}
use Rattle.iam_equal.proofs.texts.is_pattern.Goals as goal

pub returns-in-None : goal.returns-in-None
returns-in-None c =
    let draft = c.args.draft.now in
    let glob = c.args.glob.now in
    let plain = c.left_as_plain.result in
    let signs = map (sign_of plain.wild) (chars plain.text.now) in
    let Tells : List Sign → Type 0 = λ s. IsTrue c.has_signs.result ↔ signs ≡ s in
    plain_told c.has_signs.result (draft ≡ plain_draft glob) draft (plain_draft glob) signs glob (λ e. e, λ e. e)
    (sym c.stretches-left.ensures ∙ c.in-None.ensures ∙ ap plain_draft (sym c.left_as_plain.ensures)) refl
    (subst Tells c.signs.ensures c.has_signs.ensures)

pub returns-in-Some : goal.returns-in-Some
returns-in-Some c =
    let draft = c.args.draft.now in
    let glob = c.args.glob.now in
    let found = c.in-Some.field-0 in
    let front = map (sign_of c.stretches-left.result.wild) (chars found.0.now) in
    form_in_one (draft ≡ plain_draft glob) draft (plain_draft glob) front glob found.1 found.2.pieces
    (λ e. e, λ e. e) (sym c.stretches-left.ensures ∙ c.in-Some.ensures.0) refl
