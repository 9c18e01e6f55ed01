-- The pattern of a text with `*` in place of its forms.
use Rattle.std.proofs.Common.{◌≡◌, zero, suc, arith, List, [], ◌∷◌, ◌++◌, append_assoc, map, refl, sym, ap, ◌∙◌, true}
use Rattle.std.proofs.lemmas.List.{map-append}
use Rattle.std.proofs.lemmas.Str.{chars-IsAscii}
use Rattle.std.specs.Str.{IsAscii, chars}
use Rattle.iam_glob.specs.Glob.{sign_of}
use Rattle.iam_glob.specs.declared.sign.Sign.{Sign}
use Rattle.iam_glob.specs.declared.sign.Sign.TheVariants.{Any}
use Rattle.iam_text.specs.declared.draft.Piece.{Piece}
use Rattle.iam_text.specs.declared.form.Form.{Form}
use Rattle.iam_text.specs.declared.form.Form.TheVariants.{Literal, Named}
use Rattle.iam_text.specs.Draft.{plain_draft}
use Rattle.iam_text.specs.Stretches.{piece_of}
use Rattle.iam_context.specs.Wide.{wide_of, wide_sign}

-- plain text stays
pub wide_plain : (signs : List Sign) → wide_of (plain_draft signs) ≡ signs
wide_plain [] = refl
wide_plain (sign ∷ signs) = ap (λ (ss : List Sign). sign ∷ ss) (wide_plain signs)

form_any : (form : Form) → wide_sign (piece_of form) ≡ Any
form_any (Literal c) = refl
form_any (Named key default) = refl

-- over plain text and the form behind it
pub wide_step : (before fronted grown front : List Sign) (pieces rest : List Piece) (form : Form) → pieces ≡ plain_draft front ++ (piece_of form ∷ rest)
    → fronted ≡ before ++ front → grown ≡ fronted ++ (Any ∷ []) → before ++ wide_of pieces ≡ grown ++ wide_of rest
wide_step before fronted grown front pieces rest form is first second =
    ap (λ ps. before ++ wide_of ps) is
    ∙ ap (λ (ss : List Sign). before ++ ss) (map-append wide_sign (plain_draft front) (piece_of form ∷ rest))
    ∙ ap (λ (ss : List Sign). before ++ (ss ++ (wide_sign (piece_of form) ∷ wide_of rest))) (wide_plain front)
    ∙ ap (λ (s : Sign). before ++ (front ++ (s ∷ wide_of rest))) (form_any form)
    ∙ sym (append_assoc before front (Any ∷ wide_of rest))
    ∙ ap (λ (ss : List Sign). ss ++ (Any ∷ wide_of rest)) (sym first)
    ∙ sym (append_assoc fronted (Any ∷ []) (wide_of rest))
    ∙ ap (λ (ss : List Sign). ss ++ wide_of rest) (sym second)

-- over plain text that is all
pub wide_end : (before grown last : List Sign) (pieces : List Piece) → pieces ≡ plain_draft last → grown ≡ before ++ last
    → before ++ wide_of pieces ≡ grown
wide_end before grown last pieces is added =
    ap (λ ps. before ++ wide_of ps) is ∙ ap (λ (ss : List Sign). before ++ ss) (wide_plain last) ∙ sym added

star_ascii : IsAscii (42 ∷ [])
star_ascii zero = omega arith
star_ascii (suc i) = omega arith

-- `*` is any run where wildcards stand
pub star : map (sign_of true) (chars (42 ∷ [])) ≡ Any ∷ []
star = ap (map (sign_of true)) (chars-IsAscii (42 ∷ []) star_ascii)
