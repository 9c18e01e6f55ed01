use Rattle.std.proofs.Common.{◌≡◌, ◌∙◌, ◌∷◌, ◌++◌, ap, sym, arith, replicate, None, Some}
use Rattle.std.proofs.lemmas.Str.Pattern.{split_after, split_parts, strip_prefix_char}
use Rattle.iam_text.proofs.FormLemmas.{absent, all_absent, quoted_behind}
use Rattle.iam_text.proofs.form.quoted.Goals as goal

pub returns-in_err-inside : goal.returns-in_err-inside
returns-in_err-inside c =
    rw c.from_residual.ensures
    (
    λ default rest q.
    let quote = quoted_behind c.args.text.now c.without_spaces.result.now default rest c.without_spaces.ensures.spaces.0 c.without_spaces.ensures.spaces.1 c.without_spaces.ensures.none q in
    strip_prefix_char 39 c.without_spaces.result.now None c.in_err-inside.ensures.cases (omega arith) (default ++ (39 ∷ (125 ∷ rest))) quote.1
    )

pub returns-in_err-default : goal.returns-in_err-default
returns-in_err-default c =
    rw c.from_residual-in_err-default.ensures
    (
    λ default rest q.
    let quote = quoted_behind c.args.text.now c.without_spaces.result.now default rest c.without_spaces.ensures.spaces.0 c.without_spaces.ensures.spaces.1 c.without_spaces.ensures.none q in
    let stripped = strip_prefix_char 39 c.without_spaces.result.now (Some c.in_ok-inside.inside) c.in_ok-inside.ensures.cases (omega arith) in
    let inside : c.in_ok-inside.inside.now ≡ default ++ (39 ∷ (125 ∷ rest)) =
    (let both : 39 ∷ c.in_ok-inside.inside.now ≡ 39 ∷ (default ++ (39 ∷ (125 ∷ rest))) = sym stripped ∙ quote.1 in cc) in
    split_after 39 c.in_ok-inside.inside.now default (125 ∷ rest) None c.in_err-default.ensures.cases (omega arith) inside (absent 39 default quote.0)
    )

pub returns-in_err-rest : goal.returns-in_err-rest
returns-in_err-rest c =
    rw c.from_residual-in_err-rest.ensures
    (
    λ default rest q.
    let quote = quoted_behind c.args.text.now c.without_spaces.result.now default rest c.without_spaces.ensures.spaces.0 c.without_spaces.ensures.spaces.1 c.without_spaces.ensures.none q in
    let stripped = strip_prefix_char 39 c.without_spaces.result.now (Some c.in_ok-inside.inside) c.in_ok-inside.ensures.cases (omega arith) in
    let inside : c.in_ok-inside.inside.now ≡ default ++ (39 ∷ (125 ∷ rest)) =
    (let both : 39 ∷ c.in_ok-inside.inside.now ≡ 39 ∷ (default ++ (39 ∷ (125 ∷ rest))) = sym stripped ∙ quote.1 in cc) in
    let cut =
    split_after 39 c.in_ok-inside.inside.now default (125 ∷ rest) (Some (c.in_ok-default.default, c.in_ok-default.behind)) c.in_ok-default.ensures.cases
    (omega arith) inside (absent 39 default quote.0) in
    strip_prefix_char 125 c.in_ok-default.behind.now None c.in_err-rest.ensures.cases (omega arith) rest cut.1
    )

pub returns : goal.returns
returns c =
    let spaces = c.without_spaces.ensures.spaces in
    let stripped = strip_prefix_char 39 c.without_spaces.result.now (Some c.in_ok-inside.inside) c.in_ok-inside.ensures.cases (omega arith) in
    let cut = split_parts 39 c.in_ok-inside.inside.now (Some (c.in_ok-default.default, c.in_ok-default.behind)) c.in_ok-default.ensures.cases (omega arith) in
    let closed = strip_prefix_char 125 c.in_ok-default.behind.now (Some c.in_ok-rest.rest) c.in_ok-rest.ensures.cases (omega arith) in (
      spaces.0,
      all_absent 39 c.in_ok-default.default.now cut.1,
      spaces.1
          ∙ ap (λ t. replicate spaces.0 32 ++ t)
          (stripped ∙ ap (λ t. 39 ∷ t) (cut.0 ∙ ap (λ t. c.in_ok-default.default.now ++ (39 ∷ t)) closed)),
    )
