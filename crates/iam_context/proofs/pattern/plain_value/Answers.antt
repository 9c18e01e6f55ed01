use Rattle.std.proofs.Common.{◌≡◌, Some, map, option_map, sym, ap, ◌∙◌, subst}
use Rattle.std.specs.Str.{chars}
use Rattle.iam_text.specs.declared.form.Form.{Form}
use Rattle.iam_glob.specs.Glob.{plain_sign, sign_of}
use Rattle.iam_text.specs.Stretches.{piece_of}
use Rattle.iam_context.specs.Context.{values_of}
use Rattle.iam_context.specs.Resolve.{one_or, piece_signs}
use Rattle.iam_context.proofs.Wildcards.{plain_signs}
use Rattle.iam_context.proofs.pattern.plain_value.Goals as goal

pub returns-then-has_no_wildcard : goal.returns-then-has_no_wildcard
returns-then-has_no_wildcard c = λ wild.
    let value = c.in_ok-value.value.now in
    let context = c.args.context.now in
    let default = option_map (λ d. d.now) c.in-Named.default in
    let P : Form → Type 0 = λ f. piece_signs context (piece_of f) ≡ Some (map (sign_of wild) (chars value)) in
    let found : one_or (values_of context c.in-Named.key.now) default ≡ Some value = ap (λ vs. one_or vs default) (sym c.values.ensures) ∙ sym c.in_ok-value.ensures in
    subst P (sym c.in-Named.is)
    (ap (option_map (λ v. map plain_sign (chars v))) found
    ∙ ap (λ ss. Some ss) (plain_signs wild (chars value) (sym c.has_no_wildcard.ensures ∙ c.if-has_no_wildcard.true)))
