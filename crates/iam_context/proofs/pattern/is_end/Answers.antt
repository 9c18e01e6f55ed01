use Rattle.std.proofs.Common.{◌≡◌, ℕ, List, [], ap, map, sym, ◌∙◌}
use Rattle.std.proofs.lemmas.Bool.{eqb-true}
use Rattle.std.proofs.lemmas.List.{nil_from_length}
use Rattle.std.proofs.lemmas.Str.{chars-nil}
use Rattle.std.specs.Str.{chars}
use Rattle.iam_glob.specs.Glob.{sign_of}
use Rattle.iam_text.specs.Draft.{plain_draft}
use Rattle.iam_context.proofs.pattern.is_end.Goals as goal

pub returns-in-None : goal.returns-in-None
returns-in-None c = λ told.
    let pieces = λ (characters : List ℕ). plain_draft (map (sign_of c.args.left.now.wild) characters) in
    let empty : c.text.result.now ≡ [] = nil_from_length c.text.result.now (eqb-true _ 0 (sym c.is_empty.ensures ∙ told)) in
    c.in-None.ensures ∙ ap (λ text. pieces (chars text)) (sym c.text.ensures ∙ empty) ∙ ap pieces chars-nil
