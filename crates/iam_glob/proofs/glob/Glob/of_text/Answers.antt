use Rattle.std.proofs.Common.{◌∙◌, ap, map, sym}
use Rattle.std.proofs.lemmas.Str.{chars-IsAscii}
use Rattle.iam_glob.specs.Code.Globs.{kept_signs}
use Rattle.iam_glob.specs.Glob.{sign_of}
use Rattle.iam_glob.proofs.glob.Glob.of_text.Goals as goal
use Rattle.iam_glob.proofs.glob.Glob.of_text.Goals.{then-is_ascii+in_ok-kind, else-is_ascii+in_ok-read_signs}

pub returns : goal.returns
returns c = elim c.if-is_ascii.branch [
  | then-is_ascii+in_ok-kind w ↦
      ap kept_signs w.kind-is ∙ w.in_ok-kind.ensures
      ∙ ap (λ t. map (sign_of c.args.wild) t) (w.as_bytes.ensures.value ∙ sym (chars-IsAscii c.args.text.now w.if-is_ascii.ensures.cases))
  | else-is_ascii+in_ok-read_signs w ↦ ap kept_signs w.kind-is ∙ w.in_ok-read_signs.ensures
]
