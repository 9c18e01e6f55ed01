use Rattle.std.proofs.Common.{map, string_bytes, ap, ◌∙◌, sym, subst}
use Rattle.iam_kinds.specs.Answers.{IsAnswer}
use Rattle.iam_kinds.specs.Shown.{AreKinds}
use Rattle.iam_kinds.proofs.KeptLemmas.{same_texts}
use Rattle.iam_kinds.proofs.walks.copied.Goals as goal

pub returns-in_ok-copied_texts-in-Shown : goal.returns-in_ok-copied_texts-in-Shown
returns-in_ok-copied_texts-in-Shown c question told =
    let (kinds, all) = subst (IsAnswer question) c.in-Shown.is told in
    let texts = c.in-Shown.texts.items in
    let copy = c.in_ok-copied_texts-in-Shown.field-0.items in (
      subst (AreKinds question) (sym (same_texts copy texts (c.in_ok-copied_texts-in-Shown.ensures ∙ ap (map string_bytes) c.deref.ensures.value))) kinds,
      all,
    )
