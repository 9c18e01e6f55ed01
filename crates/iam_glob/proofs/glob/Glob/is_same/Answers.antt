use Rattle.std.proofs.Common.{sym, ◌∙◌, ap}
use Rattle.iam_glob.specs.Code.Globs.{kept_signs}
use Rattle.iam_glob.proofs.SignLemmas.{same_signs}
use Rattle.iam_glob.proofs.glob.Glob.is_same.Goals as goal

pub returns-in-Listed-Listed : goal.returns-in-Listed-Listed
returns-in-Listed-Listed c = λ same.
    let ones = c.as_slice-in-Listed-Listed in
    let others = c.as_slice-in-Listed-Listed-2 in
    let equal = same_signs ones.result.now others.result.now (sym c.eq-in-Listed-Listed.ensures ∙ same) in
    sym c.self.view_is ∙ ap kept_signs c.in-Listed-Listed.is-0 ∙ sym ones.ensures.value ∙ equal ∙ others.ensures.value
    ∙ sym (ap kept_signs c.in-Listed-Listed.is-1) ∙ c.other.view_is
