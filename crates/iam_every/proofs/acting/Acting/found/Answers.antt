use Rattle.std.proofs.Common.{◌≡◌, List, Some, subst}
use Rattle.std.specs.List.{slice_get}
use Rattle.iam_every.specs.declared.acting.ElementActs.{ElementActs}
use Rattle.iam_every.proofs.acting.Acting.found.Goals as goal

pub returns-in-Some : goal.returns-in-Some
returns-in-Some c =
    let (one, at, same) = c.is_at.ensures c.if-is_at.true in
    (one, subst (λ (l : List ElementActs). slice_get l c.in-Some.field-0.now ≡ Some one) c.as_slice.ensures.value at, same)
