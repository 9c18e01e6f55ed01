use Rattle.std.proofs.Common.{◌≡◌, ◌<◌, ◌∙◌, sym, ap, length, subst, arith, slice_index, get_or}
use Rattle.std.specs.List.{range_with_len}
use Rattle.std.proofs.lemmas.List.FromFn.{get_or-range_with_len, length-range_with_len}
use Rattle.iam_services.specs.Services.{numbers_of}
use Rattle.iam_services.specs.declared.tried.Tried.{Tried}
use Rattle.iam_services.proofs.tried.Tried.at.Goals as goal

pub returns-in-All : goal.returns-in-All
returns-in-All c =
    let n = c.in-All.field-0 in
    let i = c.args.i in
    let W : Tried → Type 0 = λ t. i < length (numbers_of t) in
    let inside = subst W c.in-All.is c.requires.within in
    let long = length-range_with_len 0 n in
    let below : i < n = omega (arith, inside, long) in
    let same : get_or (range_with_len 0 n) i 0 ≡ i = get_or-range_with_len 0 n i 0 below ∙ omega arith in
    sym (ap (λ (t : Tried). slice_index (numbers_of t) i) c.in-All.is ∙ same)
