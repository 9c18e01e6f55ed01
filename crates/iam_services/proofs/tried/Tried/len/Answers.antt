use Rattle.std.proofs.Common.{◌∙◌, sym, ap, length}
use Rattle.std.proofs.lemmas.List.FromFn.{length-range_with_len}
use Rattle.iam_services.specs.Services.{numbers_of}
use Rattle.iam_services.specs.declared.tried.Tried.{Tried}
use Rattle.iam_services.proofs.tried.Tried.len.Goals as goal

pub returns-in-All : goal.returns-in-All
returns-in-All c = sym (ap (λ (t : Tried). length (numbers_of t)) c.in-All.is ∙ length-range_with_len 0 c.in-All.count)
