use Rattle.std.proofs.Common.{◌<◌, ◌∙◌, arith}
use Rattle.std.proofs.lemmas.List.FromFn.{get_or-range_with_len, length-range_with_len}
use Rattle.std.proofs.lemmas.Option.{slice_get_within}
use Rattle.iam_services.proofs.services.Services.tried.Goals as goal

pub returns-in-None : goal.returns-in-None
returns-in-None c = λ actions long are a action at matched.
    let n = c.args.count in
    let within = slice_get_within actions a action at in
    let below : a < n = omega (arith, within, long) in
    let all = length-range_with_len 0 n in
    (a, omega (arith, below, all), get_or-range_with_len 0 n a a below ∙ omega arith)
