use Rattle.std.proofs.Common.{◌≤◌, ◌∙◌, ap, arith, drop, length, sym}
use Rattle.std.proofs.lemmas.List.{drop_all}
use Rattle.iam_glob.specs.Signs.{signs_in}
use Rattle.iam_every.specs.Telling.{are_apart}
use Rattle.iam_every.proofs.TellingLemmas.{apart_end}
use Rattle.iam_every.proofs.telling.are_apart.Goals as goal

pub returns-then-i-len : goal.returns-then-i-len
returns-then-i-len c =
    let i = c.loop-i.i in
    let left = drop i (signs_in c.args.one) in
    let beyond : length (signs_in c.args.other) ≤ i = omega (arith, c.if-i-len.true, c.len.ensures) in
    sym (apart_end left) ∙ ap (are_apart left) (sym (drop_all i (signs_in c.args.other) beyond)) ∙ c.loop-i.invariant
