use Rattle.std.proofs.Common.{List, All, map, subst, sym}
use Rattle.iam_open.specs.Code.Bounds.{AreBounds}
use Rattle.iam_open.specs.Code.Known.{Follows}
use Rattle.iam_open.specs.Code.Pairs.{IsChance, placed_of}
use Rattle.iam_open.specs.declared.pair.Chance.{Chance}
use Rattle.iam_open.proofs.PairLemmas.{pair_tells}
use Rattle.iam_open.proofs.pair.allowed_certain.Goals as goal

pub returns : goal.returns
returns c = λ access known a is.
    let action = c.args.action.now in
    let pair = c.args.pair.now in
    let bounds = c.in_ok-bounds.bounds in
    let lent = c.as_slice.ensures.value in
    let each = subst (λ (xs : List Chance). All (IsChance access (Follows known access.context)) xs) (sym lent) is.chances.each in
    let are = subst (λ (xs : List Chance). AreBounds access action (Follows known access.context) (map placed_of xs) bounds) lent
    (c.in_ok-bounds.ensures access known each) in
    pair_tells access known action a pair bounds c.certain.result is are c.certain.ensures.never c.certain.ensures.always
