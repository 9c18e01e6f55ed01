use Rattle.std.proofs.Common.{◌≡◌, ◌<◌, List, All, [], None, get_or, length, subst, sym}
use Rattle.iam_open.specs.Code.Pairs.{IsKept, IsPairAt}
use Rattle.iam_open.specs.declared.pair.Pair.{Pair}
use Rattle.iam_open.proofs.kept.Kept.of.Goals as goal

pub returns-then-is_of : goal.returns-then-is_of
returns-then-is_of c = λ world kept.
    let pair = c.in-Some.pair.now in
    let pairs = c.deref.result.now in
    let same = c.is_of.ensures.0 c.if-is_of.true in
    let found = c.in-Some.ensures.lookup in
    let place = c.place.result in
    let at : pair ≡ get_or pairs place pair = found.1 in
    let below : place < length pairs = found.3.0 in
    let all : All (IsKept world) pairs = subst (λ (xs : List Pair). All (IsKept world) xs) (sym c.deref.ensures.value) kept in
    let is : IsKept world pair = subst (IsKept world) (sym at) (all place pair below) in
    subst (λ p. IsPairAt world p c.args.r [] None pair) same.0 (subst (λ r. IsPairAt world pair.principal r [] None pair) same.1 is)
