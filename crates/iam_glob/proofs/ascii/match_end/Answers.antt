use Rattle.std.proofs.Common.{refl, sym, ◌∙◌, subst}
use Rattle.iam_glob.specs.Code.Walk.{char_in, Later, Walks, Settles, found_at}
use Rattle.iam_glob.specs.Signs.{signs_in}
use Rattle.iam_glob.specs.declared.ascii.Place.{Place}
use Rattle.iam_glob.proofs.WalkLemmas.{later_all}
use Rattle.iam_glob.proofs.ascii.match_end.Goals as goal

pub returns-then-is_empty : goal.returns-then-is_empty
returns-then-is_empty c =
    let f = char_in c.args.case in
    let S : Place → Type 0 = λ p. Settles f (Later (Walks f (signs_in c.args.signs)) c.args.text.now) (found_at p) in
    let same = subst S c.in-Star.is c.loop-place.invariant in
    (λ t. same.1 (later_all f (signs_in c.in-Star.signs) c.in-Star.text.now (sym c.is_empty.ensures ∙ c.if-is_empty.true)), λ w. refl)
