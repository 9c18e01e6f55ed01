use Rattle.std.proofs.Common.{◌∷◌, ◌++◌, map}
use Rattle.std.proofs.lemmas.List.{nil_from_length}
use Rattle.iam_glob.specs.Code.Walk.{Later, Walks}
use Rattle.iam_glob.specs.Glob.{plain_sign}
use Rattle.iam_glob.specs.declared.sign.Sign.TheVariants.{Any}
use Rattle.iam_glob.proofs.CompiledLemmas.{first_piece, later_piece, no_piece}
use Rattle.iam_glob.proofs.compiled.behind_first.Goals as goal

pub returns-in-Some-clause-some : goal.returns-in-Some-clause-some
returns-in-Some-clause-some c = λ signs.
    first_piece c.args.piece.now signs c.in-Some.rest.now c.loop-rest.left.now
    (Later (Walks (λ d. d) (map plain_sign c.args.piece.now ++ (Any ∷ signs))) c.args.text.now) c.in-Some.ensures (c.loop-rest.invariant signs)

pub loop-rest-preserved : goal.loop-rest-preserved
loop-rest-preserved c = λ signs.
    later_piece c.args.piece.now signs c.loop-rest.left.now c.in-Some-split_first.rest.now _
    (Later (Walks (λ d. d) (map plain_sign c.args.piece.now ++ (Any ∷ signs))) c.args.text.now) c.in_default.ensures
    c.in-Some-split_first.ensures.cases.0 (c.loop-rest.invariant signs)

pub returns-in-None-clause-none : goal.returns-in-None-clause-none
returns-in-None-clause-none c = λ signs.
    no_piece c.args.piece.now signs c.loop-rest.left.now
    (Later (Walks (λ d. d) (map plain_sign c.args.piece.now ++ (Any ∷ signs))) c.args.text.now) c.in_default.ensures
    (nil_from_length c.loop-rest.left.now c.in-None.ensures.cases) (c.loop-rest.invariant signs)
