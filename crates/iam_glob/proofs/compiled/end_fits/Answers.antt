use Rattle.std.proofs.Common.{◌++◌, ◌∷◌, ℕ, List, Some, None, map, subst, sym}
use Rattle.iam_glob.specs.Code.Compiled.{before_any}
use Rattle.iam_glob.specs.Code.Walk.{Walks}
use Rattle.iam_glob.specs.Glob.{plain_sign}
use Rattle.iam_glob.specs.declared.sign.Sign.TheVariants.{Any}
use Rattle.iam_glob.proofs.CompiledLemmas.{back_ends, back_on, stripped_back}
use Rattle.iam_glob.proofs.compiled.end_fits.Goals as goal

pub returns-in-Some : goal.returns-in-Some
returns-in-Some c =
    let signs = before_any c.args.pieces.now in
    let is = stripped_back c.args.back.now c.args.text.now (Some c.in-Some.inside) c.in-Some.ensures.cases in
    let T : List ℕ → Type 0 = λ t. Walks (λ d. d) (Any ∷ (signs ++ map plain_sign c.args.back.now)) t in
    let both = back_on c.args.back.now (Any ∷ signs) c.in-Some.inside.now in
    (λ t. subst T (sym is) (both.1 (c.pieces_fit.ensures.0 t)), λ l. c.pieces_fit.ensures.1 (both.0 (subst T is l)))

pub returns-in-None : goal.returns-in-None
returns-in-None c =
    let signs = before_any c.args.pieces.now in
    let unlike = stripped_back c.args.back.now c.args.text.now None c.in-None.ensures.cases in (
      λ t. absurd (let wrong : ⊥ = cc in wrong),
      λ l. let ends = back_ends c.args.back.now (Any ∷ signs) c.args.text.now l in absurd (unlike ends.0 ends.1),
    )
