use Rattle.std.proofs.Common.{◌+◌, ◌≤◌, ℕ, List, arith, drop, length, subst, sym, refl}
use Rattle.std.proofs.lemmas.List.{drop_all}
use Rattle.std.specs.Borrow.{Bor}
use Rattle.iam_glob.specs.Code.Compiled.{before_any}
use Rattle.iam_glob.specs.Code.Walk.{Later, Walks}
use Rattle.iam_glob.specs.declared.sign.Sign.{Sign}
use Rattle.iam_glob.proofs.CompiledLemmas.{pieces_at}
use Rattle.iam_glob.proofs.WalkLemmas.{later_end}
use Rattle.iam_glob.proofs.compiled.pieces_fit.Goals as goal

pub returns-in-None : goal.returns-in-None
returns-in-None c =
    let S : List Sign → Type 0 = λ s. Later (Walks (λ d. d) s) c.loop-piece.rest.now in
    let pieces = c.args.pieces.now in
    let split = pieces_at pieces c.loop-piece.piece-index _ c.loop-piece-test.true in (
      λ t. absurd (let wrong : ⊥ = cc in wrong),
      λ l. absurd (c.in-None.ensures.none (before_any (drop (c.loop-piece.piece-index + 1) pieces)) (subst S split (c.loop-piece.invariant.0 l))),
    )

pub loop-piece-preserved : goal.loop-piece-preserved
loop-piece-preserved c =
    let S : List Sign → Type 0 = λ s. Later (Walks (λ d. d) s) c.loop-piece.rest.now in
    let pieces = c.args.pieces.now in
    let split = pieces_at pieces c.loop-piece.piece-index _ c.loop-piece-test.true in
    let on = c.in-Some.ensures.some (before_any (drop (c.loop-piece.piece-index + 1) pieces)) in
    (λ l. on.0 (subst S split (c.loop-piece.invariant.0 l)), λ l. c.loop-piece.invariant.1 (subst S (sym split) (on.1 l)))

pub returns : goal.returns
returns c =
    let pieces = c.args.pieces.now in
    let over : length pieces ≤ c.loop-piece.piece-index = omega arith in
    let S : List (Bor (List ℕ)) → Type 0 = λ ps. Later (Walks (λ d. d) (before_any ps)) c.loop-piece.rest.now in
    (λ t. c.loop-piece.invariant.1 (subst S (sym (drop_all c.loop-piece.piece-index pieces over)) (later_end (λ d. d) c.loop-piece.rest.now)), λ l. refl)
