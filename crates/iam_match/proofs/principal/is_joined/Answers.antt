use Rattle.std.proofs.Common.{◌∙◌, sym, ap, map, drop, ◌++◌, ◌+◌, get_or, Bor, ℕ, List, [], rules}
use Rattle.std.specs.List.{concat}
use Rattle.std.specs.Str.{bytes_eq}
use Rattle.iam_match.proofs.JoinLemmas.{join_other, join_same, pieces_from}
use Rattle.iam_match.proofs.principal.is_joined.Goals as goal

pub returns-in-None : goal.returns-in-None
returns-in-None c =
    let left = concat (map (λ p. p.now) (drop (c.loop-piece.piece-index + 1) c.args.pieces.now)) in
    sym (
    c.loop-piece.invariant.1
    ∙ ap (bytes_eq c.loop-piece.rest.now) (pieces_from c.args.pieces.now c.loop-piece.piece-index _ c.loop-piece-test.true)
    ∙ join_other c.loop-piece.rest.now _ left c.in-None.ensures.cases
    )

pub loop-piece-preserved : goal.loop-piece-preserved
loop-piece-preserved c =
    let left = concat (map (λ p. p.now) (drop (c.loop-piece.piece-index + 1) c.args.pieces.now)) in
    let strip = c.in-Some.ensures.cases in
    let none : Bor (List ℕ) = record { ref_ptr = (0, 0); now = [] } in
    let piece = (get_or c.args.pieces.now c.loop-piece.piece-index none).now in (
      search rules,
      c.loop-piece.invariant.1
          ∙ ap (bytes_eq c.loop-piece.rest.now) (pieces_from c.args.pieces.now c.loop-piece.piece-index none c.loop-piece-test.true)
          ∙ ap (λ t. bytes_eq t (piece ++ left)) strip.1.1
          ∙ join_same piece (drop strip.0 c.loop-piece.rest.now) left
          ∙ ap (λ t. bytes_eq t left) (sym strip.2),
    )
