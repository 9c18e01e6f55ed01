use Rattle.std.proofs.Common.{List, ◌∙◌, ap, map}
use Rattle.iam_decision.specs.declared.verdict.Verdict.{Verdict}
use Rattle.iam_tiles.specs.Code.Numbered.{no_tail, no_verdict, picked}
use Rattle.iam_row.specs.Piece.{tail_of}
use Rattle.iam_row.specs.declared.tail.Tail.{Tail}
use Rattle.iam_tiles.proofs.Picks.{picked_images}
use Rattle.iam_tiles.proofs.verdicts.Kept+Verdict.tile.Goals as goal

pub returns : goal.returns
returns c =
    let f : Verdict → Tail = tail_of c.args.format c.args.brief in
    ap (λ (tails : List Tail). picked no_tail tails c.parts-distinct.result.1) (c.in_ok-tails.ensures ∙ ap (map f) c.as_slice.ensures.value)
    ∙ picked_images f no_verdict no_tail c.parts-distinct.result.0.items c.parts-distinct.result.1 c.parts-distinct.ensures.known
    ∙ ap (map f) c.parts-distinct.ensures.items
