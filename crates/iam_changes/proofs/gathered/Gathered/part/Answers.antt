use Rattle.std.proofs.Common.{◌≡◌, List, map, ap, ◌∙◌}
use Rattle.iam_tiles.specs.Code.Numbered.{no_tail, picked}
use Rattle.iam_changes.proofs.Placed.{picked_images}
use Rattle.iam_row.specs.declared.tail.Tail.{Tail}
use Rattle.iam_changes.specs.Code.Kept.{GatheredValue, no_pair, part_row, placed}
use Rattle.iam_changes.specs.Code.Pieces.{PartValue, pair_tail}
use Rattle.iam_changes.specs.declared.pair.Pair.{Pair}
use Rattle.iam_changes.proofs.Placed.{placed_images}
use Rattle.iam_changes.proofs.gathered.Gathered.part.Goals as goal

pub returns : goal.returns
returns c =
    let own = c.self.inside in
    let f : Pair → Tail = pair_tail c.args.format c.args.brief in
    let numbers = c.parts-distinct.result.1 in
    let tile : c.of.result ≡ map f own.pairs =
    c.of.ensures ∙ ap (λ (tails : List Tail). picked no_tail tails numbers) (c.in_ok-tails.ensures ∙ ap (map f) c.as_slice.ensures.value)
    ∙ picked_images f no_pair no_tail c.parts-distinct.result.0.items numbers c.parts-distinct.ensures.known ∙ ap (map f) c.parts-distinct.ensures.items in (
      ap (λ (v : PartValue). v.rows) c.of-2.ensures ∙ ap (λ (tails : List Tail). placed own.from own.gaps tails) tile ∙ placed_images f own.from own.gaps own.pairs
          ∙ ap (λ (v : GatheredValue). map (part_row c.args.format c.args.brief) v.rows) c.self.view_is,
      ap (λ (v : PartValue). v.kinds) c.of-2.ensures ∙ ap (λ (v : GatheredValue). v.kinds) c.self.view_is,
    )
