use Rattle.std.proofs.Common.{◌<◌, ◌∙◌, length, ap, sym, arith}
use Rattle.iam_tiles.specs.Code.Numbered.{no_tail}
use Rattle.iam_changes.specs.Code.Kept.{row_at}
use Rattle.iam_changes.specs.Code.Pieces.{PartValue}
use Rattle.iam_changes.proofs.Placed.{length_placed, placed_item}
use Rattle.iam_changes.proofs.part.Part.tail.Goals as goal

pub tail-requires : goal.tail-requires
tail-requires c =
    let own = c.self.inside in
    let count = length_placed own.from own.gaps own.tile c.self.invariant.0 in
    let same = ap (λ (v : PartValue). length v.rows) c.self.view_is in
    omega (arith, c.requires, count, same)

pub returns : goal.returns
returns c =
    let own = c.self.inside in
    let count = length_placed own.from own.gaps own.tile c.self.invariant.0 in
    let same = ap (λ (v : PartValue). length v.rows) c.self.view_is in
    let inside : c.args.i < length own.tile = omega (arith, c.requires, count, same) in
    c.tail.ensures ∙ sym (placed_item own.from own.gaps own.tile c.args.i (0, no_tail) c.self.invariant.0 inside)
    ∙ ap (λ (v : PartValue). (row_at v c.args.i).1) c.self.view_is
