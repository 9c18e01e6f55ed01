use Rattle.std.proofs.Common.{◌++◌, ◌∙◌, List, ℕ, ap, arith, take}
use Rattle.iam_report.proofs.Blocks.{front_put}
use Rattle.iam_report.proofs.block.Block.put_front.Goals as goal

pub returns : goal.returns
returns g c =
    let block = c.self.inside in
    front_put block.bytes c.copy_chunk.new.place c.args.bytes.now block.filled _ g.row.N c.args.count (omega (arith, c.self.invariant, c.self.told))
    c.copy_chunk.ensures c.requires.least c.requires.count
    ∙ ap (λ (l : List ℕ). l ++ take c.args.count c.args.bytes.now) c.self.view_is
