use Rattle.std.proofs.Common.{◌∙◌, length, ap, sym}
use Rattle.iam_changes.specs.Code.Pieces.{PartValue}
use Rattle.iam_changes.proofs.Placed.{length_placed}
use Rattle.iam_changes.proofs.part.Part.len.Goals as goal

pub returns : goal.returns
returns c =
    let own = c.self.inside in
    c.len.ensures ∙ sym (length_placed own.from own.gaps own.tile c.self.invariant.0) ∙ ap (λ (part : PartValue). length part.rows) c.self.view_is
