use Rattle.std.proofs.Common.{List, ◌∙◌, ap, map}
use Rattle.iam_decision.specs.declared.verdict.Decision.{Decision}
use Rattle.iam_decision.specs.declared.verdict.Decision.TheVariants.{ImplicitDeny}
use Rattle.iam_tiles.specs.Code.Numbered.{all_decisions, no_tail, picked}
use Rattle.iam_row.specs.Piece.{brief_tail}
use Rattle.iam_row.specs.declared.tail.Tail.{Tail}
use Rattle.iam_tiles.proofs.Picks.{picked_images}
use Rattle.iam_tiles.proofs.decisions.Decisions.tile.Goals as goal

pub returns : goal.returns
returns c =
    let f : Decision → Tail = brief_tail c.args.format in
    let numbers = c.self.inside.numbers in
    ap (λ (tails : List Tail). picked no_tail tails numbers) c.in_ok-tails.ensures
    ∙ picked_images f ImplicitDeny no_tail all_decisions numbers c.self.invariant
    ∙ ap (map f) c.self.view_is
