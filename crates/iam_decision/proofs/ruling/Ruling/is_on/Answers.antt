use Rattle.std.proofs.Common.{List, sym, subst, ◌∙◌}
use Rattle.iam_decision.specs.Ruling.{Follows, IsRuling, RulingValue}
use Rattle.iam_decision.specs.declared.frame.Frame.{Frame}
use Rattle.iam_decision.specs.declared.living.Matched.{Matched}
use Rattle.iam_decision.proofs.ruling.Ruling.is_on.Goals as goal

pub returns-then-is_same : goal.returns-then-is_same
returns-then-is_same c = λ same.
    let verdict = c.self.inside.verdict in
    let one = c.is_same.ensures c.if-is_same.true in
    let all = sym c.as_slice.ensures.value ∙ c.are_same.ensures same in
    let F : Frame → Type 0 = λ frame. Follows frame c.self.inside.found.items verdict in
    let G : List Matched → Type 0 = λ found. Follows c.args.frame found verdict in
    let R : RulingValue → Type 0 = IsRuling c.args.frame c.args.found.now in
    subst R c.self.view_is (record { frame_is = one; found_is = all; follows = subst G all (subst F one c.self.invariant) })
