use Rattle.std.proofs.Common.{◌↔◌, IsTrue, IfSome, sym, subst}
use Rattle.iam_element.specs.Reading.{ActionElement}
use Rattle.iam_match.specs.Statement.{ActionMatches}
use Rattle.iam_index.proofs.numbers.acts_at.Goals as goal

pub returns : goal.returns
returns c = λ world statements right numbered at asked.
    let action = c.args.action.now in
    let told = c.told_at-told.ensures world statements c.args.standing action right numbered at asked in
    let T : ActionElement → Type 0 = λ e. IfSome c.told_at-told.result (λ act. IsTrue act ↔ ActionMatches e action) in
    let A : ActionElement → Type 0 = λ e. IsTrue c.acts.result ↔ ActionMatches e action in
    subst A c.action.ensures (c.acts.ensures (subst T (sym c.action.ensures) told))
