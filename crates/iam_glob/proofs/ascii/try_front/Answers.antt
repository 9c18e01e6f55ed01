use Rattle.std.proofs.Common.{IsTrue}
use Rattle.iam_glob.specs.Code.Walk.{char_in}
use Rattle.iam_glob.specs.Signs.{signs_in}
use Rattle.iam_glob.proofs.AsciiLemmas.{begins_covers}
use Rattle.iam_glob.proofs.ascii.try_front.Goals as goal

pub returns-in-Some : goal.returns-in-Some
returns-in-Some c =
    let last = rw c.in-Some.is at c.requires in
    let covers = rw last.2 at c.covers_at.ensures in
    λ w. let wrong : IsTrue c.covers_at.result = covers.1 (begins_covers (char_in c.args.case) (signs_in c.args.signs) c.args.text.now c.in-Some.at _ last.1 w) in
    absurd (let no : ⊥ = cc in no)
