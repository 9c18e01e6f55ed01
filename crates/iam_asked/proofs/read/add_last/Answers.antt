use Rattle.std.proofs.Common.{◌≢◌, ◌==◌, ◌∙◌, [], ap, length, subst, sym}
use Rattle.std.proofs.lemmas.Result.{MatchResult-weaker}
use Rattle.iam_asked.specs.File.{AreRequests, lines_of}
use Rattle.iam_asked.proofs.Cutting.{end_last, fault_of_last}
use Rattle.iam_asked.proofs.read.add_last.Goals as goal

some : (c : goal.After-add_line) → c.args.rest.now ≢ []
some c = λ none.
    let empty = ap (λ rest. length rest == 0) none in
    let not_empty = sym c.is_empty.ensures ∙ c.if-is_empty.false in
    let wrong : ⊥ = cc in wrong

pub returns-clause-ok : goal.returns-clause-ok
returns-clause-ok c =
    let rest = c.args.rest.now in
    let reading = c.args.reading.now in
    MatchResult-weaker c.add_line.result c.add_line.ensures.ok
    (λ _ added bytes has. subst (AreRequests (lines_of bytes)) (sym added.2) (end_last bytes rest reading added.0 has (some c) added.1)) (λ _ _. tt)

pub returns-clause-fault : goal.returns-clause-fault
returns-clause-fault c =
    MatchResult-weaker c.add_line.result c.add_line.ensures.fault (λ _ _. tt)
    (λ fault is bytes has. fault_of_last bytes c.args.rest.now c.args.reading.now fault has (some c) is)
