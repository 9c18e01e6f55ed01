use Rattle.std.proofs.Common.{◌∙◌, ap, subst}
use Rattle.std.proofs.lemmas.Result.{MatchResult-weaker}
use Rattle.serde_json.specs.View.{view}
use Rattle.iam_asked.specs.Code.Reading.{IsUnfound}
use Rattle.iam_asked.specs.Request.{RequestsValue}
use Rattle.iam_asked.proofs.Meanings.{unfound_fault}
use Rattle.iam_asked.proofs.reading.Reading.find.Goals as goal

pub returns-clause-fault : goal.returns-clause-fault
returns-clause-fault c =
    let d = view c.in_ok-value.value in
    let world = c.self.invariant ∙ ap (λ (v : RequestsValue). v.world) c.self.view_is in
    let read = c.in_ok-value.ensures.ok in
    MatchResult-weaker c.find_said.result c.find_said.ensures.fault (λ _ _. tt)
    (λ fault un other few. unfound_fault c.args.self.now c.args.line.now d fault few read.0 read.1 (subst (λ w. IsUnfound w d fault) world (un other)))
