use Rattle.std.proofs.lemmas.Result.{err_from_is_err_and}
use Rattle.serde_json.specs.View.{view}
use Rattle.iam_asked.specs.TextLines.{SaysText, text_line_of}
use Rattle.iam_asked.proofs.TextLineFaults.{text_unknown}
use Rattle.iam_asked.proofs.texts.read_text.Goals as goal

pub returns-in_err-check_said-clause-fault : goal.returns-in_err-check_said-clause-fault
returns-in_err-check_said-clause-fault c =
    let text = text_line_of c.in_ok-text.text in
    let says : SaysText c.args.line.now text = (view c.in_ok-value.value, c.in_ok-value.ensures.ok, c.in_ok-text.ensures.ok) in
    let p = err_from_is_err_and c.from_residual-in_err-check_said.result c.from_residual-in_err-check_said.ensures.1 in
    rw (p.1, p.2)
    (λ other n few. text_unknown c.args.world.now n c.args.line.now text c.in_err-check_said.field-0.0 few says c.in_err-check_said.ensures.fault)
