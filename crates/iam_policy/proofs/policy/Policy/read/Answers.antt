use Rattle.std.proofs.Common.{sym, ◌∙◌, ap, subst, Some}
use Rattle.std.proofs.lemmas.Result.{err_from_is_err_and}
use Rattle.std.specs.List.{AllZip}
use Rattle.serde_json.specs.View.{view}
use Rattle.iam_text.specs.declared.version.Version.{Version}
use Rattle.iam_policy.specs.Fault.{statements_in}
use Rattle.iam_policy.specs.Reading.{ReadsStatement}
use Rattle.iam_policy.proofs.FaultLaws.{document_least, refused_least, accepted, version_is}
use Rattle.iam_policy.proofs.policy.Policy.read.Goals as goal

pub returns-in-Some-clause-least : goal.returns-in-Some-clause-least
returns-in-Some-clause-least c = λ _.
    document_least c.args.kind (view c.args.value.now) c.in-Some.fault (sym c.document_fault.ensures ∙ c.in-Some.is)

pub returns-in_err-statements-clause-least : goal.returns-in_err-statements-clause-least
returns-in_err-statements-clause-least c =
    let p = err_from_is_err_and c.from_residual.result c.from_residual.ensures.1 in
    rw (p.1, p.2)
    (λ known. refused_least c.args.kind (view c.args.value.now) c.in_err-statements.field-0.0 (sym c.document_fault.ensures ∙ c.in_default.is)
    (c.in_err-statements.ensures.first known))

pub returns-clause-ok : goal.returns-clause-ok
returns-clause-ok c =
    let d = view c.args.value.now in
    let none = accepted c.args.kind d (sym c.document_fault.ensures ∙ c.in_default.is) c.in_ok-statements.ensures.clean in
    let P : Version → Type 0 = λ v. AllZip (ReadsStatement v) (statements_in d) c.in_ok-statements.statements.items in
    record {
      accepted = none;
      version = version_is c.args.kind d none ∙ ap Some (sym c.version_of.ensures);
      statements = subst P (sym c.version_of.ensures) c.in_ok-statements.ensures.read;
    }
