use Rattle.std.proofs.Common.{◌∙◌, List, Option, ℕ, ap, codes, map, subst, sym, unwrap_or}
use Rattle.std.proofs.lemmas.Result.{MatchResult-weaker}
use Rattle.std.specs.List.{AllZip}
use Rattle.iam_asked.specs.TextLines.{text_line_of}
use Rattle.iam_every.specs.declared.asked.Line.{Line}
use Rattle.iam_every_changes.specs.Compared.{ComparedValue, compared_of}
use Rattle.iam_app.specs.Code.Naming.{IsLent}
use Rattle.iam_app.specs.EveryChanges.{AreAskedOf}
use Rattle.iam_app.proofs.ComparingLemmas.{are_asked, can_compare, not_compared, same_patterns}
use Rattle.iam_app.proofs.every_changes.report_of.Goals as goal

pub lent_lines-requires : goal.lent_lines-requires
lent_lines-requires g c =
    c.as_slice.ensures.value ∙ c.in_ok-texts.ensures
    ∙ sym (same_patterns c.args.before.now c.args.after.now c.args.lines.now c.args.were.now c.requires.said)

pub report_on-requires-clause-compared : goal.report_on-requires-clause-compared
report_on-requires-clause-compared g c κs within =
    let were = c.args.were.now in
    let lines = c.args.lines.now in
    let are_was = subst (λ (lent : List Line). AllZip IsLent were lent) (sym c.as_slice-3.ensures.value) c.in_ok-was.ensures in
    let are_now = subst (λ (lent : List Line). AllZip IsLent lines lent) (sym c.as_slice-4.ensures.value) c.in_ok-now.ensures in
    can_compare c.args.before.now c.args.after.now lines were c.as_slice-3.result.now c.as_slice-4.result.now c.which_of.result c.which_of-2.result
    c.requires.apart_before c.requires.apart_after c.requires.known c.requires.said are_was are_now
    (c.which_of.ensures.pattern ∙ sym c.which_of-2.ensures.pattern)

pub returns-clause-ok : goal.returns-clause-ok
returns-clause-ok g c =
    let were = c.args.were.now in
    let lines = c.args.lines.now in
    let are_was = subst (λ (lent : List Line). AllZip IsLent were lent) (sym c.as_slice-3.ensures.value) c.in_ok-was.ensures in
    let are_now = subst (λ (lent : List Line). AllZip IsLent lines lent) (sym c.as_slice-4.ensures.value) c.in_ok-now.ensures in
    let text = ap (λ (o : Option (List ℕ)). unwrap_or o (codes "*")) c.in_ok-action.ensures.text in
    let compared : ComparedValue = compared_of (record {
      before = record { world = c.args.before; lines = c.as_slice-3.result; actions = c.which_of.result };
      after = record { world = c.args.after; lines = c.as_slice-4.result; actions = c.which_of-2.result };
    }) in
    let asked : AreAskedOf c.args.command.now c.args.before.now c.args.after.now (map text_line_of lines) compared =
    are_asked c.args.command.now c.args.before.now c.args.after.now lines were c.as_slice-3.result.now c.as_slice-4.result.now
    c.which_of.result c.which_of-2.result c.requires.said are_was are_now
    (c.which_of.ensures.pattern ∙ c.in_ok-action.ensures.pattern) (c.which_of.ensures.text ∙ text)
    (c.which_of-2.ensures.pattern ∙ c.in_ok-action.ensures.pattern) (c.which_of-2.ensures.text ∙ text) in
    MatchResult-weaker c.report_on.result c.report_on.ensures.ok (λ answer is. (compared, asked, is)) (λ _ _. tt)

pub returns-clause-fault : goal.returns-clause-fault
returns-clause-fault g c =
    let were = c.args.were.now in
    let lines = c.args.lines.now in
    let are_was = subst (λ (lent : List Line). AllZip IsLent were lent) (sym c.as_slice-3.ensures.value) c.in_ok-was.ensures in
    let are_now = subst (λ (lent : List Line). AllZip IsLent lines lent) (sym c.as_slice-4.ensures.value) c.in_ok-now.ensures in
    let text = ap (λ (o : Option (List ℕ)). unwrap_or o (codes "*")) c.in_ok-action.ensures.text in
    let compared : ComparedValue = compared_of (record {
      before = record { world = c.args.before; lines = c.as_slice-3.result; actions = c.which_of.result };
      after = record { world = c.args.after; lines = c.as_slice-4.result; actions = c.which_of-2.result };
    }) in
    let asked : AreAskedOf c.args.command.now c.args.before.now c.args.after.now (map text_line_of lines) compared =
    are_asked c.args.command.now c.args.before.now c.args.after.now lines were c.as_slice-3.result.now c.as_slice-4.result.now
    c.which_of.result c.which_of-2.result c.requires.said are_was are_now
    (c.which_of.ensures.pattern ∙ c.in_ok-action.ensures.pattern) (c.which_of.ensures.text ∙ text)
    (c.which_of-2.ensures.pattern ∙ c.in_ok-action.ensures.pattern) (c.which_of-2.ensures.text ∙ text) in
    MatchResult-weaker c.report_on.result c.report_on.ensures.fault (λ _ _. tt)
    (not_compared c.args.command.now c.args.before.now c.args.after.now (map text_line_of lines) compared asked)
