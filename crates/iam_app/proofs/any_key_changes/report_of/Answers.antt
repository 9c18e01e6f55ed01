use Rattle.std.proofs.Common.{◌≡◌, ap, subst, sym}
use Rattle.std.proofs.lemmas.Result.{MatchResult-weaker}
use Rattle.iam_open_changes.specs.Report.{IsAnyKeyChanges}
use Rattle.iam_row.specs.declared.quoted.Format.{Format}
use Rattle.iam_world.specs.World.{WorldValue}
use Rattle.iam_app.proofs.any_key_changes.report_of.Goals as goal

-- the requests are those of the two worlds
pub returns : goal.returns
returns g c =
    let brief = c.args.options.brief in
    MatchResult-weaker c.any_key_changes_report.result c.any_key_changes_report.ensures
    (λ answer is.
    let P : Format → WorldValue → WorldValue → Type 0 = λ format before after.
    IsAnyKeyChanges format brief before after answer.text.items answer.kinds in
    record {
      workers = c.requires;
      report =
          subst (λ format. P format c.args.before.now c.args.after.now) c.format_in.ensures
          (subst (P c.format_in.result c.args.before.now) c.in_ok-requests.ensures.after
          (subst (λ w. P c.format_in.result w c.in_ok-requests.requests.after) c.in_ok-requests.ensures.before is));
    })
    (λ _ _. tt)
