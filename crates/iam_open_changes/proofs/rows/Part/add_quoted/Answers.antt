use Rattle.std.proofs.Common.{Bool, subst}
use Rattle.std.proofs.lemmas.Result.{on_ok_weaker}
use Rattle.iam_open_changes.specs.Code.Texts.{texts_of}
use Rattle.iam_open_changes.specs.Report.{AreOpenRows}
use Rattle.iam_open_changes.proofs.RequestLemmas.{request_rows}
use Rattle.iam_open_changes.proofs.rows.Part.add_quoted.Goals as goal

pub returns : goal.returns
returns c =
    let before = c.args.both.before.now in
    let after = c.args.both.after.now in
    let was = c.args.both.was in
    let now = c.args.both.now in
    let texts = texts_of c.args.texts in
    let quoted = c.requires.quoted in
    on_ok_weaker c.add_open.result
    (λ made.
    let (opens, are, adds) = made texts quoted in
    request_rows c.args.format c.args.brief before after was now texts c.in_ok-change.change opens c.args.self.now c.add_told.new.self
    c.add_told-2.new.self c.add_open.new.self c.requires.before c.requires.after c.in_ok-change.ensures
    (subst (λ (b : Bool). AreOpenRows before after was now texts b opens) c.has_untold-unknown.ensures are) (c.in_ok-add_told.ensures texts quoted)
    (c.in_ok-add_told-2.ensures texts quoted) adds)
    c.add_open.ensures
