use Rattle.std.proofs.Common.{◌∙◌, Bool, ◌||◌, ap, map, sym}
use Rattle.std.specs.Str.{chars}
use Rattle.iam_glob.specs.Glob.{sign_of}
use Rattle.iam_text.specs.Stretches.{piece_of}
use Rattle.iam_open.specs.Code.Known.{text_beyond}
use Rattle.iam_open.proofs.FormLemmas.{over_front, plain_beyond}
use Rattle.iam_open.proofs.beyond.draft_beyond.Goals as goal

pub loop-form-preserved : goal.loop-form-preserved
loop-form-preserved c =
    let known = c.args.known.now in
    let left = c.loop-form.left in
    let front = map (sign_of left.wild) (chars c.in-Some.field-0-0.now) in
    let piece = piece_of c.in-Some.form in
    let behind = c.in-Some.behind.pieces in
    c.loop-form.invariant ∙ over_front known left.pieces behind front piece c.in-Some.ensures.0
    ∙ ap (λ (b : Bool). b || text_beyond known behind) (sym c.form_beyond.ensures ∙ c.if-form_beyond.false)

pub returns : goal.returns
returns c =
    let left = c.loop-form.left in
    sym (
    c.loop-form.invariant ∙ ap (text_beyond c.args.known.now) c.in_default.ensures
    ∙ plain_beyond c.args.known.now (map (sign_of left.wild) (chars left.text))
    )
