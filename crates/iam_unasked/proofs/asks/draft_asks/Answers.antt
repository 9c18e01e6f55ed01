use Rattle.std.proofs.Common.{◌∙◌, Bool, ◌||◌, ap, map, sym}
use Rattle.std.specs.List.{list_any}
use Rattle.std.specs.Str.{chars}
use Rattle.iam_glob.specs.Glob.{sign_of}
use Rattle.iam_text.specs.Stretches.{piece_of}
use Rattle.iam_unasked.specs.Asks.{piece_asks}
use Rattle.iam_unasked.proofs.WalkLemmas.{over_front, plain_asks}
use Rattle.iam_unasked.proofs.asks.draft_asks.Goals as goal

pub loop-form-preserved : goal.loop-form-preserved
loop-form-preserved c = λ list has.
    let left = c.loop-form.left in
    let front = map (sign_of left.wild) (chars c.in-Some.field-0-0.now) in
    let piece = piece_of c.in-Some.form in
    let behind = c.in-Some.behind.pieces in
    c.loop-form.invariant list has ∙ over_front list left.pieces behind front piece c.in-Some.ensures.0
    ∙ ap (λ (b : Bool). b || list_any (piece_asks list) behind) (sym (c.form_asks.ensures list has) ∙ c.if-form_asks.false)

pub returns : goal.returns
returns c = λ list has.
    let left = c.loop-form.left in
    sym (
    c.loop-form.invariant list has ∙ ap (list_any (piece_asks list)) c.in_default.ensures
    ∙ plain_asks list (map (sign_of left.wild) (chars left.text))
    )
