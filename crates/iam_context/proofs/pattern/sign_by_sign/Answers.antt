use Rattle.std.proofs.Common.{◌∙◌, ◌++◌, ◌∷◌, Some, None, ap, if◌then◌else◌, map, sym}
use Rattle.std.specs.Str.{chars}
use Rattle.iam_glob.specs.Glob.{sign_of}
use Rattle.iam_text.specs.Stretches.{piece_of}
use Rattle.iam_context.specs.Resolve.{piece_signs, resolved}
use Rattle.iam_context.proofs.Signs.{no_value, over_all, over_piece, over_plain}
use Rattle.iam_context.proofs.pattern.sign_by_sign.Goals as goal

pub returns-then-not-branch : goal.returns-then-not-branch
returns-then-not-branch c =
    let piece = piece_of c.in-Some.form in
    let left = c.loop-front.left in
    let grown = c.add_signs.new.signs.items in
    let now = c.add_form.new.signs.items in
    sym (
    c.loop-front.invariant
    ∙ over_plain c.args.context.now c.loop-front.signs.items grown left.wild c.is_wild.result c.in-Some.front.now left.pieces (piece ∷ c.in-Some.behind.pieces)
    c.in-Some.ensures.0 c.is_wild.ensures c.in_ok-add_signs.ensures
    ∙ no_value grown (piece_signs c.args.context.now piece) (resolved c.args.context.now c.in-Some.behind.pieces)
    (c.in_ok-add_form.ensures ∙ ap (λ b. if b then Some now else None) c.if-not-branch.true)
    )

pub loop-front-preserved : goal.loop-front-preserved
loop-front-preserved c =
    let piece = piece_of c.in-Some.form in
    let left = c.loop-front.left in
    let grown = c.add_signs.new.signs.items in
    let now = c.add_form.new.signs.items in
    c.loop-front.invariant
    ∙ over_plain c.args.context.now c.loop-front.signs.items grown left.wild c.is_wild.result c.in-Some.front.now left.pieces (piece ∷ c.in-Some.behind.pieces)
    c.in-Some.ensures.0 c.is_wild.ensures c.in_ok-add_signs.ensures
    ∙ over_piece grown now (piece_signs c.args.context.now piece) (resolved c.args.context.now c.in-Some.behind.pieces)
    (c.in_ok-add_form.ensures ∙ ap (λ b. if b then Some now else None) c.if-not-branch.false)

pub returns : goal.returns
returns c =
    let left = c.loop-front.left in
    let before = c.loop-front.signs.items in
    ap (λ signs. Some signs) c.from_vec.ensures
    ∙ sym (
    c.loop-front.invariant
    ∙ over_all c.args.context.now before c.add_signs-2.new.signs.items left.wild c.is_wild-2.result left.text left.pieces c.in_default.ensures c.is_wild-2.ensures
    (c.in_ok-add_signs-2.ensures ∙ ap (λ t. before ++ map (sign_of c.is_wild-2.result) (chars t)) c.text-2.ensures)
    )
