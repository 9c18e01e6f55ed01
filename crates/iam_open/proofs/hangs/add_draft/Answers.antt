use Rattle.std.proofs.Common.{◌∙◌, List, ap, map, sym}
use Rattle.std.specs.Str.{chars}
use Rattle.iam_glob.specs.Glob.{sign_of}
use Rattle.iam_open.specs.Asks.{all_added, text_keys}
use Rattle.iam_open.proofs.AskLemmas.{added_form, added_plain}
use Rattle.iam_open.proofs.hangs.add_draft.Goals as goal
use Rattle.iam_text.specs.Stretches.{piece_of}
use Rattle.iam_text.specs.declared.draft.Piece.{Piece}

pub loop-form-init : goal.loop-form-init
loop-form-init c = ap (λ (ps : List Piece). all_added c.args.known.now c.args.keys.now.items (text_keys ps)) (sym c.stretches-left.ensures)

pub loop-form-preserved : goal.loop-form-preserved
loop-form-preserved c =
    let left = c.loop-form.left in
    added_form c.args.known.now c.args.keys.now.items c.loop-form.keys.items c.add_form.new.keys.items c.args.draft.now left.pieces
    c.in-Some.behind.pieces (map (sign_of left.wild) (chars c.in-Some.field-0-0.now)) (piece_of c.in-Some.form) c.in-Some.ensures.0
    c.loop-form.invariant c.in_ok-add_form.ensures

pub returns : goal.returns
returns c =
    let left = c.loop-form.left in
    added_plain c.args.known.now c.loop-form.keys.items left.pieces (map (sign_of left.wild) (chars left.text)) c.in_default.ensures
    ∙ sym c.loop-form.invariant
