use Rattle.std.proofs.Common.{◌∙◌, ◌≤◌, [], ap, length, map, subst, sym}
use Rattle.std.proofs.lemmas.Result.{err_from_is_err_and}
use Rattle.iam_asked.specs.Code.TextsRead.{HasTexts}
use Rattle.iam_asked.specs.File.{lines_of}
use Rattle.iam_asked.specs.TextLines.{AreTextLines, text_line_of}
use Rattle.iam_asked.proofs.Cutting.{ended}
use Rattle.iam_asked.proofs.TextCutting.{last_line, nothing_left, texts_all, texts_faulty, texts_more, texts_none}
use Rattle.iam_asked.proofs.texts.read_texts.Goals as goal

pub loop-line-init : goal.loop-line-init
loop-line-init c =
    let world = c.args.world.now in
    let bytes = c.args.bytes.now in
    subst (λ texts. HasTexts world bytes bytes (map text_line_of texts)) (sym c.new-texts.ensures.items) (texts_none world bytes)

pub loop-line-preserved : goal.loop-line-preserved
loop-line-preserved c =
    let left = c.loop-line.left.now in
    let line = c.in-Some.line.now in
    let behind = c.in-Some.behind.now in
    let (unbroken, parts) = c.in-Some.ensures in
    let (text, is, new) = c.in_ok-add_line.ensures.ok in
    texts_more c.args.world.now c.args.bytes.now left line behind c.loop-line.texts.items c.add_line.new.texts.items text c.loop-line.invariant
    (ap lines_of parts ∙ ended line behind unbroken) is new c.in_ok-add_line.ensures.few

pub returns-in_err-add_line-clause-fault : goal.returns-in_err-add_line-clause-fault
returns-in_err-add_line-clause-fault c =
    let line = c.in-Some.line.now in
    let behind = c.in-Some.behind.now in
    let (unbroken, parts) = c.in-Some.ensures in
    let p = err_from_is_err_and c.from_residual.result c.from_residual.ensures.1 in
    rw (p.1, p.2)
    (
    λ other.
    let (number, is) = c.in_err-add_line.ensures.fault other in
    texts_faulty c.args.world.now c.args.bytes.now c.loop-line.left.now line (lines_of behind) c.loop-line.texts.items c.in_err-add_line.field-0.0
    c.loop-line.invariant (ap lines_of parts ∙ ended line behind unbroken) number is
    )

-- nothing is left
all_read : (c : goal.Then-is_empty) → AreTextLines c.args.world.now (lines_of c.args.bytes.now) (map text_line_of c.loop-line.texts.items)
    × (length c.loop-line.texts.items ≤ 65536)
all_read c =
    let none = nothing_left c.loop-line.left.now (sym c.is_empty.ensures ∙ c.if-is_empty.true) in
    texts_all c.args.world.now c.args.bytes.now c.loop-line.texts.items
    (subst (λ left. HasTexts c.args.world.now c.args.bytes.now left (map text_line_of c.loop-line.texts.items)) none c.loop-line.invariant)

pub returns-then-is_empty-clause-ok : goal.returns-then-is_empty-clause-ok
returns-then-is_empty-clause-ok c = (all_read c).0

pub returns-then-is_empty-clause-few : goal.returns-then-is_empty-clause-few
returns-then-is_empty-clause-few c = (all_read c).1

-- the last line is read
pub returns-in_err-add_line-2-clause-fault : goal.returns-in_err-add_line-2-clause-fault
returns-in_err-add_line-2-clause-fault c =
    let left = c.loop-line.left.now in
    let p = err_from_is_err_and c.from_residual-in_err-add_line-2.result c.from_residual-in_err-add_line-2.ensures.1 in
    rw (p.1, p.2)
    (
    λ other.
    let (number, is) = c.in_err-add_line-2.ensures.fault other in
    texts_faulty c.args.world.now c.args.bytes.now left left [] c.loop-line.texts.items c.in_err-add_line-2.field-0.0 c.loop-line.invariant
    (last_line left c.in_default.ensures (sym c.is_empty.ensures ∙ c.if-is_empty.false)) number is
    )

last_read : (c : goal.In_ok-add_line-2) → AreTextLines c.args.world.now (lines_of c.args.bytes.now) (map text_line_of c.add_line-2.new.texts.items)
    × (length c.add_line-2.new.texts.items ≤ 65536)
last_read c =
    let left = c.loop-line.left.now in
    let (text, is, new) = c.in_ok-add_line-2.ensures.ok in
    texts_all c.args.world.now c.args.bytes.now c.add_line-2.new.texts.items
    (
    texts_more c.args.world.now c.args.bytes.now left left [] c.loop-line.texts.items c.add_line-2.new.texts.items text c.loop-line.invariant
    (last_line left c.in_default.ensures (sym c.is_empty.ensures ∙ c.if-is_empty.false)) is new c.in_ok-add_line-2.ensures.few
    )

pub returns-clause-ok : goal.returns-clause-ok
returns-clause-ok c = (last_read c).0

pub returns-clause-few : goal.returns-clause-few
returns-clause-few c = (last_read c).1
