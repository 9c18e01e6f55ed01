use Rattle.std.proofs.Common.{◌≡◌, ◌∙◌, ◌++◌, ◌∷◌, [], ap, append_assoc, refl, subst, sym}
use Rattle.std.proofs.lemmas.List.{append-nil}
use Rattle.std.proofs.lemmas.Result.{MatchResult-weaker, err_from_is_err_and}
use Rattle.iam_asked.specs.Code.Cut.{HasRead}
use Rattle.iam_asked.specs.File.{IsFileFault}
use Rattle.iam_asked.specs.Request.{RequestsValue, with_asked}
use Rattle.iam_asked.proofs.Cutting.{block_and_more, block_less, block_read, fault_of_line, line_and_more, read_line, read_tail}
use Rattle.iam_asked.proofs.read.Lines.add_block.Goals as goal

pub loop-line-init : goal.loop-line-init
loop-line-init c = (
  [],
  refl,
  refl,
  λ bytes has. subst (λ it. HasRead it c.args.self.now.rest.items c.args.self.now.reading) (sym (append-nil bytes)) has,
)

pub loop-line-preserved : goal.loop-line-preserved
loop-line-preserved c =
    let (done, block, world, read) = c.loop-line.invariant in
    let line = c.in-Some.line.now in
    let end = line ++ 10 ∷ [] in
    let reading = c.loop-line.self.reading in
    let rest = c.loop-line.self.rest.items in
    let (unbroken, left) = c.in-Some.ensures in
    let (asked, is, new) = c.in_ok-end_line.ensures.ok in (
      done ++ end,
      block_less done line c.in-Some.behind.now c.loop-line.left.now c.args.block.now block left,
      ap (λ (v : RequestsValue). v.world) new ∙ world,
      λ bytes has.
          let more = read_line (bytes ++ done) rest line reading asked (read bytes has) unbroken is in
          let here = subst (λ it. HasRead it [] (with_asked reading asked)) (append_assoc bytes done end) more in
          subst (λ it. HasRead (bytes ++ (done ++ end)) it c.end_line.new.self.reading) (sym c.in_ok-end_line.ensures.rest)
          (subst (HasRead (bytes ++ (done ++ end)) []) (sym new) here),
    )

pub returns-in_err-end_line-clause-fault : goal.returns-in_err-end_line-clause-fault
returns-in_err-end_line-clause-fault c =
    let (done, block, world, read) = c.loop-line.invariant in
    let line = c.in-Some.line.now in
    let behind = c.in-Some.behind.now in
    let left = c.loop-line.left.now in
    let reading = c.loop-line.self.reading in
    let fault = c.in_err-end_line.field-0.0 in
    let (unbroken, parts) = c.in-Some.ensures in
    let p = err_from_is_err_and c.from_residual.result c.from_residual.ensures.1 in
    rw (p.1, p.2)
    (
    λ bytes more has.
    let all : (bytes ++ done) ++ (line ++ 10 ∷ (behind ++ more)) ≡ (bytes ++ c.args.block.now) ++ more =
    ap (λ it. (bytes ++ done) ++ it) (line_and_more line behind more ∙ ap (λ it. it ++ more) (sym parts))
    ∙ block_and_more bytes done left c.args.block.now more block in
    let here = fault_of_line (bytes ++ done) c.loop-line.self.rest.items line (behind ++ more) reading fault (read bytes has) unbroken c.in_err-end_line.ensures.fault in
    subst (λ it. IsFileFault c.args.self.now.reading.world it fault) all
    (subst (λ w. IsFileFault w ((bytes ++ done) ++ (line ++ 10 ∷ (behind ++ more))) fault) world here)
    )

pub returns-clause-ok : goal.returns-clause-ok
returns-clause-ok c =
    let (done, block, world, read) = c.loop-line.invariant in
    let left = c.loop-line.left.now in
    let rest = c.loop-line.self.rest.items in
    let reading = c.loop-line.self.reading in
    MatchResult-weaker c.keep.result c.keep.ensures.ok
    (
    λ _ kept bytes has.
    let here = subst (λ it. HasRead it (rest ++ left) reading) (block_read bytes done left c.args.block.now block)
    (read_tail (bytes ++ done) rest left reading (read bytes has) c.in_default.ensures) in
    subst (λ it. HasRead (bytes ++ c.args.block.now) it c.keep.new.self.reading) (sym kept.0)
    (subst (HasRead (bytes ++ c.args.block.now) (rest ++ left)) (sym kept.1) here)
    )
    (λ _ _. tt)

pub returns-clause-fault : goal.returns-clause-fault
returns-clause-fault c =
    let (done, block, world, read) = c.loop-line.invariant in
    let left = c.loop-line.left.now in
    MatchResult-weaker c.keep.result c.keep.ensures.fault (λ _ _. tt)
    (
    λ fault is bytes more has.
    let here = is (bytes ++ done) more (read bytes has) c.in_default.ensures in
    subst (λ w. IsFileFault w ((bytes ++ c.args.block.now) ++ more) fault) world
    (subst (λ it. IsFileFault c.loop-line.self.reading.world (it ++ more) fault) (block_read bytes done left c.args.block.now block) here)
    )
