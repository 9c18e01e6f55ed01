use Rattle.std.proofs.Common.{◌++◌, ◌∙◌, List, [], ap, append_assoc, append-nil, arith, map, subst, sym}
use Rattle.std.proofs.lemmas.List.{map-append, nil_from_length}
use Rattle.std.specs.List.{AllZip}
use Rattle.std.specs.Slice.Iter.{chunks_rest, chunks_size}
use Rattle.iam_every.proofs.ReportLemmas.{zip_more}
use Rattle.iam_every_changes.specs.Code.Told.{IsLookedAt}
use Rattle.iam_every_changes.specs.Compared.{WhoValue, compared_of, who_of}
use Rattle.iam_every_changes.specs.declared.compared.Who.{Who}
use Rattle.iam_every_changes.specs.declared.looked.Looked.{Looked}
use Rattle.iam_every_changes.proofs.ReportLemmas.{comparable_part}
use Rattle.iam_every_changes.proofs.crew.looked_at_all.Goals as goal

pub loop-some-init : goal.loop-some-init
loop-some-init g c =
    let is = c.into_iter-some-iterator.ensures.into_iter_gives in
    let size = ap chunks_size is ∙ c.chunks-some-items.ensures.size in
    let R : List Looked → Type 0 = λ all. AllZip (IsLookedAt (compared_of c.args.compared)) [] all in
    (omega (arith, size), tt, size, ([], ap chunks_rest is ∙ c.chunks-some-items.ensures.rest, subst R (sym c.new-all.ensures.items) tt))

pub looked_at_few-requires-clause-comparable : goal.looked_at_few-requires-clause-comparable
looked_at_few-requires-clause-comparable g c κs within =
    let (done, parts, are) = c.loop-some.invariant.3 in
    let rest = chunks_rest c.next.new.self in
    comparable_part (compared_of c.args.compared) done c.in-Some.some.now rest c.args.whos.now (ap (λ t. done ++ t) (sym c.in-Some.ensures.steps.1.0) ∙ parts)
    c.requires.comparable

pub loop-some-preserved : goal.loop-some-preserved
loop-some-preserved g c =
    let steps = c.in-Some.ensures.steps in
    let so_far = c.loop-some.invariant.3 in
    let done = so_far.0 in
    let chunk = c.in-Some.some.now in
    let P : WhoValue → Looked → Type 0 = IsLookedAt (compared_of c.args.compared) in
    let size = steps.0 ∙ c.loop-some.invariant.2 in
    let both = zip_more P (map who_of done) (map who_of chunk) c.loop-some.all.items c.in_ok-more.more.items c.append.new.self.items so_far.2
    c.in_ok-more.ensures c.in_ok-append.ensures.items in (
      omega (arith, size),
      tt,
      size,
      (
        done ++ chunk,
        append_assoc done chunk (chunks_rest c.next.new.self) ∙ ap (λ t. done ++ t) (sym steps.1.0) ∙ so_far.1,
        subst (λ (whos : List WhoValue). AllZip P whos c.append.new.self.items) (sym (map-append who_of done chunk)) both,
      ),
    )

pub returns : goal.returns
returns g c =
    let so_far = c.loop-some.invariant.3 in
    let none = nil_from_length _ c.in-None.ensures.steps.1.0 in
    let P : List Who → Type 0 = λ whos. AllZip (IsLookedAt (compared_of c.args.compared)) (map who_of whos) c.loop-some.all.items in
    subst P (sym (append-nil so_far.0) ∙ ap (λ t. so_far.0 ++ t) (sym none) ∙ so_far.1) so_far.2
