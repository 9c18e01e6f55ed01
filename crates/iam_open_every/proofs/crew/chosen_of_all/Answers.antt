use Rattle.std.proofs.Common.{◌++◌, ◌∙◌, ℕ, List, [], ap, append_assoc, append-nil, arith, subst, sym}
use Rattle.std.proofs.lemmas.List.{nil_from_length}
use Rattle.std.specs.List.{AllZip}
use Rattle.std.specs.Slice.Iter.{chunks_rest, chunks_size}
use Rattle.iam_every.specs.Every.{every_of}
use Rattle.iam_every.proofs.ReportLemmas.{zip_more}
use Rattle.iam_open_every.specs.Code.Texts.{IsChosen}
use Rattle.iam_open_every.specs.declared.crew.Chosen.{Chosen}
use Rattle.iam_open_every.proofs.crew.chosen_of_all.Goals as goal

pub loop-some-init : goal.loop-some-init
loop-some-init g c =
    let is = c.into_iter-some-iterator.ensures.into_iter_gives in
    let size = ap chunks_size is ∙ c.chunks-some-items.ensures.size in
    let R : List Chosen → Type 0 = λ all. AllZip (IsChosen c.args.brief (every_of c.args.asked) c.args.words.now) [] all in
    (omega (arith, size), tt, size, ([], ap chunks_rest is ∙ c.chunks-some-items.ensures.rest, subst R (sym c.new-all.ensures.items) tt))

pub loop-some-preserved : goal.loop-some-preserved
loop-some-preserved g c =
    let steps = c.in-Some.ensures.steps in
    let so_far = c.loop-some.invariant.3 in
    let done = so_far.0 in
    let chunk = c.in-Some.some.now in
    let size = steps.0 ∙ c.loop-some.invariant.2 in (
      omega (arith, size),
      tt,
      size,
      (
        done ++ chunk,
        append_assoc done chunk (chunks_rest c.next.new.self) ∙ ap (λ t. done ++ t) (sym steps.1.0) ∙ so_far.1,
        zip_more (IsChosen c.args.brief (every_of c.args.asked) c.args.words.now) done chunk c.loop-some.all.items c.in_ok-more.more.items
            c.append.new.self.items so_far.2 c.in_ok-more.ensures c.in_ok-append.ensures.items,
      ),
    )

pub returns : goal.returns
returns g c =
    let so_far = c.loop-some.invariant.3 in
    let none = nil_from_length _ c.in-None.ensures.steps.1.0 in
    let P : List ℕ → Type 0 = λ principals. AllZip (IsChosen c.args.brief (every_of c.args.asked) c.args.words.now) principals c.loop-some.all.items in
    subst P (sym (append-nil so_far.0) ∙ ap (λ t. so_far.0 ++ t) (sym none) ∙ so_far.1) so_far.2
