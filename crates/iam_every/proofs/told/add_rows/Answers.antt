use Rattle.std.proofs.Common.{◌≡◌, ◌++◌, ◌∙◌, ℕ, List, Some, ap, arith, map, string_bytes, subst, sym}
use Rattle.std.proofs.lemmas.List.{take_all}
use Rattle.std.specs.List.{slice_get}
use Rattle.std.specs.Arc.{arc_value}
use Rattle.iam_every.specs.Code.Told.{IsNumberIn, row_as}
use Rattle.iam_every.specs.Every.{row_of}
use Rattle.iam_every.proofs.KnownLemmas.{zip_get}
use Rattle.iam_every.proofs.told.add_rows.Goals as goal

pub returns : goal.returns
returns c every p about actions told at =
    let lists = c.args.told.now.lists.items in
    let numbers = c.args.told.now.numbers.items in
    let action = string_bytes (arc_value c.args.action.now) in
    let (n, at_n, (one, at_one, said)) = zip_get (IsNumberIn every p about lists) actions numbers c.args.i action told at in
    let items : c.said_at-said-items.result.now ≡ one.items =
    c.said_at-said-items.ensures n one (subst (λ (l : List ℕ). slice_get l c.args.i ≡ Some n) (sym c.as_slice-2.ensures.value) at_n)
    (subst (λ l. slice_get l n ≡ Some one) (sym c.as_slice.ensures.value) at_one) in
    let before = map row_of c.args.rows.now.items in (
      map (row_as action) one.items,
      said,
      c.loop-said.invariant
          ∙ ap (λ (l : List _). before ++ map (row_as action) l)
          (take_all c.loop-said.said-index c.said_at-said-items.result.now (omega (arith, c.loop-said-test.false)) ∙ items),
    )
