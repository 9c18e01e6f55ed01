use Rattle.std.proofs.Common.{◌≡◌, ◌++◌, ◌∷◌, [], ℕ, List, Some, length, map, refl, sym, subst, arith}
use Rattle.std.specs.List.{slice_get}
use Rattle.iam_decision.specs.Code.Scan.{placed_value}
use Rattle.iam_decision.specs.declared.scan.Standing.{Standing}
use Rattle.iam_index.specs.Index.{IsListOf}
use Rattle.iam_index.specs.declared.lists.Listed.{Listed}
use Rattle.iam_index.proofs.ListLemmas.{get_next}
use Rattle.iam_index.proofs.lists.list_number.Goals as goal

pub returns-then-is_same_list-clause-number : goal.returns-then-is_same_list-clause-number
returns-then-is_same_list-clause-number c =
    let known = c.unwrap_or-known.result.now in
    let L : List Listed → Type 0 = λ lists. IsListOf lists known (map placed_value c.args.statements.items) in
    let S : List Standing → Type 0 = λ statements. IsListOf c.as_slice-2.result.now known (map placed_value statements) in
    subst L c.as_slice-2.ensures.value (subst S c.as_slice-3.ensures.value (c.is_same_list.ensures c.if-is_same_list.true))

pub returns-clause-number : goal.returns-clause-number
returns-clause-number c =
    let lists = c.args.lists.now.items in
    let listed : Listed = record { statements = c.args.statements } in
    let L : List Listed → Type 0 = λ all. IsListOf all c.len-next.result (map placed_value c.args.statements.items) in
    let N : ℕ → Type 0 = λ n. slice_get (lists ++ listed ∷ []) n ≡ Some listed in
    let is : length lists ≡ c.len-next.result = omega (arith, c.len-next.ensures) in
    subst L (sym c.in_ok-push.ensures.items) (listed, subst N is (get_next lists listed), refl)
