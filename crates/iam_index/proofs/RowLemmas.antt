-- Rows of lists stay those of their statements where more are put behind them.
use Rattle.std.proofs.Common.{◌≡◌, inl, inr, List, [], ◌∷◌, ◌++◌, length, Some, arith, sym, ap, subst, ◌∙◌}
use Rattle.std.proofs.lemmas.Option.{slice_get_within}
use Rattle.std.specs.List.{slice_get}
use Rattle.iam_decision.specs.declared.scan.Standing.{Standing}
use Rattle.iam_columns.specs.declared.rows.Row.{Row}
use Rattle.iam_columns.proofs.ListLemmas.{get_back, some_same}
use Rattle.iam_columns.proofs.RowLemmas.{has_row_grows, statement_rows_grow}
use Rattle.iam_index.specs.Rows.{AreListRows, IsListRows}
use Rattle.iam_index.specs.declared.list_rows.ListRows.{ListRows}

pub list_grows : (rows more all : List Row) (statements : List Standing) (known : ListRows) → all ≡ rows ++ more → IsListRows rows statements known
    → IsListRows all statements known
list_grows rows more all statements known is list = record {
  are = statement_rows_grow rows more all statements known.rows.items is list.are;
  told = λ so i standing at. let (n, has) = list.told so i standing at in (n, has_row_grows rows more all n standing.statement.now.resource is has);
}

pub list_rows_grow : {L : Type 0} (statements : L → List Standing) (rows more all : List Row) (lists : List L) (known : List ListRows) → all ≡ rows ++ more
    → AreListRows statements rows lists known → AreListRows statements all lists known
list_rows_grow statements rows more all lists known is are i list numbers at there =
    list_grows rows more all (statements list) numbers is (are i list numbers at there)

pub list_rows_more : {L : Type 0} (statements : L → List Standing) (rows more all : List Row) (lists : List L) (known : List ListRows) (list : L)
    (numbers : ListRows) → all ≡ rows ++ more → slice_get lists (length known) ≡ Some list → IsListRows all (statements list) numbers
    → AreListRows statements rows lists known → AreListRows statements all lists (known ++ numbers ∷ [])
list_rows_more {L} statements rows more all lists known list numbers is at own are i other found there kept =
    elim (get_back known numbers i found kept) [
      | inl before ↦ list_rows_grow statements rows more all lists known is are i other found there before
      | inr (last, same) ↦
          let here : list ≡ other = some_same list other (sym at ∙ ap (slice_get lists) (sym last) ∙ there) in
          let A : L → Type 0 = λ l. IsListRows all (statements l) numbers in
          let N : ListRows → Type 0 = λ k. IsListRows all (statements other) k in
          subst N (sym same) (subst A here own)
    ]

-- where no list is known
pub no_list_rows : {L : Type 0} (statements : L → List Standing) (rows : List Row) (lists : List L) (known : List ListRows) → known ≡ []
    → AreListRows statements rows lists known
no_list_rows statements rows lists known none i list numbers there at =
    let P : List ListRows → Type 0 = λ k. slice_get k i ≡ Some numbers in
    let within = slice_get_within [] i numbers (subst P none at) in absurd (omega (arith, within))
