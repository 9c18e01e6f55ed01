-- Rows stay those of their elements where more are put behind them.
use Rattle.std.proofs.Common.{◌≡◌, inl, inr, ℕ, Bool, true, false, ◌⊎◌, MatchBool, List, [], ◌∷◌, ◌++◌, length, Option, Some, IfSome, append_assoc, sym, ap, subst, ◌∙◌}
use Rattle.std.specs.List.{slice_get}
use Rattle.iam_decision.specs.declared.scan.Standing.{Standing}
use Rattle.iam_element.specs.Reading.{ResourceElement}
use Rattle.iam_world.specs.World.{WorldValue}
use Rattle.iam_columns.specs.Rows.{AreStatementRows, HasRow, Tell, TellsMatch, TellsMayMatch}
use Rattle.iam_columns.specs.declared.rows.Row.{Row}
use Rattle.iam_columns.proofs.ListLemmas.{get_back, get_more, some_same}

pub has_row_grows : (rows more all : List Row) (n : ℕ) (element : Option ResourceElement) → all ≡ rows ++ more → HasRow rows n element → HasRow all n element
has_row_grows rows more all n element is (row, at, same) =
    let R : List Row → Type 0 = λ rs. slice_get rs n ≡ Some row in (row, subst R (sym is) (get_more rows more n row at), same)

pub statement_rows_grow : (rows more all : List Row) (statements : List Standing) (numbers : List (Option ℕ)) → all ≡ rows ++ more
    → AreStatementRows rows statements numbers → AreStatementRows all statements numbers
statement_rows_grow rows more all statements numbers is are i n standing kept at =
    has_row_grows rows more all n standing.statement.now.resource is (are i n standing kept at)

-- one more statement, and one more list
pub statement_rows_more : (rows more all : List Row) (statements : List Standing) (numbers : List (Option ℕ)) (standing : Standing) (number : Option ℕ)
    → all ≡ rows ++ more → slice_get statements (length numbers) ≡ Some standing
    → IfSome number (λ n. HasRow all n standing.statement.now.resource) → AreStatementRows rows statements numbers
    → AreStatementRows all statements (numbers ++ number ∷ [])
statement_rows_more rows more all statements numbers standing number is at own are i n other kept there =
    elim (get_back numbers number i (Some n) kept) [
      | inl before ↦ statement_rows_grow rows more all statements numbers is are i n other before there
      | inr (last, same) ↦
          let here : standing ≡ other = some_same standing other (sym at ∙ ap (slice_get statements) (sym last) ∙ there) in
          let A : Standing → Type 0 = λ s. HasRow all n s.statement.now.resource in
          let N : Option ℕ → Type 0 = λ m. IfSome m (λ k. HasRow all k standing.statement.now.resource) in
          subst A here (subst N (sym same) own)
    ]

-- more rows, and more behind them
pub more_and_more : (rows some all : List Row) → ((more : List Row) × (some ≡ rows ++ more)) → ((more : List Row) × (all ≡ some ++ more))
    → (more : List Row) × (all ≡ rows ++ more)
more_and_more rows some all (one, is) (two, last) = (one ++ two, last ∙ ap (λ (z : List Row). z ++ two) is ∙ append_assoc rows one two)

-- what a row says of a resource, where it says it of the match itself, or that there can be none
pub told : (world : WorldValue) (element : Option ResourceElement) (exact : Bool) (matches : List Bool) (r : ℕ) (matched : Bool)
    → MatchBool exact (Tell (TellsMatch world element) matches) (Tell (TellsMayMatch world element) matches) → slice_get matches r ≡ Some matched
    → (exact ≡ true) ⊎ (matched ≡ false) → TellsMatch world element r matched
told world element true matches r matched are at sure = are r matched at
told world element false matches r true are at (inl sure) = let wrong : ⊥ = cc in absurd wrong
told world element false matches r true are at (inr sure) = let wrong : ⊥ = cc in absurd wrong
told world element false matches r false are at sure = λ resource context there. (λ matched. let wrong : ⊥ = cc in absurd wrong, are r false at resource context there)
