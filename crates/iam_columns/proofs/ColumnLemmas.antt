-- Two resources that are alike to a third are alike.
use Rattle.std.proofs.Common.{◌≡◌, ◌↔◌, inl, inr, ℕ, ◌+◌, ◌<◌, List, [], ◌∷◌, ◌++◌, length, Option, Some, IfSome, refl, sym, ap, ◌∙◌, subst}
use Rattle.std.specs.List.{slice_get}
use Rattle.iam_match.specs.Statement.{ResourceMatches}
use Rattle.iam_world.specs.World.{ResourceValue, WorldValue}
use Rattle.iam_columns.specs.Slots.{Keeps}
use Rattle.iam_columns.specs.Columns.{AreColumns, HasFirst, HaveOneColumn, MatchesBoth}
use Rattle.iam_columns.specs.declared.rows.Row.{Row}
use Rattle.iam_columns.proofs.ListLemmas.{get_back, get_more, get_within, less_or_last, some_same}

pub column_self : (world : WorldValue) (rows : List Row) (r : ℕ) → r < length world.resources → HaveOneColumn world rows r r
column_self world rows r below =
    let (it, at) = get_within world.resources r below in
    record {
      differ = record { one = it; two = it; one_is = at; two_is = at; same = refl };
      both = λ n row there one two context first second.
          let M : ResourceValue → Type 0 = λ z. ResourceMatches (Some row.element.now) one.arn context ↔ ResourceMatches (Some row.element.now) z.arn context in
          subst M (some_same one two (sym first ∙ second)) (λ does. does, λ does. does);
    }

pub columns_meet : (world : WorldValue) (rows : List Row) (first r other : ℕ) → HaveOneColumn world rows first r → HaveOneColumn world rows first other
    → HaveOneColumn world rows r other
columns_meet world rows first r other one two =
    let a = one.differ in
    let b = two.differ in
    let F : ResourceValue → Type 0 = λ x. b.two ≡ record x { arn = b.two.arn; policy = b.two.policy } in
    let same : b.two ≡ record a.one { arn = b.two.arn; policy = b.two.policy } = subst F (some_same b.one a.one (sym b.one_is ∙ a.one_is)) b.same in
    record {
      differ = record {
        one = a.two;
        two = b.two;
        one_is = a.two_is;
        two_is = b.two_is;
        same = same ∙ ap (λ (x : ResourceValue). record x { arn = b.two.arn; policy = b.two.policy }) (sym a.same);
      };
      both = λ n row at x y context there here.
          let (to, from) = one.both n row at a.one x context a.one_is there in
          let (on, back) = two.both n row at a.one y context a.one_is here in
          (λ does. on (from does), λ does. to (back does));
    }

-- numbers whose first resources are these
abbrev pub HaveFirsts : WorldValue → List Row → List ℕ → List (Option ℕ) → Type 0
HaveFirsts world rows firsts numbers = (r n : ℕ) → Keeps numbers r n → HasFirst world rows firsts n r

first_grows : (world : WorldValue) (rows : List Row) (firsts more all : List ℕ) (n r : ℕ) → all ≡ firsts ++ more → HasFirst world rows firsts n r
    → HasFirst world rows all n r
first_grows world rows firsts more all n r is (first, at, column) =
    let F : List ℕ → Type 0 = λ xs. slice_get xs n ≡ Some first in (first, subst F (sym is) (get_more firsts more n first at), column)

pub firsts_more : (world : WorldValue) (rows : List Row) (firsts more all : List ℕ) (numbers : List (Option ℕ)) (number : Option ℕ) → all ≡ firsts ++ more
    → IfSome number (λ n. HasFirst world rows all n (length numbers)) → HaveFirsts world rows firsts numbers
    → HaveFirsts world rows all (numbers ++ number ∷ [])
firsts_more world rows firsts more all numbers number is own are r n kept =
    elim (get_back numbers number r (Some n) kept) [
      | inl before ↦ first_grows world rows firsts more all n r is (are r n before)
      | inr (last, same) ↦
          let N : Option ℕ → Type 0 = λ m. IfSome m (λ k. HasFirst world rows all k (length numbers)) in
          let R : ℕ → Type 0 = λ i. HasFirst world rows all n i in
          subst R (sym last) (subst N (sym same) own)
    ]

pub columns_of_firsts : (world : WorldValue) (rows : List Row) (firsts : List ℕ) (numbers : List (Option ℕ)) → HaveFirsts world rows firsts numbers
    → AreColumns world rows numbers
columns_of_firsts world rows firsts numbers are r other n kept there =
    let (one, at, column) = are r n kept in
    let (two, here, row) = are other n there in
    let C : ℕ → Type 0 = λ f. HaveOneColumn world rows f r in
    columns_meet world rows two r other (subst C (some_same one two (sym at ∙ here)) column) row

-- the elements of the first rows match both or neither
abbrev pub MatchBelow : WorldValue → List Row → ℕ → ℕ → ℕ → Type 0
MatchBelow world rows i r other =
    (n : ℕ) (row : Row) → n < i → slice_get rows n ≡ Some row → MatchesBoth world (Some row.element.now) r other

pub match_more : (world : WorldValue) (rows : List Row) (i r other : ℕ) (row : Row) → slice_get rows i ≡ Some row
    → MatchesBoth world (Some row.element.now) r other → MatchBelow world rows i r other → MatchBelow world rows (i + 1) r other
match_more world rows i r other row at here below n it less there =
    elim (less_or_last n i less) [
      | inl before ↦ below n it before there
      | inr same ↦
          let M : Row → Type 0 = λ x. MatchesBoth world (Some x.element.now) r other in
          subst M (some_same row it (sym at ∙ ap (slice_get rows) (sym same) ∙ there)) here
    ]
