-- Numbers of action elements, where one more comes.
use Rattle.std.proofs.Common.{◌≡◌, inl, inr, ℕ, List, [], ◌∷◌, ◌++◌, length, Err, IfSome, Ok, OnOk, Option, None, Result, Some, arith, sym, ap, subst, ◌∙◌}
use Rattle.std.proofs.lemmas.Option.{slice_get_within}
use Rattle.std.specs.Global.{Vec}
use Rattle.std.specs.List.{slice_get}
use Rattle.iam_decision.specs.declared.scan.Standing.{Standing}
use Rattle.iam_element.specs.Reading.{ActionElement}
use Rattle.iam_columns.proofs.ListLemmas.{get_back, some_same}
use Rattle.iam_index.specs.Elements.{HasElement}
use Rattle.iam_index.specs.Index.{Adds, AddsAt}
use Rattle.iam_index.specs.Numbers.{AreAllNumbered, AreNumbered, AreNumbersAt}
use Rattle.iam_layers.specs.Cell.{IsAction}
use Rattle.iam_world.specs.World.{WorldValue}
use Rattle.iam_index.specs.declared.elements.Element.{Element}

-- where none is known
pub no_numbers : (elements : List Element) (statements : List Standing) (numbers : List (Option ℕ)) → numbers ≡ []
    → AreNumbered elements statements numbers
no_numbers elements statements numbers none i n s at there =
    let P : List (Option ℕ) → Type 0 = λ k. slice_get k i ≡ Some (Some n) in
    let within = slice_get_within [] i (Some n) (subst P none at) in absurd (omega (arith, within))

-- the number of the next statement, or none
abbrev pub IsNumber : List Element → Standing → Option ℕ → Type 0
IsNumber elements s number = (n : ℕ) → number ≡ Some n → HasElement elements n s.statement.now.action

pub is_number : (elements : List Element) (action : ActionElement) (s : Standing) (number : Option ℕ) → action ≡ s.statement.now.action
    → IfSome number (λ n. HasElement elements n action) → IsNumber elements s number
is_number elements action s None same told n is = let wrong : ⊥ = cc in absurd wrong
is_number elements action s (Some m) same told n is =
    let own : m ≡ n = cc in
    let P : ActionElement → Type 0 = λ a. HasElement elements n a in
    let N : ℕ → Type 0 = λ k. HasElement elements k action in
    subst P same (subst N own told)

pub numbered_more : (elements : List Element) (statements : List Standing) (numbers : List (Option ℕ)) (s : Standing) (number : Option ℕ)
    → slice_get statements (length numbers) ≡ Some s → IsNumber elements s number → AreNumbered elements statements numbers
    → AreNumbered elements statements (numbers ++ number ∷ [])
numbered_more elements statements numbers s number at is are i n other kept there =
    elim (get_back numbers number i (Some n) kept) [
      | inl before ↦ are i n other before there
      | inr (last, same) ↦
          let own : s ≡ other = some_same s other (sym at ∙ ap (slice_get statements) (sym last) ∙ there) in
          let P : Standing → Type 0 = λ x. HasElement elements n x.statement.now.action in subst P own (is n (sym same))
    ]

-- the numbers of one more list
pub all_numbered_more : {L : Type 0} (statements : L → List Standing) (elements : List Element) (lists : List L) (known : List (Vec (Option ℕ)))
    (list : L) (numbers : Vec (Option ℕ)) → slice_get lists (length known) ≡ Some list → AreNumbered elements (statements list) numbers.items
    → AreAllNumbered statements elements lists known → AreAllNumbered statements elements lists (known ++ numbers ∷ [])
all_numbered_more {L} statements elements lists known list numbers at own are k other found kept there =
    elim (get_back known numbers k found kept) [
      | inl before ↦ are k other found before there
      | inr (last, same) ↦
          let here : list ≡ other = some_same list other (sym at ∙ ap (slice_get lists) (sym last) ∙ there) in
          let P : L → Type 0 = λ l. AreNumbered elements (statements l) numbers.items in
          let N : Vec (Option ℕ) → Type 0 = λ v. AreNumbered elements (statements other) v.items in
          subst N (sym same) (subst P here own)
    ]

pub none_numbered : {L : Type 0} (statements : L → List Standing) (elements : List Element) (lists : List L) (known : List (Vec (Option ℕ)))
    → known ≡ [] → AreAllNumbered statements elements lists known
none_numbered statements elements lists known none k list numbers at there =
    let P : List (Vec (Option ℕ)) → Type 0 = λ z. slice_get z k ≡ Some numbers in
    let within = slice_get_within [] k numbers (subst P none at) in absurd (omega (arith, within))

-- the numbers of a list, or none
pub numbered_at : {L : Type 0} (statements : L → List Standing) (elements : List Element) (lists : List L) (known : List (Vec (Option ℕ))) (k : ℕ)
    (numbers : List (Option ℕ)) (list : L) → AreNumbersAt known k numbers → slice_get lists k ≡ Some list → AreAllNumbered statements elements lists known
    → AreNumbered elements (statements list) numbers
numbered_at {L} statements elements lists known k numbers list (inl (of_list, at, is)) there all =
    let P : List (Option ℕ) → Type 0 = AreNumbered elements (statements list) in subst P (sym is) (all k list of_list at there)
numbered_at {L} statements elements lists known k numbers list (inr none) there all = no_numbers elements (statements list) numbers none

pub adds_at : (world : WorldValue) (a : ℕ) (text : List ℕ) (listed old new : List Standing) → IsAction world a text → Adds text listed old new
    → AddsAt world a listed old new
adds_at world a text listed old new asked adds action named =
    let own : text ≡ action = some_same text action (sym asked ∙ named) in
    let P : List ℕ → Type 0 = λ t. Adds t listed old new in subst P own adds

pub on_ok : {A E : Type 0} (result : Result A E) (P Q : Type 0) → (P → Q) → OnOk result P → OnOk result Q
on_ok (Ok x) P Q on p = on p
on_ok (Err e) P Q on p = tt
