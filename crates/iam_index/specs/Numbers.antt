-- The numbers of the action elements of the statements that an index lists, as far as they are known. LOGIC 2.4.
use Rattle.std.specs.Prelude.{◌≡◌, ◌⊎◌, ℕ, List, [], Option, Some}
use Rattle.std.specs.Global.{Vec}
use Rattle.std.specs.List.{slice_get}
use Rattle.iam_decision.specs.declared.scan.Standing.{Standing}
use Rattle.iam_index.specs.Elements.{HasElement}
use Rattle.iam_index.specs.declared.elements.Element.{Element}

-- a number that stands at the place of a statement is that of its action element
abbrev pub AreNumbered : List Element → List Standing → List (Option ℕ) → Type 0
AreNumbered elements statements numbers =
    (i n : ℕ) (s : Standing) → slice_get numbers i ≡ Some (Some n) → slice_get statements i ≡ Some s → HasElement elements n s.statement.now.action

-- so it is for the statements of lists
abbrev pub AreAllNumbered : {L : Type 0} → (L → List Standing) → List Element → List L → List (Vec (Option ℕ)) → Type 0
AreAllNumbered {L} statements elements lists known =
    (k : ℕ) (list : L) (numbers : Vec (Option ℕ)) → slice_get known k ≡ Some numbers → slice_get lists k ≡ Some list
    → AreNumbered elements (statements list) numbers.items

-- these are the numbers of list k, or none
abbrev pub AreNumbersAt : List (Vec (Option ℕ)) → ℕ → List (Option ℕ) → Type 0
AreNumbersAt known k numbers = ((list : Vec (Option ℕ)) × (slice_get known k ≡ Some list) × (numbers ≡ list.items)) ⊎ (numbers ≡ [])
