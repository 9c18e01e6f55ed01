-- Which texts a walk spells: the letters that may follow a text, where of the characters that nothing waits for one stands for all;
-- and, without regard to case, in which case they are shown. LOGIC 2.2.
use Rattle.std.specs.Prelude.{◌≡◌, ◌≢◌, ◌⊎◌, ◌<◌, ◌++◌, ℕ, Bool, false, true, List, ◌∷◌, Contains, Some, codes, map}
use Rattle.std.specs.Char.{IsScalar}
use Rattle.std.specs.declared.cmp.Ordering.TheVariants.{Less}
use Rattle.iam_glob.specs.Glob.{folded}
use Rattle.iam_kinds.specs.Code.{first_stage, rest_at, waited_in, waits_for}
use Rattle.iam_kinds.specs.Kinds.{IsIn, Question, folded_question}
use Rattle.iam_kinds.specs.Places.{place_cmp}
use Rattle.iam_kinds.specs.States.{IsPlace, Machine, machine_of, stage_behind}
use Rattle.iam_kinds.specs.declared.grammar.Stage.{Stage}
use Rattle.iam_kinds.specs.declared.table.Pattern.{Pattern}
use Rattle.iam_kinds.specs.declared.table.Place.{Place}

-- a pattern waits for the character behind the text, at some place of the state there, or the grammar does
abbrev pub IsAwaited : Machine → List ℕ → ℕ → Type 0
IsAwaited machine before c =
    ((k : Place) × IsPlace machine before k × (waits_for (rest_at machine.patterns k) ≡ Some c))
    ⊎ ((stage : Stage) × (stage_behind before (first_stage machine.grammar) ≡ Some stage) × Contains (waited_in stage.part) c)

-- nothing waits for the character, and some text of the grammar goes on with it
abbrev pub IsOther : Machine → List ℕ → ℕ → Type 0
IsOther machine before c = IsScalar c × (¬ IsAwaited machine before c) × ((rest : List ℕ) × IsIn machine.grammar (before ++ (c ∷ rest)))

-- so it is, and no named text goes on with it
abbrev pub IsFreeOther : Machine → List (List ℕ) → List ℕ → ℕ → Type 0
IsFreeOther machine named before c = IsOther machine before c × ((rest : List ℕ) → ¬ Contains named (before ++ (c ∷ rest)))

-- the characters that are taken first, in this order
abbrev pub first_letters : List ℕ
first_letters = codes "xabcdefghijklmnopqrstuvwyz0123456789"

-- the first character of which this holds: of those the first in their order, and where it holds of none of them the least
abbrev pub IsFirst : (ℕ → Type 0) → ℕ → Type 0
IsFirst holds c =
    holds c × (
    ((front rest : List ℕ) × (first_letters ≡ front ++ (c ∷ rest)) × ((d : ℕ) → Contains front d → ¬ holds d))
    ⊎ (((d : ℕ) → Contains first_letters d → ¬ holds d) × ((d : ℕ) → d < c → ¬ holds d))
    )

-- a letter behind the text: a character that is waited for, the first free one of the others, or each of these where none is free
abbrev pub IsLetter : Machine → List (List ℕ) → List ℕ → ℕ → Type 0
IsLetter machine named before c =
    IsAwaited machine before c
    ⊎ (IsFirst (IsFreeOther machine named before) c ⊎ (((d : ℕ) → ¬ IsFreeOther machine named before d) × IsOther machine before c))

-- each character of the text is such a one behind those before it
abbrev pub EachBehind : (List ℕ → ℕ → Type 0) → List ℕ → Type 0
EachBehind holds text = (before rest : List ℕ) (c : ℕ) → text ≡ before ++ (c ∷ rest) → holds before c

-- each character is a letter
abbrev pub IsSpelledBy : Machine → List (List ℕ) → List ℕ → Type 0
IsSpelledBy machine named text = EachBehind (IsLetter machine named) text

abbrev pub IsSpelled : Question → List ℕ → Type 0
IsSpelled question text = IsSpelledBy (machine_of question) question.named text

-- ---- without regard to case: in which case a character is shown
-- the first of these places at which the character is waited for
abbrev pub IsFirstPlace : (Place → Type 0) → List Pattern → ℕ → Place → Type 0
IsFirstPlace is_place patterns c k =
    is_place k × (waits_for (rest_at patterns k) ≡ Some c)
    × ((j : Place) → is_place j → waits_for (rest_at patterns j) ≡ Some c → (k ≡ j) ⊎ (place_cmp k j ≡ Less))

-- the character is as patterns have it that are not folded, at the first of these places where the folded ones wait for it; where they
-- wait for it at none, it is as folding leaves it
abbrev pub IsCasedAt : (Place → Type 0) → List Pattern → List Pattern → ℕ → Type 0
IsCasedAt is_place patterns own c =
    ((k : Place) × IsFirstPlace is_place patterns (folded c) k × (waits_for (rest_at own k) ≡ Some c))
    ⊎ (((k : Place) → is_place k → waits_for (rest_at patterns k) ≢ Some (folded c)) × (folded c ≡ c))

-- so it is at the places of the state behind a folded text; where the grammar is of folded texts, it is as folding leaves it
abbrev pub IsCasedBehind : Bool → Question → List ℕ → ℕ → Type 0
IsCasedBehind true question before c = folded c ≡ c
IsCasedBehind false question before c =
    IsCasedAt (IsPlace (machine_of (folded_question question)) before) (machine_of (folded_question question)).patterns
    (machine_of question).patterns c

-- each character of the text is so
abbrev pub IsCased : Question → List ℕ → Type 0
IsCased question text = EachBehind (λ before c. IsCasedBehind (first_stage question.grammar).fold question (map folded before) c) text
