-- What conditions say in contexts that agree on all keys that they ask for.
use Rattle.std.proofs.Common.{◌≡◌, ◌↔◌, ◌∙◌, ℕ, zero, suc, ◌<◌, List, [], ◌∷◌, ◌++◌, All, Bool, true, false, ◌||◌, MatchBool, Option, None, Some, IsSome, arith, cond, length, map, option_map, get_or, refl, sym, ap, subst}
use Rattle.std.proofs.lemmas.List.{append-nil}
use Rattle.std.proofs.lemmas.List.Folds.{find-append}
use Rattle.std.specs.List.{Any, find, list_any}
use Rattle.std.specs.Option.{option_and_then, option_map_or, option_or}
use Rattle.std.specs.Str.{chars}
use Rattle.iam_glob.specs.declared.sign.Sign.{Sign}
use Rattle.iam_glob.specs.Glob.{plain_sign}
use Rattle.iam_text.specs.declared.draft.Piece.{Piece}
use Rattle.iam_text.specs.declared.draft.Piece.TheVariants.{Plain, Escaped, Variable}
use Rattle.iam_context.specs.Context.{ContextValue, has_key, is_same_key, joined, keys_of, values_of}
use Rattle.iam_context.specs.Resolve.{one_or, piece_signs, resolved}
use Rattle.iam_condition.specs.Entry.{EntryValue}
use Rattle.iam_condition.specs.declared.operand.Operand.{Operand}
use Rattle.iam_condition.specs.declared.operator.Base.{Base}
use Rattle.iam_condition.specs.declared.operator.Base.TheVariants.{Text, Arn, Number, Date, Truth, Binary, Address, Null}
use Rattle.iam_condition.specs.declared.operator.Operator.{Operator}
use Rattle.iam_match.specs.Entry.{EntryHolds, HasTruth, HoldsOn, HoldsWith, Resolves, ResolvesTo, Satisfies, ValueMatches, asks_every, is_null}
use Rattle.iam_unasked.specs.Asks.{AgreeBut, entry_asks, operand_asks, piece_asks}

abbrev Entry : Type 0
Entry = List ℕ × List (List ℕ)

-- neither is true
pub neither : (a b : Bool) → (a || b) ≡ false → (a ≡ false) × (b ≡ false)
neither true b free = absurd (let wrong : ⊥ = cc in wrong)
neither false b free = (refl, free)

-- no element passes the test
none_passes : {X : Type 0} (test : X → Bool) (xs : List X) → list_any test xs ≡ false → (k : ℕ) (d : X) → k < length xs → test (get_or xs k d) ≡ false
none_passes test [] free k d below = absurd (omega arith)
none_passes test (x ∷ xs) free zero d below = (neither (test x) (list_any test xs) free).0
none_passes test (x ∷ xs) free (suc k) d below =
    none_passes test xs (neither (test x) (list_any test xs) free).1 k d (let b : k < length xs = omega arith in b)

back : (keys : List (List ℕ)) (one other : ContextValue) → AgreeBut keys one other → AgreeBut keys other one
back keys one other agree = λ key free. sym (agree key free)

-- a text becomes the same
piece_same : (keys : List (List ℕ)) (one other : ContextValue) → AgreeBut keys one other → (piece : Piece) → piece_asks keys piece ≡ false
    → piece_signs one piece ≡ piece_signs other piece
piece_same keys one other agree (Plain sign) free = refl
piece_same keys one other agree (Escaped c) free = refl
piece_same keys one other agree (Variable key default) free =
    ap (λ (values : List (List ℕ)). option_map (λ value. map plain_sign (chars value)) (one_or values default)) (agree key free)

resolved_same : (keys : List (List ℕ)) (one other : ContextValue) → AgreeBut keys one other → (pieces : List Piece)
    → list_any (piece_asks keys) pieces ≡ false → resolved one pieces ≡ resolved other pieces
resolved_same keys one other agree [] free = refl
resolved_same keys one other agree (piece ∷ pieces) free =
    let both = neither (piece_asks keys piece) (list_any (piece_asks keys) pieces) free in
    ap (λ (first : Option (List Sign)). option_and_then (λ signs. option_map (λ rest. signs ++ rest) (resolved one pieces)) first)
    (piece_same keys one other agree piece both.0)
    ∙ ap (λ (rest : Option (List Sign)). option_and_then (λ signs. option_map (λ more. signs ++ more) rest) (piece_signs other piece))
    (resolved_same keys one other agree pieces both.1)

-- and a text of the request that matches a value matches it still
becomes : (keys : List (List ℕ)) (one other : ContextValue) → AgreeBut keys one other → (value : Operand) → operand_asks keys value ≡ false
    → (P : List Sign → Type 0) → ResolvesTo one value P → ResolvesTo other value P
becomes keys one other agree value free P (pieces, signs, is, to, holds) =
    (pieces, signs, is, sym (resolved_same keys one other agree pieces (ap (operand_asks keys) (sym is) ∙ free)) ∙ to, holds)

matches_still : (keys : List (List ℕ)) (one other : ContextValue) → AgreeBut keys one other → (base : Base) (text : List ℕ) (value : Operand)
    → operand_asks keys value ≡ false → ValueMatches one base text value → ValueMatches other base text value
matches_still keys one other agree (Text test) text value free matched = becomes keys one other agree value free _ matched
matches_still keys one other agree Arn text value free matched = becomes keys one other agree value free _ matched
matches_still keys one other agree (Number order) text value free matched = matched
matches_still keys one other agree (Date order) text value free matched = matched
matches_still keys one other agree Truth text value free matched = matched
matches_still keys one other agree Binary text value free matched = matched
matches_still keys one other agree Address text value free matched = matched
matches_still keys one other agree Null text value free matched = matched

some_still : (keys : List (List ℕ)) (one other : ContextValue) → AgreeBut keys one other → (base : Base) (text : List ℕ) (values : List Operand)
    → list_any (operand_asks keys) values ≡ false → Any (ValueMatches one base text) values → Any (ValueMatches other base text) values
some_still keys one other agree base text values free (k, value, below, at, matched) = (
  k,
  value,
  below,
  at,
  matches_still keys one other agree base text value (ap (operand_asks keys) (sym at) ∙ none_passes (operand_asks keys) values free k value below) matched,
)

-- it satisfies an operator still
satisfies_still : (keys : List (List ℕ)) (one other : ContextValue) → AgreeBut keys one other → (operator : Operator) (values : List Operand)
    → list_any (operand_asks keys) values ≡ false → (text : List ℕ) → Satisfies one operator values text → Satisfies other operator values text
satisfies_still keys one other agree operator values free text satisfied = go operator.is_negated satisfied
  where
    resolve : All (Resolves one operator.base) values → All (Resolves other operator.base) values
    resolve all = λ k d below texts pieces is.
        let value = get_or values k d in
        let unasked = ap (operand_asks keys) (sym is) ∙ none_passes (operand_asks keys) values free k d below in
        subst (λ (o : Option (List Sign)). IsSome o) (resolved_same keys one other agree pieces unasked) (all k d below texts pieces is)

    go : (negated : Bool)
        → MatchBool negated (All (Resolves one operator.base) values × ¬ Any (ValueMatches one operator.base text) values)
        (Any (ValueMatches one operator.base text) values)
        → MatchBool negated (All (Resolves other operator.base) values × ¬ Any (ValueMatches other operator.base text) values)
        (Any (ValueMatches other operator.base text) values)
    go true (all, none) =
        (resolve all, λ some. none (some_still keys other one (back keys one other agree) operator.base text values free some))
    go false some = some_still keys one other agree operator.base text values free some

-- and an entry holds still
holds_with_still : (keys : List (List ℕ)) (one other : ContextValue) → AgreeBut keys one other → (operator : Operator) (values : List Operand)
    → list_any (operand_asks keys) values ≡ false → (texts : List (List ℕ)) → HoldsWith one operator values texts
    → HoldsWith other operator values texts
holds_with_still keys one other agree operator values free texts held = go (is_null operator.base) (asks_every operator.quantifier operator.is_negated) held
  where
    go : (null every : Bool)
        → MatchBool null (HasTruth false values)
        (MatchBool every (All (Satisfies one operator values) texts) (Any (Satisfies one operator values) texts))
        → MatchBool null (HasTruth false values)
        (MatchBool every (All (Satisfies other operator values) texts) (Any (Satisfies other operator values) texts))
    go true every has = has
    go false true all = λ k d below. satisfies_still keys one other agree operator values free (get_or texts k d) (all k d below)
    go false false (k, text, below, at, satisfied) =
        (k, text, below, at, satisfies_still keys one other agree operator values free text satisfied)

holds_on_still : (keys : List (List ℕ)) (one other : ContextValue) → AgreeBut keys one other → (entry : EntryValue)
    → list_any (operand_asks keys) entry.values ≡ false → (texts : List (List ℕ)) → HoldsOn one entry texts → HoldsOn other entry texts
holds_on_still keys one other agree entry free [] held = held
holds_on_still keys one other agree entry free (text ∷ texts) held =
    holds_with_still keys one other agree entry.operator entry.values free (text ∷ texts) held

holds_still : (keys : List (List ℕ)) (one other : ContextValue) → AgreeBut keys one other → (entry : EntryValue) → entry_asks keys entry ≡ false
    → EntryHolds one entry → EntryHolds other entry
holds_still keys one other agree entry free held =
    let both = neither (has_key keys entry.key) (list_any (operand_asks keys) entry.values) free in
    subst (λ (texts : List (List ℕ)). HoldsOn other entry texts) (agree entry.key both.0)
    (holds_on_still keys one other agree entry both.1 (values_of one entry.key) held)

all_still : (keys : List (List ℕ)) (one other : ContextValue) → AgreeBut keys one other → (entries : List EntryValue)
    → list_any (entry_asks keys) entries ≡ false → All (EntryHolds one) entries → All (EntryHolds other) entries
all_still keys one other agree entries free all = λ k d below.
    holds_still keys one other agree (get_or entries k d) (none_passes (entry_asks keys) entries free k d below) (all k d below)

pub all_same : (keys : List (List ℕ)) (one other : ContextValue) (entries : List EntryValue) → AgreeBut keys one other
    → list_any (entry_asks keys) entries ≡ false → All (EntryHolds one) entries ↔ All (EntryHolds other) entries
all_same keys one other entries agree free =
    (all_still keys one other agree entries free, all_still keys other one (back keys one other agree) entries free)

-- a key that a part has not is not found there
not_found : (part : ContextValue) (key : List ℕ) → has_key (keys_of part) key ≡ false → find (λ (e : Entry). is_same_key e.0 key) part ≡ None
not_found [] key free = refl
not_found (entry ∷ part) key free =
    let both = neither (is_same_key entry.0 key) (has_key (keys_of part) key) free in
    ap (λ b. cond b (Some entry) (find (λ (e : Entry). is_same_key e.0 key) part)) both.0 ∙ not_found part key both.1

-- in joined parts a key is found in the first part that has it
found_in : (first second third derived : ContextValue) (key : List ℕ) → find (λ (e : Entry). is_same_key e.0 key) (joined (first ∷ (second ∷ (third ∷ []))) derived)
    ≡ option_or (option_or (find (λ (e : Entry). is_same_key e.0 key) first)
    (option_or (find (λ (e : Entry). is_same_key e.0 key) second) (find (λ (e : Entry). is_same_key e.0 key) third)))
    (find (λ (e : Entry). is_same_key e.0 key) derived)
found_in first second third derived key =
    let test : Entry → Bool = λ e. is_same_key e.0 key in
    find-append test (first ++ (second ++ (third ++ []))) derived
    ∙ ap (λ (o : Option Entry). option_or o (find test derived)) (
    find-append test first (second ++ (third ++ []))
    ∙ ap (λ (o : Option Entry). option_or (find test first) o) (
    find-append test second (third ++ [])
    ∙ ap (λ (l : ContextValue). option_or (find test second) (find test l)) (append-nil third)
    )
    )

pub contexts_agree : (keys : List (List ℕ)) (first second one other derived : ContextValue)
    → ((key : List ℕ) → has_key keys key ≡ false → (has_key (keys_of one) key ≡ false) × (has_key (keys_of other) key ≡ false))
    → AgreeBut keys (joined (first ∷ (second ∷ (one ∷ []))) derived) (joined (first ∷ (second ∷ (other ∷ []))) derived)
contexts_agree keys first second one other derived neither_has = λ key free.
    let test : Entry → Bool = λ e. is_same_key e.0 key in
    let both = neither_has key free in
    ap (λ (o : Option Entry). option_map_or (λ (e : Entry). e.1) o []) (
    found_in first second one derived key
    ∙ ap (λ (o : Option Entry). option_or (option_or (find test first) (option_or (find test second) o)) (find test derived))
    (not_found one key both.0 ∙ sym (not_found other key both.1))
    ∙ sym (found_in first second other derived key)
    )
