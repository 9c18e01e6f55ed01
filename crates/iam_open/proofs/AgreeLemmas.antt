-- Contexts that agree on the keys that are known: what asks for no other key becomes the same in them, and holds in both or in neither.
use Rattle.std.proofs.Common.{◌≡◌, ◌↔◌, ◌∙◌, ℕ, zero, suc, List, [], ◌∷◌, ◌++◌, All, Bool, true, false, ◌||◌, ◌&&◌, cond, not, Option, Some, ap, arith, map, option_map, refl, sym, subst}
use Rattle.std.proofs.lemmas.List.Folds.{list_any-append}
use Rattle.std.proofs.lemmas.Slice.Eq.{bytes_eq-Decides}
use Rattle.std.specs.Char.{to_ascii_lowercase}
use Rattle.std.specs.List.{find, list_any}
use Rattle.std.specs.Option.{option_and_then, option_map_or}
use Rattle.std.specs.Str.{bytes_eq, chars}
use Rattle.iam_condition.specs.Entry.{EntryValue}
use Rattle.iam_condition.specs.declared.operand.Operand.{Operand}
use Rattle.iam_condition.specs.declared.operand.Operand.TheVariants as operand
use Rattle.iam_context.specs.Context.{ContextValue, has_key, is_same_key, keys_of, values_of}
use Rattle.iam_context.specs.Resolve.{one_or, piece_signs, resolved}
use Rattle.iam_glob.specs.Glob.{plain_sign}
use Rattle.iam_glob.specs.declared.sign.Sign.{Sign}
use Rattle.iam_text.specs.declared.draft.Piece.{Piece}
use Rattle.iam_text.specs.declared.draft.Piece.TheVariants.{Plain, Escaped, Variable}
use Rattle.iam_match.specs.Entry.{EntryHolds, HoldsOn}
use Rattle.iam_unasked.specs.Asks.{AgreeBut, entry_asks, operand_asks, piece_asks}
use Rattle.iam_open.specs.Code.Known.{AgreeOn, entry_beyond, has_some, operand_beyond, piece_beyond, text_beyond}
use Rattle.iam_open.proofs.ListLemmas.{neither, neither_is}

abbrev Entry : Type 0
Entry = List ℕ × List (List ℕ)

is_known : (b : Bool) → not b ≡ false → b ≡ true
is_known true is = refl
is_known false is = absurd (let wrong : ⊥ = cc in wrong)

-- ---- keys that are the same without regard to case

pub same_in : (keys : List (List ℕ)) (one other : List ℕ) → is_same_key one other ≡ true → has_key keys one ≡ has_key keys other
same_in [] one other same = refl
same_in (key ∷ keys) one other same =
    let alike : map to_ascii_lowercase one ≡ map to_ascii_lowercase other =
    (bytes_eq-Decides (map to_ascii_lowercase one) (map to_ascii_lowercase other)).0 same in
    ap (λ (text : List ℕ). bytes_eq (map to_ascii_lowercase key) text || has_key keys one) alike
    ∙ ap (λ b. is_same_key key other || b) (same_in keys one other same)

-- those of the keys that are not known
abbrev unknown : List (List ℕ) → List (List ℕ) → List (List ℕ)
unknown known [] = []
unknown known (key ∷ keys) = cond (has_key known key) (unknown known keys) (key ∷ unknown known keys)

-- none of the keys is known
abbrev AreApart : List (List ℕ) → List (List ℕ) → Type 0
AreApart known keys = (key : List ℕ) → has_key known key ≡ true → has_key keys key ≡ false

apart_more : (known : List (List ℕ)) (k : List ℕ) (keys : List (List ℕ)) (key : List ℕ) → has_key known key ≡ true
    → has_key (unknown known keys) key ≡ false → has_key (unknown known (k ∷ keys)) key ≡ false
apart_more known k keys key is rest = go (has_key known k) refl
  where
    unlike : (b : Bool) → is_same_key k key ≡ b → has_key known k ≡ false → is_same_key k key ≡ false
    unlike false same free = same
    unlike true same free = absurd (let wrong : true ≡ false = sym is ∙ sym (same_in known k key same) ∙ free in let bad : ⊥ = cc in bad)

    go : (b : Bool) → has_key known k ≡ b → has_key (cond b (unknown known keys) (k ∷ unknown known keys)) key ≡ false
    go true there = rest
    go false free = neither_is (is_same_key k key) (has_key (unknown known keys) key) (unlike (is_same_key k key) refl free) rest

unknown_apart : (known keys : List (List ℕ)) → AreApart known (unknown known keys)
unknown_apart known [] key is = refl
unknown_apart known (k ∷ keys) key is = apart_more known k keys key is (unknown_apart known keys key is)

-- a key that is neither known nor among the others is none of them
all_more : (known : List (List ℕ)) (k : List ℕ) (keys : List (List ℕ)) (key : List ℕ) → has_key known key ≡ false
    → (has_key (unknown known keys) key ≡ false → has_key keys key ≡ false) → has_key (unknown known (k ∷ keys)) key ≡ false
    → has_key (k ∷ keys) key ≡ false
all_more known k keys key free further none = go (has_key known k) refl none
  where
    unlike : (b : Bool) → is_same_key k key ≡ b → has_key known k ≡ true → is_same_key k key ≡ false
    unlike false same is = same
    unlike true same is = absurd (let wrong : true ≡ false = sym is ∙ same_in known k key same ∙ free in let bad : ⊥ = cc in bad)

    go : (b : Bool) → has_key known k ≡ b → has_key (cond b (unknown known keys) (k ∷ unknown known keys)) key ≡ false
        → has_key (k ∷ keys) key ≡ false
    go true is rest = neither_is (is_same_key k key) (has_key keys key) (unlike (is_same_key k key) refl is) (further rest)
    go false is rest =
        let each = neither (is_same_key k key) (has_key (unknown known keys) key) rest in
        neither_is (is_same_key k key) (has_key keys key) each.0 (further each.1)

unknown_all : (known keys : List (List ℕ)) (key : List ℕ) → has_key known key ≡ false → has_key (unknown known keys) key ≡ false
    → has_key keys key ≡ false
unknown_all known [] key free none = refl
unknown_all known (k ∷ keys) key free none = all_more known k keys key free (unknown_all known keys key free) none

-- ---- what asks for known keys alone

-- what asks for known keys alone asks for none of those
piece_free : (known keys : List (List ℕ)) → AreApart known keys → (piece : Piece) → piece_beyond known piece ≡ false → piece_asks keys piece ≡ false
piece_free known keys apart (Plain sign) free = refl
piece_free known keys apart (Escaped c) free = refl
piece_free known keys apart (Variable key default) free = apart key (is_known (has_key known key) free)

text_free : (known keys : List (List ℕ)) → AreApart known keys → (pieces : List Piece) → text_beyond known pieces ≡ false
    → list_any (piece_asks keys) pieces ≡ false
text_free known keys apart [] free = refl
text_free known keys apart (piece ∷ pieces) free =
    let each = neither (piece_beyond known piece) (text_beyond known pieces) free in
    neither_is (piece_asks keys piece) (list_any (piece_asks keys) pieces) (piece_free known keys apart piece each.0)
    (text_free known keys apart pieces each.1)

operand_free : (known keys : List (List ℕ)) → AreApart known keys → (value : Operand) → operand_beyond known value ≡ false
    → operand_asks keys value ≡ false
operand_free known keys apart (operand.Text pieces) free = text_free known keys apart pieces free
operand_free known keys apart (operand.Number n) free = refl
operand_free known keys apart (operand.Instant nanos) free = refl
operand_free known keys apart (operand.Truth truth) free = refl
operand_free known keys apart (operand.Bytes bytes) free = refl
operand_free known keys apart (operand.Range range) free = refl

operands_free : (known keys : List (List ℕ)) → AreApart known keys → (values : List Operand) → list_any (operand_beyond known) values ≡ false
    → list_any (operand_asks keys) values ≡ false
operands_free known keys apart [] free = refl
operands_free known keys apart (value ∷ values) free =
    let each = neither (operand_beyond known value) (list_any (operand_beyond known) values) free in
    neither_is (operand_asks keys value) (list_any (operand_asks keys) values) (operand_free known keys apart value each.0)
    (operands_free known keys apart values each.1)

entry_free : (known keys : List (List ℕ)) → AreApart known keys → (entry : EntryValue) → has_key known entry.key ≡ true
    → list_any (operand_beyond known) entry.values ≡ false → list_any (entry_asks keys) (entry ∷ []) ≡ false
entry_free known keys apart entry is free =
    neither_is (entry_asks keys entry) false
    (neither_is (has_key keys entry.key) (list_any (operand_asks keys) entry.values) (apart entry.key is) (operands_free known keys apart entry.values free))
    refl

-- a text becomes the same
piece_same : (known : List (List ℕ)) (one other : ContextValue) → AgreeOn known one other → (piece : Piece) → piece_beyond known piece ≡ false
    → piece_signs one piece ≡ piece_signs other piece
piece_same known one other agree (Plain sign) free = refl
piece_same known one other agree (Escaped c) free = refl
piece_same known one other agree (Variable key default) free =
    ap (λ (values : List (List ℕ)). option_map (λ value. map plain_sign (chars value)) (one_or values default))
    (agree key (is_known (has_key known key) free))

pub resolved_same : (known : List (List ℕ)) (one other : ContextValue) → AgreeOn known one other → (pieces : List Piece)
    → text_beyond known pieces ≡ false → resolved one pieces ≡ resolved other pieces
resolved_same known one other agree [] free = refl
resolved_same known one other agree (piece ∷ pieces) free =
    let each = neither (piece_beyond known piece) (text_beyond known pieces) free in
    ap (λ (first : Option (List Sign)). option_and_then (λ signs. option_map (λ rest. signs ++ rest) (resolved one pieces)) first)
    (piece_same known one other agree piece each.0)
    ∙ ap (λ (rest : Option (List Sign)). option_and_then (λ signs. option_map (λ more. signs ++ more) rest) (piece_signs other piece))
    (resolved_same known one other agree pieces each.1)

-- ---- contexts that agree on what is known agree on all but what is not

-- a key that a context does not have has no values
pub no_values : (context : ContextValue) (key : List ℕ) → has_key (keys_of context) key ≡ false → values_of context key ≡ []
no_values [] key free = refl
no_values (entry ∷ context) key free =
    let each = neither (is_same_key entry.0 key) (has_key (keys_of context) key) free in
    ap (λ b. option_map_or (λ (e : Entry). e.1) (cond b (Some entry) (find (λ (e : Entry). is_same_key e.0 key) context)) []) each.0
    ∙ no_values context key each.1

abbrev beyond : List (List ℕ) → ContextValue → ContextValue → List (List ℕ)
beyond known one other = unknown known (keys_of one) ++ unknown known (keys_of other)

has_both : (xs ys : List (List ℕ)) (key : List ℕ) → has_key (xs ++ ys) key ≡ (has_key xs key || has_key ys key)
has_both xs ys key = list_any-append (λ k. is_same_key k key) xs ys

agree_but : (known : List (List ℕ)) (one other : ContextValue) → AgreeOn known one other → AgreeBut (beyond known one other) one other
agree_but known one other agree key free = go (has_key known key) refl
  where
    go : (b : Bool) → has_key known key ≡ b → values_of one key ≡ values_of other key
    go true is = agree key is
    go false not_known =
        let each = neither (has_key (unknown known (keys_of one)) key) (has_key (unknown known (keys_of other)) key)
        (sym (has_both (unknown known (keys_of one)) (unknown known (keys_of other)) key) ∙ free) in
        no_values one key (unknown_all known (keys_of one) key not_known each.0)
        ∙ sym (no_values other key (unknown_all known (keys_of other) key not_known each.1))

beyond_apart : (known : List (List ℕ)) (one other : ContextValue) → AreApart known (beyond known one other)
beyond_apart known one other key is =
    has_both (unknown known (keys_of one)) (unknown known (keys_of other)) key
    ∙ neither_is (has_key (unknown known (keys_of one)) key) (has_key (unknown known (keys_of other)) key)
    (unknown_apart known (keys_of one) key is) (unknown_apart known (keys_of other) key is)

abbrev pub UnaskedKeys : Type 0
UnaskedKeys =
    (keys : List (List ℕ)) (one other : ContextValue) (entries : List EntryValue) → AgreeBut keys one other
    → list_any (entry_asks keys) entries ≡ false → All (EntryHolds one) entries ↔ All (EntryHolds other) entries

alone : (context : ContextValue) (entry : EntryValue) → EntryHolds context entry → All (EntryHolds context) (entry ∷ [])
alone context entry held zero d below = held
alone context entry held (suc k) d below = absurd (let wrong : ⊥ = omega (arith, below) in wrong)

-- where the values ask for known keys alone
by_values : UnaskedKeys → (known : List (List ℕ)) (one other : ContextValue) → AgreeOn known one other → (entry : EntryValue)
    → has_key known entry.key ≡ true → list_any (operand_beyond known) entry.values ≡ false → EntryHolds one entry ↔ EntryHolds other entry
by_values unasked known one other agree entry is free =
    let keys = beyond known one other in
    let asks = entry_free known keys (beyond_apart known one other) entry is free in
    let same = unasked keys one other (entry ∷ []) (agree_but known one other agree) asks in (
      λ held. same.0 (alone one entry held) 0 entry (omega arith),
      λ held. same.1 (alone other entry held) 0 entry (omega arith),
    )

-- where the key has no value
by_none : (one other : ContextValue) (entry : EntryValue) → values_of one entry.key ≡ [] → values_of other entry.key ≡ []
    → EntryHolds one entry ↔ EntryHolds other entry
by_none one other entry none nor = (
  λ held.
      let bare : HoldsOn one entry [] = subst (λ (texts : List (List ℕ)). HoldsOn one entry texts) none held in
      subst (λ (texts : List (List ℕ)). HoldsOn other entry texts) (sym nor) bare,
  λ held.
      let bare : HoldsOn other entry [] = subst (λ (texts : List (List ℕ)). HoldsOn other entry texts) nor held in
      subst (λ (texts : List (List ℕ)). HoldsOn one entry texts) (sym none) bare,
)

-- an entry that asks for known keys alone holds in both or in neither
pub entry_same : UnaskedKeys → (known : List (List ℕ)) (one other : ContextValue) → AgreeOn known one other → (entry : EntryValue)
    → entry_beyond known one entry ≡ false → EntryHolds one entry ↔ EntryHolds other entry
entry_same unasked known one other agree entry free = go (values_of one entry.key) refl each.1
  where
    each : (not (has_key known entry.key) ≡ false)
        × ((has_some (values_of one entry.key) && list_any (operand_beyond known) entry.values) ≡ false)
    each =
        neither (not (has_key known entry.key)) (has_some (values_of one entry.key) && list_any (operand_beyond known) entry.values) free

    is : has_key known entry.key ≡ true
    is = is_known (has_key known entry.key) each.0

    go : (texts : List (List ℕ)) → values_of one entry.key ≡ texts
        → (has_some (values_of one entry.key) && list_any (operand_beyond known) entry.values) ≡ false
        → EntryHolds one entry ↔ EntryHolds other entry
    go [] none both = by_none one other entry none (sym (agree entry.key is) ∙ none)
    go (text ∷ texts) some both =
        by_values unasked known one other agree entry is
        (sym (ap (λ (t : List (List ℕ)). has_some t && list_any (operand_beyond known) entry.values) some) ∙ both)
