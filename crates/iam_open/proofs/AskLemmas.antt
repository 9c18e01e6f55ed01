-- The keys that texts, entries and statements ask for, and those of them that are added to others.
use Rattle.std.proofs.Common.{◌≡◌, ◌∙◌, ◌+◌, ◌<◌, ◌≤◌, ℕ, List, [], ◌∷◌, ◌++◌, All, Bool, true, false, ◌||◌, ◌&&◌, not, if◌then◌else◌, ap, arith, length, map, refl, subst, sym, take}
use Rattle.std.proofs.lemmas.List.{take_all}
use Rattle.std.proofs.lemmas.List.Concat.{flat_map-append}
use Rattle.std.proofs.lemmas.List.Folds.{list_any-append}
use Rattle.std.proofs.lemmas.List.{append-nil}
use Rattle.std.proofs.lemmas.Slice.Eq.{bytes_eq-Decides}
use Rattle.std.proofs.Common.{get_or}
use Rattle.std.specs.Char.{to_ascii_lowercase}
use Rattle.std.specs.List.{flat_map, list_any}
use Rattle.iam_condition.specs.Entry.{EntryValue}
use Rattle.iam_condition.specs.declared.operand.Operand.{Operand}
use Rattle.iam_condition.specs.declared.operand.Operand.TheVariants as operand
use Rattle.iam_context.specs.Context.{ContextValue, has_key, is_same_key, values_of}
use Rattle.iam_glob.specs.declared.sign.Sign.{Sign}
use Rattle.iam_open.specs.Asks.{added, all_added, entry_keys, is_beyond, operand_keys, piece_keys, text_keys}
use Rattle.iam_open.specs.Code.Certain.{IfOpen, both, certain_of, either}
use Rattle.iam_open.specs.Code.Known.{entry_beyond, has_some, operand_beyond, text_beyond}
use Rattle.iam_open.specs.declared.certain.Certain.{Certain}
use Rattle.iam_open.specs.declared.certain.Certain.TheVariants.{Always, Never, Open}
use Rattle.iam_open.proofs.ContextLemmas.{has_of}
use Rattle.iam_open.proofs.ListLemmas.{all_front, neither, taken_more}
use Rattle.iam_text.specs.Draft.{plain_draft}
use Rattle.iam_text.specs.declared.draft.Piece.{Piece}
use Rattle.iam_text.specs.declared.draft.Piece.TheVariants.{Plain, Escaped, Variable}

-- ---- tests

first_is : (a b : Bool) → a ≡ true → (a || b) ≡ true
first_is true b is = refl
first_is false b is = absurd (let wrong : ⊥ = cc in wrong)

second_is : (a b : Bool) → b ≡ true → (a || b) ≡ true
second_is true b is = refl
second_is false b is = is

is_true : (b : Bool) → not b ≡ false → b ≡ true
is_true true is = refl
is_true false is = absurd (let wrong : ⊥ = cc in wrong)

-- ---- keys among others

known_has : (known more : List (List ℕ)) (key : List ℕ) → has_key known key ≡ true → has_key (known ++ more) key ≡ true
known_has known more key is = has_of known more key ∙ first_is (has_key known key) (has_key more key) is

more_has : (known more : List (List ℕ)) (key : List ℕ) → has_key more key ≡ true → has_key (known ++ more) key ≡ true
more_has known more key is = has_of known more key ∙ second_is (has_key known key) (has_key more key) is

same_self : (key : List ℕ) → is_same_key key key ≡ true
same_self key = (bytes_eq-Decides (map to_ascii_lowercase key) (map to_ascii_lowercase key)).1 refl

-- each of the keys is one of the others
abbrev AreAmong : List (List ℕ) → List (List ℕ) → Type 0
AreAmong keys others = (key : List ℕ) → has_key keys key ≡ true → has_key others key ≡ true

among_behind : (known keys others : List (List ℕ)) → AreAmong keys others → AreAmong (known ++ keys) (known ++ others)
among_behind known keys others among key is = go (has_key known key) refl
  where
    go : (b : Bool) → has_key known key ≡ b → has_key (known ++ others) key ≡ true
    go true there = known_has known others key there
    go false absent =
        more_has known others key (among key (sym (ap (λ (b : Bool). b || has_key keys key) absent) ∙ (sym (has_of known keys key) ∙ is)))

-- ---- keys that are added

abbrev if_not : Bool → List (List ℕ) → List ℕ → List (List ℕ)
if_not b keys key = if b then keys else keys ++ (key ∷ [])

-- a key that is known, one that stands there, and one that is put behind the others
pub added_known : (known keys : List (List ℕ)) (key : List ℕ) → has_key known key ≡ true → added known keys key ≡ keys
added_known known keys key is = ap (λ (b : Bool). if_not b keys key) (known_has known keys key is)

pub added_there : (known keys : List (List ℕ)) (key : List ℕ) → has_key keys key ≡ true → added known keys key ≡ keys
added_there known keys key is = ap (λ (b : Bool). if_not b keys key) (more_has known keys key is)

pub added_new : (known keys : List (List ℕ)) (key : List ℕ) → has_key known key ≡ false → has_key keys key ≡ false
    → added known keys key ≡ keys ++ (key ∷ [])
added_new known keys key unknown absent =
    ap (λ (b : Bool). if_not b keys key)
    (has_of known keys key ∙ ap (λ (b : Bool). b || has_key keys key) unknown ∙ absent)

pub all_added_append : (known keys xs ys : List (List ℕ)) → all_added known keys (xs ++ ys) ≡ all_added known (all_added known keys xs) ys
all_added_append known keys [] ys = refl
all_added_append known keys (x ∷ xs) ys = all_added_append known (added known keys x) xs ys

among_added : (known keys : List (List ℕ)) (key : List ℕ) → AreAmong keys (added known keys key)
among_added known keys key = go (has_key (known ++ keys) key)
  where
    go : (b : Bool) → AreAmong keys (if_not b keys key)
    go true k is = is
    go false k is = known_has keys (key ∷ []) k is

among_all : (known keys asked : List (List ℕ)) → AreAmong keys (all_added known keys asked)
among_all known keys [] k is = is
among_all known keys (key ∷ asked) k is = among_all known (added known keys key) asked k (among_added known keys key k is)

has_added : (known keys : List (List ℕ)) (key : List ℕ) → has_key (known ++ added known keys key) key ≡ true
has_added known keys key = go (has_key (known ++ keys) key) refl
  where
    go : (b : Bool) → has_key (known ++ keys) key ≡ b → has_key (known ++ if_not b keys key) key ≡ true
    go true is = is
    go false is =
        more_has known (keys ++ (key ∷ [])) key (more_has keys (key ∷ []) key (first_is (is_same_key key key) false (same_self key)))

-- each of those that are asked for is known, or one of these
pub none_beyond : (known keys asked : List (List ℕ)) → is_beyond (known ++ all_added known keys asked) asked ≡ false
none_beyond known keys [] = refl
none_beyond known keys (key ∷ asked) =
    let more = added known keys key in
    let all = all_added known more asked in
    let there : has_key (known ++ all) key ≡ true =
    among_behind known more all (among_all known more asked) key (has_added known keys key) in
    ap (λ (b : Bool). not b || is_beyond (known ++ all) asked) there ∙ none_beyond known more asked

-- ---- of all of a list

flat_taken : {X : Type 0} (f : X → List (List ℕ)) (xs : List X) (i : ℕ) (x : X) → i < length xs → x ≡ get_or xs i x
    → flat_map f (take (i + 1) xs) ≡ flat_map f (take i xs) ++ f x
flat_taken {X} f xs i x below at =
    ap (λ (l : List X). flat_map f l) (taken_more xs i x below at) ∙ flat_map-append f (take i xs) (x ∷ [])
    ∙ ap (λ (l : List (List ℕ)). flat_map f (take i xs) ++ l) (append-nil (f x))

pub added_more : {X : Type 0} (f : X → List (List ℕ)) (known start before after : List (List ℕ)) (xs : List X) (i : ℕ) (x : X) → i < length xs
    → x ≡ get_or xs i x → before ≡ all_added known start (flat_map f (take i xs)) → after ≡ all_added known before (f x)
    → after ≡ all_added known start (flat_map f (take (i + 1) xs))
added_more {X} f known start before after xs i x below at so_far here =
    here ∙ ap (λ (keys : List (List ℕ)). all_added known keys (f x)) so_far ∙ sym (all_added_append known start (flat_map f (take i xs)) (f x))
    ∙ ap (all_added known start) (sym (flat_taken f xs i x below at))

pub added_taken : {X : Type 0} (f : X → List (List ℕ)) (known start after : List (List ℕ)) (xs : List X) (i : ℕ) → length xs ≤ i
    → after ≡ all_added known start (flat_map f (take i xs)) → after ≡ all_added known start (flat_map f xs)
added_taken {X} f known start after xs i past is = is ∙ ap (λ (l : List X). all_added known start (flat_map f l)) (take_all i xs past)

-- ---- texts

plain_keys : (signs : List Sign) → text_keys (plain_draft signs) ≡ []
plain_keys [] = refl
plain_keys (sign ∷ signs) = plain_keys signs

keys_over : (pieces rest : List Piece) (front : List Sign) (piece : Piece) → pieces ≡ plain_draft front ++ (piece ∷ rest)
    → text_keys pieces ≡ piece_keys piece ++ text_keys rest
keys_over pieces rest front piece is =
    ap text_keys is ∙ flat_map-append piece_keys (plain_draft front) (piece ∷ rest)
    ∙ ap (λ (l : List (List ℕ)). l ++ (piece_keys piece ++ text_keys rest)) (plain_keys front)

-- a text is as much as is left of it
pub added_form : (known start before after : List (List ℕ)) (text pieces rest : List Piece) (front : List Sign) (piece : Piece)
    → pieces ≡ plain_draft front ++ (piece ∷ rest) → all_added known start (text_keys text) ≡ all_added known before (text_keys pieces)
    → after ≡ all_added known before (piece_keys piece)
    → all_added known start (text_keys text) ≡ all_added known after (text_keys rest)
added_form known start before after text pieces rest front piece is so_far here =
    so_far ∙ ap (all_added known before) (keys_over pieces rest front piece is)
    ∙ all_added_append known before (piece_keys piece) (text_keys rest)
    ∙ ap (λ (keys : List (List ℕ)). all_added known keys (text_keys rest)) (sym here)

pub added_plain : (known keys : List (List ℕ)) (text : List Piece) (signs : List Sign) → text ≡ plain_draft signs
    → keys ≡ all_added known keys (text_keys text)
added_plain known keys text signs is = sym (ap (λ (ps : List Piece). all_added known keys (text_keys ps)) is ∙ ap (all_added known keys) (plain_keys signs))

-- ---- keys that are not known

pub beyond_append : (known xs ys : List (List ℕ)) → is_beyond known (xs ++ ys) ≡ (is_beyond known xs || is_beyond known ys)
beyond_append known xs ys = list_any-append (λ key. not (has_key known key)) xs ys

pub beyond_text : (known : List (List ℕ)) (pieces : List Piece) → is_beyond known (text_keys pieces) ≡ text_beyond known pieces
beyond_text known [] = refl
beyond_text known (Plain sign ∷ pieces) = beyond_text known pieces
beyond_text known (Escaped c ∷ pieces) = beyond_text known pieces
beyond_text known (Variable key default ∷ pieces) = ap (λ (b : Bool). not (has_key known key) || b) (beyond_text known pieces)

beyond_operand : (known : List (List ℕ)) (value : Operand) → is_beyond known (operand_keys value) ≡ operand_beyond known value
beyond_operand known (operand.Text pieces) = beyond_text known pieces
beyond_operand known (operand.Number n) = refl
beyond_operand known (operand.Instant nanos) = refl
beyond_operand known (operand.Truth truth) = refl
beyond_operand known (operand.Bytes bytes) = refl
beyond_operand known (operand.Range range) = refl

beyond_operands : (known : List (List ℕ)) (values : List Operand)
    → is_beyond known (flat_map operand_keys values) ≡ list_any (operand_beyond known) values
beyond_operands known [] = refl
beyond_operands known (value ∷ values) =
    beyond_append known (operand_keys value) (flat_map operand_keys values)
    ∙ ap (λ (b : Bool). b || is_beyond known (flat_map operand_keys values)) (beyond_operand known value)
    ∙ ap (λ (b : Bool). operand_beyond known value || b) (beyond_operands known values)

-- what holds of all keys of a list holds of those of each
pub none_of_each : {X : Type 0} (f : X → List (List ℕ)) (known : List (List ℕ)) (xs : List X) → is_beyond known (flat_map f xs) ≡ false
    → All (λ x. is_beyond known (f x) ≡ false) xs
none_of_each f known [] free = λ k d below. absurd (let wrong : ⊥ = omega (arith, below) in wrong)
none_of_each f known (x ∷ xs) free =
    let parts = neither (is_beyond known (f x)) (is_beyond known (flat_map f xs)) (sym (beyond_append known (f x) (flat_map f xs)) ∙ free) in
    all_front (λ y. is_beyond known (f y) ≡ false) x xs parts.0 (none_of_each f known xs parts.1)

-- an entry, of whose keys all are known
pub entry_free : (known : List (List ℕ)) (entry : EntryValue) → is_beyond known (entry_keys entry) ≡ false
    → (has_key known entry.key ≡ true) × (list_any (operand_beyond known) entry.values ≡ false)
entry_free known entry free =
    let parts = neither (not (has_key known entry.key)) (is_beyond known (flat_map operand_keys entry.values)) free in
    (is_true (has_key known entry.key) parts.0, sym (beyond_operands known entry.values) ∙ parts.1)

-- ---- what is open asks for one

either_is : (a b c d : Bool) → c ≡ d → (a || (b && d)) ≡ true → (a || c) ≡ true
either_is true b c d same is = refl
either_is false true c d same is = same ∙ is
either_is false false c d same is = absurd (let wrong : ⊥ = cc in wrong)

pub entry_asks : (known : List (List ℕ)) (context : ContextValue) (entry : EntryValue) → entry_beyond known context entry ≡ true
    → is_beyond known (entry_keys entry) ≡ true
entry_asks known context entry is =
    either_is (not (has_key known entry.key)) (has_some (values_of context entry.key)) (is_beyond known (flat_map operand_keys entry.values))
    (list_any (operand_beyond known) entry.values) (beyond_operands known entry.values) is

pub if_open : (c : Certain) (P : Type 0) → P → IfOpen c P
if_open Always P p = tt
if_open Never P p = tt
if_open Open P p = p

-- what is known to hold, or not to, is not open
pub known_closed : (c : Certain) (held : Bool) (P : Type 0) → c ≡ certain_of held → IfOpen c P
known_closed c true P is = subst (λ (x : Certain). IfOpen x P) (sym is) tt
known_closed c false P is = subst (λ (x : Certain). IfOpen x P) (sym is) tt

left_asks : (known xs ys : List (List ℕ)) → is_beyond known xs ≡ true → is_beyond known (xs ++ ys) ≡ true
left_asks known xs ys is = beyond_append known xs ys ∙ first_is (is_beyond known xs) (is_beyond known ys) is

right_asks : (known xs ys : List (List ℕ)) → is_beyond known ys ≡ true → is_beyond known (xs ++ ys) ≡ true
right_asks known xs ys is = beyond_append known xs ys ∙ second_is (is_beyond known xs) (is_beyond known ys) is

-- one of these keys is not known, where it is open
abbrev pub Asks : List (List ℕ) → Certain → List (List ℕ) → Type 0
Asks known c keys = IfOpen c (is_beyond known keys ≡ true)

both_asks : (known : List (List ℕ)) (a b : Certain) (xs ys : List (List ℕ)) → Asks known a xs → Asks known b ys → Asks known (both a b) (xs ++ ys)
both_asks known Never b xs ys p q = tt
both_asks known Always Always xs ys p q = tt
both_asks known Always Never xs ys p q = tt
both_asks known Always Open xs ys p q = right_asks known xs ys q
both_asks known Open Never xs ys p q = tt
both_asks known Open Always xs ys p q = left_asks known xs ys p
both_asks known Open Open xs ys p q = left_asks known xs ys p

either_asks : (known : List (List ℕ)) (a b : Certain) (xs ys : List (List ℕ)) → Asks known a xs → Asks known b ys
    → Asks known (either a b) (xs ++ ys)
either_asks known Always b xs ys p q = tt
either_asks known Never Always xs ys p q = tt
either_asks known Never Never xs ys p q = tt
either_asks known Never Open xs ys p q = right_asks known xs ys q
either_asks known Open Always xs ys p q = tt
either_asks known Open Never xs ys p q = left_asks known xs ys p
either_asks known Open Open xs ys p q = left_asks known xs ys p

pub all_ask : {X : Type 0} (f : X → List (List ℕ)) (known : List (List ℕ)) (xs : List X) (i : ℕ) (x : X) (a b : Certain) → i < length xs
    → x ≡ get_or xs i x → Asks known a (flat_map f (take i xs)) → Asks known b (f x) → Asks known (both a b) (flat_map f (take (i + 1) xs))
all_ask {X} f known xs i x a b below at before here =
    subst (λ (keys : List (List ℕ)). Asks known (both a b) keys) (sym (flat_taken f xs i x below at))
    (both_asks known a b (flat_map f (take i xs)) (f x) before here)

pub some_ask : {X : Type 0} (f : X → List (List ℕ)) (known : List (List ℕ)) (xs : List X) (i : ℕ) (x : X) (a b : Certain) → i < length xs
    → x ≡ get_or xs i x → Asks known a (flat_map f (take i xs)) → Asks known b (f x) → Asks known (either a b) (flat_map f (take (i + 1) xs))
some_ask {X} f known xs i x a b below at before here =
    subst (λ (keys : List (List ℕ)). Asks known (either a b) keys) (sym (flat_taken f xs i x below at))
    (either_asks known a b (flat_map f (take i xs)) (f x) before here)

pub asks_taken : {X : Type 0} (f : X → List (List ℕ)) (known : List (List ℕ)) (xs : List X) (i : ℕ) (a : Certain) → length xs ≤ i
    → Asks known a (flat_map f (take i xs)) → Asks known a (flat_map f xs)
asks_taken {X} f known xs i a past asks = subst (λ (l : List X). Asks known a (flat_map f l)) (take_all i xs past) asks
