-- A JSON value that is read from a text of n bytes holds at most n values, so each of its lists has at most n items.
use Rattle.std.proofs.Common.{◌≡◌, ℕ, zero, suc, ◌+◌, ◌≤◌, List, [], ◌∷◌, length, Bool, true, false, Option, Some, None, option_map, option_and_then, Ordering, Less, Equal, Greater, refl, ap, subst, arith}
use Rattle.std.specs.Prelude.{⊤}
use Rattle.std.specs.List.{slice_get}
use Rattle.std.specs.Ordering.{match_ordering}
use Rattle.json.specs.Token.{Token}
use Rattle.json.specs.Lex.{Lexeme, token, comma, colon, Class, quote, backslash, operator, space, other, class, Mode, between, in_word, in_string, in_escape, lex_byte, lex, Place, fresh, after_value, after_comma, after_key, begins_colon, may_begin, may_close, if_allowed, place_token, punctuate, tokens}
use Rattle.json.specs.Json as json
use Rattle.json.specs.Json.{Json, Parse, parse_map, after_end_array, read_key, items_step, members_step, value_with}
use Rattle.json.proofs.Grammar.{closed_array, key_token, read_key_is}
use Rattle.serde_json.specs.Data.{Num, Data, null, boolean, number, string, array, object, Items, no_items, item, Members, no_members, member, put}
use Rattle.serde_json.specs.Find.{get_member, get}
use Rattle.serde_json.specs.Read.{number_of, of_json, of_items, of_members, max_depth, read}
use Rattle.iam_json.specs.Look.{list_of}
use Rattle.iam_json.specs.Size.{size, items_size, members_size}

-- the same of a value of the grammar, which may have a key twice
abbrev mutual
  json_size : Json → ℕ
  json_size json.null = 1
  json_size (json.boolean b) = 1
  json_size (json.number s) = 1
  json_size (json.string s) = 1
  json_size (json.array js) = suc (json_items_size js)
  json_size (json.object ms) = suc (json_members_size ms)

  json_items_size : json.Items → ℕ
  json_items_size json.no_items = 0
  json_items_size (json.item j js) = json_size j + json_items_size js

  json_members_size : json.Members → ℕ
  json_members_size json.no_members = 0
  json_members_size (json.member k j ms) = json_size j + json_members_size ms

-- the result, where there is one, measures at most n
abbrev AtMost : {A : Type 0} → (A → ℕ) → ℕ → Option A → Type 0
AtMost f n None = ⊤
AtMost f n (Some a) = f a ≤ n

-- a bound on the result of a function bounds the mapped result
AtMost-map : {A B : Type 0} (f : A → ℕ) (g : B → ℕ) (m n : ℕ) (h : A → B) → ((a : A) → f a ≤ m → g (h a) ≤ n) → (o : Option A) → AtMost f m o → AtMost g n (option_map h o)
AtMost-map f g m n h step None x = tt
AtMost-map f g m n h step (Some a) x = step a x

-- a larger bound
AtMost-weaker : {A : Type 0} (f : A → ℕ) (m n : ℕ) → m ≤ n → (o : Option A) → AtMost f m o → AtMost f n o
AtMost-weaker f m n le None x = tt
AtMost-weaker f m n le (Some a) x = omega arith

-- a bound on the first result bounds the second, where each step keeps it
AtMost-and_then : {A B : Type 0} (f : A → ℕ) (g : B → ℕ) (m n : ℕ) (h : A → Option B) → ((a : A) → f a ≤ m → AtMost g n (h a)) → (o : Option A) → AtMost f m o → AtMost g n (option_and_then h o)
AtMost-and_then f g m n h step None x = tt
AtMost-and_then f g m n h step (Some a) x = step a x

-- ---- from bytes to tokens

-- what a token counts: `bad`, which ends the tokens of a faulty text and belongs to no value, counts nothing
abbrev weight : Token → ℕ
weight Token.bad = 0
weight _ = 1

-- no token counts more than once
weight_one : (t : Token) → weight t ≤ 1
weight_one Token.bad = omega arith
weight_one _ = omega arith

-- the number of the tokens that count
abbrev count : List Token → ℕ
count [] = 0
count (t ∷ ts) = weight t + count ts

-- a byte begins at most one lexeme
one_byte : (m : Mode) (c : Class) (x : ℕ) (xs : List ℕ) (k : Mode → List Lexeme) (n : ℕ) → ((next : Mode) → length (k next) ≤ n) → length (lex_byte m c x xs k) ≤ suc n
one_byte between quote x xs k n rest = omega (arith, rest in_string)
one_byte between backslash x xs k n rest = omega (arith, rest in_word)
one_byte between operator x xs k n rest = omega (arith, rest between)
one_byte between space x xs k n rest = omega (arith, rest between)
one_byte between other x xs k n rest = omega (arith, rest in_word)
one_byte in_word quote x xs k n rest = omega (arith, rest in_word)
one_byte in_word backslash x xs k n rest = omega (arith, rest in_word)
one_byte in_word operator x xs k n rest = omega (arith, rest between)
one_byte in_word space x xs k n rest = omega (arith, rest between)
one_byte in_word other x xs k n rest = omega (arith, rest in_word)
one_byte in_string quote x xs k n rest = omega (arith, rest between)
one_byte in_string backslash x xs k n rest = omega (arith, rest in_escape)
one_byte in_string operator x xs k n rest = omega (arith, rest in_string)
one_byte in_string space x xs k n rest = omega (arith, rest in_string)
one_byte in_string other x xs k n rest = omega (arith, rest in_string)
one_byte in_escape c x xs k n rest = omega (arith, rest in_string)

-- a text has at most as many lexemes as bytes
lex_length : (m : Mode) (text : List ℕ) → length (lex m text) ≤ length text
unfolding lex
lex_length m [] = omega arith
lex_length m (x ∷ xs) = one_byte m (class x) x xs (λ next. lex next xs) (length xs) (λ next. lex_length next xs)

-- a token that may stand there is one token, and one that may not is one `bad`
one_token : (allowed : Bool) (t : Token) (k : Place → List Token) (next : Place) (n : ℕ) → count (k next) ≤ n → count (if_allowed allowed t k next) ≤ suc n
one_token true t k next n rest = omega (arith, weight_one t)
one_token false t k next n rest = omega arith

-- a lexeme that is a token gives at most one token
one_lexeme : (p : Place) (t : Token) (colon_follows : Bool) (k : Place → List Token) (n : ℕ) → ((next : Place) → count (k next) ≤ n) → count (place_token p t colon_follows k) ≤ suc n
one_lexeme p Token.begin_object b k n rest = one_token (may_begin p) Token.begin_object k fresh n (rest fresh)
one_lexeme p Token.end_object b k n rest = one_token (may_close p) Token.end_object k after_value n (rest after_value)
one_lexeme p Token.begin_array b k n rest = one_token (may_begin p) Token.begin_array k fresh n (rest fresh)
one_lexeme p Token.end_array b k n rest = one_token (may_close p) Token.end_array k after_value n (rest after_value)
one_lexeme p (Token.key s) b k n rest = omega arith
one_lexeme p (Token.string s) true k n rest = one_token (may_begin p) (Token.key s) k after_key n (rest after_key)
one_lexeme p (Token.string s) false k n rest = one_token (may_begin p) (Token.string s) k after_value n (rest after_value)
one_lexeme p (Token.number s) b k n rest = one_token (may_begin p) (Token.number s) k after_value n (rest after_value)
one_lexeme p (Token.boolean c) b k n rest = one_token (may_begin p) (Token.boolean c) k after_value n (rest after_value)
one_lexeme p Token.null b k n rest = one_token (may_begin p) Token.null k after_value n (rest after_value)
one_lexeme p Token.bad b k n rest = omega arith

-- there are at most as many tokens as lexemes
punctuate_count : (p : Place) (ls : List Lexeme) → count (punctuate p ls) ≤ length ls
unfolding punctuate
punctuate_count fresh [] = omega arith
punctuate_count after_value [] = omega arith
punctuate_count after_comma [] = omega arith
punctuate_count after_key [] = omega arith
punctuate_count p (token t ∷ ls) = one_lexeme p t (begins_colon ls) (λ next. punctuate next ls) (length ls) (λ next. punctuate_count next ls)
punctuate_count fresh (comma ∷ ls) = omega arith
punctuate_count after_value (comma ∷ ls) = omega (arith, punctuate_count after_comma ls)
punctuate_count after_comma (comma ∷ ls) = omega arith
punctuate_count after_key (comma ∷ ls) = omega arith
punctuate_count fresh (colon ∷ ls) = omega arith
punctuate_count after_value (colon ∷ ls) = omega arith
punctuate_count after_comma (colon ∷ ls) = omega arith
punctuate_count after_key (colon ∷ ls) = omega (arith, punctuate_count fresh ls)

-- a text has at most as many tokens as bytes
tokens_count : (text : List ℕ) → count (tokens text) ≤ length text
tokens_count text = omega (arith, punctuate_count fresh (lex between text), lex_length between text)

-- ---- from tokens to a value of the grammar

-- the measure of what was read, with the tokens that are left
abbrev with_rest : {A : Type 0} → (A → ℕ) → A × List Token → ℕ
with_rest f p = f p.0 + count p.1

-- a reader takes at least as many tokens as what it reads measures
abbrev Pays : {A : Type 0} → (A → ℕ) → Parse A → Type 0
Pays f p = (ts : List Token) → AtMost (with_rest f) (count ts) (p ts)

-- behind a bracket that closes an array no more tokens count than before it
closed_count : (ts r : List Token) → after_end_array ts ≡ Some r → count r ≤ count ts
closed_count ts r e = let same : count ts ≡ 1 + count r = ap count (closed_array ts r e) in omega arith

-- the same behind a key, or behind a bracket that closes an object
key_count : (ts : List Token) (k : Option (List ℕ)) (r : List Token) → read_key ts ≡ Some (k, r) → count r ≤ count ts
key_count ts k r e = let same : count ts ≡ weight (key_token k) + count r = ap count (read_key_is ts k r e) in omega arith

-- a value, and then the rest of the items or members
then_more : {B : Type 0} (g : B → ℕ) (h : Json → B → B) → ((j : Json) (b : B) → g (h j b) ≡ json_size j + g b) → (more : Parse B) → Pays g more
    → (o : Option (Json × List Token)) (n : ℕ) → AtMost (with_rest json_size) n o → AtMost (with_rest g) n (option_and_then (λ q. parse_map (h q.0) (more q.1)) o)
then_more g h is more pays None n x = tt
then_more g h is more pays (Some q) n x = AtMost-map (with_rest g) (with_rest g) (count q.1) n _ (λ b y. omega (arith, is q.0 b.0)) (more q.1) (pays q.1)

module _ (p : Parse Json) (pays : Pays json_size p) where
  -- the end of an array, or one more item
  item_turn : (more : Parse json.Items) → Pays json_items_size more → (ts : List Token) (o : Option (List Token)) → after_end_array ts ≡ o
      → AtMost (with_rest json_items_size) (count ts) (items_step p more ts o)
  item_turn more again ts (Some r) e = omega (arith, closed_count ts r e)
  item_turn more again ts None e = then_more json_items_size json.item (λ j js. refl) more again (p ts) (count ts) (pays ts)

  -- the items up to the end of an array
  items-pay : (n : ℕ) → Pays json_items_size (json.items p n)
  unfolding json.items
  items-pay zero ts = tt
  items-pay (suc n) ts = item_turn (json.items p n) (items-pay n) ts (after_end_array ts) refl

  -- the end of an object, or one more member
  member_turn : (more : Parse json.Members) → Pays json_members_size more → (ts : List Token) (o : Option (Option (List ℕ) × List Token)) → read_key ts ≡ o
      → AtMost (with_rest json_members_size) (count ts) (option_and_then (λ q. members_step p more q.0 q.1) o)
  member_turn more again ts None e = tt
  member_turn more again ts (Some (None, r)) e = omega (arith, key_count ts None r e)
  member_turn more again ts (Some (Some k, r)) e =
      then_more json_members_size (json.member k) (λ j ms. refl) more again (p r) (count ts) (AtMost-weaker (with_rest json_size) (count r) (count ts) (key_count ts (Some k) r e) (p r) (pays r))

  -- the members up to the end of an object
  members-pay : (n : ℕ) → Pays json_members_size (json.members p n)
  unfolding json.members
  members-pay zero ts = tt
  members-pay (suc n) ts = member_turn (json.members p n) (members-pay n) ts (read_key ts) refl

-- one level of nesting, where the items and the members inside pay
level_pays : (a : Parse json.Items) (o : Parse json.Members) → Pays json_items_size a → Pays json_members_size o → Pays json_size (value_with a o)
level_pays a o p q [] = tt
level_pays a o p q (Token.begin_object ∷ ts) = AtMost-map (with_rest json_members_size) (with_rest json_size) (count ts) _ _ (λ b x. omega arith) (o ts) (q ts)
level_pays a o p q (Token.end_object ∷ ts) = tt
level_pays a o p q (Token.begin_array ∷ ts) = AtMost-map (with_rest json_items_size) (with_rest json_size) (count ts) _ _ (λ b x. omega arith) (a ts) (p ts)
level_pays a o p q (Token.end_array ∷ ts) = tt
level_pays a o p q (Token.key s ∷ ts) = tt
level_pays a o p q (Token.string s ∷ ts) = omega arith
level_pays a o p q (Token.number s ∷ ts) = omega arith
level_pays a o p q (Token.boolean b ∷ ts) = omega arith
level_pays a o p q (Token.null ∷ ts) = omega arith
level_pays a o p q (Token.bad ∷ ts) = tt

-- a value takes at least as many tokens as it holds values
value_pays : (depth : ℕ) → Pays json_size (json.value depth)
unfolding json.value
value_pays zero = level_pays (λ ts. None) (λ ts. None) (λ ts. tt) (λ ts. tt)
value_pays (suc d) =
    level_pays (λ ts. json.items (json.value d) (length ts) ts) (λ ts. json.members (json.value d) (length ts) ts)
    (λ ts. items-pay (json.value d) (value_pays d) (length ts) ts) (λ ts. members-pay (json.value d) (value_pays d) (length ts) ts)

-- ---- from a value of the grammar to a value

-- a number counts once
number_size : (o : Option Num) → AtMost size 1 (option_map number o)
number_size None = tt
number_size (Some n) = omega arith

-- where each of three members' lists is small, so is the one that is chosen
match_members_size : (o : Ordering) (a b c : Members) (n : ℕ) → members_size a ≤ n → members_size b ≤ n → members_size c ≤ n → members_size (match_ordering o a b c) ≤ n
match_members_size Less a b c n p q r = p
match_members_size Equal a b c n p q r = q
match_members_size Greater a b c n p q r = r

-- putting a member in adds at most its value; a value of the same key goes
put_size : (k : List ℕ) (d : Data) (ms : Members) → members_size (put k d ms) ≤ size d + members_size ms
put_size k d no_members = omega arith
put_size k d (member l e ms) =
    match_members_size _ (member k d (member l e ms)) (member l d ms) (member l e (put k d ms)) (size d + members_size (member l e ms)) (omega arith) (omega arith) (omega (arith, put_size k d ms))

-- a value holds at most what its value of the grammar does, and so do items and members
mutual
  of_json-size : (j : Json) → AtMost size (json_size j) (of_json j)
  of_json-size json.null = omega arith
  of_json-size (json.boolean b) = omega arith
  of_json-size (json.number s) = number_size (number_of s)
  of_json-size (json.string s) = omega arith
  of_json-size (json.array js) = AtMost-map items_size size (json_items_size js) _ array (λ ds x. omega arith) _ (of_items-size js)
  of_json-size (json.object ms) = AtMost-map members_size size (json_members_size ms + 0) _ object (λ found x. omega arith) _ (of_members-size ms no_members)

  of_items-size : (js : json.Items) → AtMost items_size (json_items_size js) (of_items js)
  of_items-size json.no_items = omega arith
  of_items-size (json.item j js) =
      AtMost-and_then size items_size (json_size j) _ _ (λ d x. AtMost-map items_size items_size (json_items_size js) _ (item d) (λ ds y. omega arith) _ (of_items-size js)) _ (of_json-size j)

  of_members-size : (ms : json.Members) (found : Members) → AtMost members_size (json_members_size ms + members_size found) (of_members ms found)
  of_members-size json.no_members found = omega arith
  of_members-size (json.member k j ms) found =
      AtMost-and_then size members_size (json_size j) _ _
      (λ d x. AtMost-weaker members_size (json_members_size ms + members_size (put k d found)) _ (omega (arith, put_size k d found)) _ (of_members-size ms (put k d found)))
      _ (of_json-size j)

-- a value after which nothing is left
last_size : (n : ℕ) (o : Option (Json × List Token)) → AtMost (with_rest json_size) n o → AtMost json_size n (option_and_then (λ p. json.if_last p.0 p.1) o)
last_size n None x = tt
last_size n (Some (j, [])) x = omega arith
last_size n (Some (j, t ∷ ts)) x = tt

-- a value that is read from a text holds at most as many values as the text has bytes
pub read_size : (text : List ℕ) (d : Data) → read text ≡ Some d → size d ≤ length text
read_size text d e =
    let document = last_size (count (tokens text)) _ (value_pays max_depth (tokens text)) in
    let held : AtMost size (count (tokens text)) (Some d) =
    subst (AtMost size (count (tokens text))) e
    (AtMost-and_then json_size size _ _ of_json (λ j x. AtMost-weaker size (json_size j) _ x _ (of_json-size j)) _ document) in
    omega (arith, tokens_count text)

-- ---- inside a value

-- each value counts
size_positive : (d : Data) → 1 ≤ size d
size_positive null = omega arith
size_positive (boolean b) = omega arith
size_positive (number n) = omega arith
size_positive (string s) = omega arith
size_positive (array ds) = omega arith
size_positive (object ms) = omega arith

-- a list has at most as many items as it holds values
pub list_size : (ds : Items) → length (list_of ds) ≤ items_size ds
list_size no_items = omega arith
list_size (item d ds) = omega (arith, size_positive d, list_size ds)

-- where each of three results is small, so is the one that is chosen
match_option_size : (o : Ordering) (a b c : Option Data) (n : ℕ) → AtMost size n a → AtMost size n b → AtMost size n c → AtMost size n (match_ordering o a b c)
match_option_size Less a b c n p q r = p
match_option_size Equal a b c n p q r = q
match_option_size Greater a b c n p q r = r

-- a member holds at most what the members do
get_member_size : (name : List ℕ) (ms : Members) → AtMost size (members_size ms) (get_member name ms)
get_member_size name no_members = tt
get_member_size name (member k d ms) =
    let later : AtMost size (members_size (member k d ms)) (get_member name ms) = AtMost-weaker size (members_size ms) _ (omega arith) _ (get_member_size name ms) in
    match_option_size _ (get_member name ms) (Some d) (get_member name ms) (members_size (member k d ms)) later (omega arith) later

-- a member of a value holds at most what the value does
pub get_size : (name : List ℕ) (d v : Data) → get name d ≡ Some v → size v ≤ size d
get_size name d v e = subst (AtMost size (size d)) e (found d)
  where
    found : (d : Data) → AtMost size (size d) (get name d)
    found null = tt
    found (boolean b) = tt
    found (number n) = tt
    found (string s) = tt
    found (array ds) = tt
    found (object ms) = AtMost-weaker size (members_size ms) _ (omega arith) _ (get_member_size name ms)

-- an item of a list holds at most what the list does
pub item_size : (ds : Items) (i : ℕ) (v : Data) → slice_get (list_of ds) i ≡ Some v → size v ≤ items_size ds
item_size ds i v e = subst (AtMost size (items_size ds)) e (found ds i)
  where
    found : (ds : Items) (i : ℕ) → AtMost size (items_size ds) (slice_get (list_of ds) i)
    found no_items i = tt
    found (item d ds) zero = omega arith
    found (item d ds) (suc i) = AtMost-weaker size (items_size ds) _ (omega arith) _ (found ds i)
