-- A map of texts, and one text more.
use Rattle.std.proofs.Common.{◌≡◌, ℕ, ◌+◌, List, [], ◌∷◌, ◌++◌, Bool, true, false, ◌||◌, cond, length, Option, Some, None, is_some, not, String, string_bytes, refl, sym, ap, ◌∙◌, arith}
use Rattle.std.specs.Bool.{Decides}
use Rattle.std.specs.HashMap.{UpdatesBy, get_by_text}
use Rattle.std.specs.List.{list_any, position_from}
use Rattle.std.specs.Option.{option_or}
use Rattle.std.specs.Str.{bytes_eq}
use Rattle.std.specs.String.{string_eq}
use Rattle.std.specs.declared.alloc.Global.{Global}
use Rattle.std.proofs.lemmas.Map.Text.{hash_map_updates_text}
use Rattle.std.proofs.lemmas.Slice.Eq.{bytes_eq-Decides}
use Rattle.iam_shape.specs.Texts.{AreFirstPlaces, Places}

-- a text has a place where it is one of the texts
pub has_place : (test : List ℕ → Bool) (i : ℕ) (texts : List (List ℕ)) → is_some (position_from test i texts) ≡ list_any test texts
has_place test i [] = refl
has_place test i (t ∷ texts) = step (test t) (has_place test (i + 1) texts)
  where
    step : (b : Bool) → is_some (position_from test (i + 1) texts) ≡ list_any test texts
        → is_some (cond b (Some i) (position_from test (i + 1) texts)) ≡ (b || list_any test texts)
    step true later = refl
    step false later = later

pub not_true : (b : Bool) → not b ≡ true → b ≡ false
not_true true e = sym e
not_true false e = refl

pub turned : (a b : Bool) → a ≡ not b → b ≡ not a
turned true true e = e
turned true false e = refl
turned false true e = refl
turned false false e = e

-- the places with one text more
place_more : (test : List ℕ → Bool) (i : ℕ) (texts : List (List ℕ)) (text : List ℕ)
    → position_from test i (texts ++ (text ∷ [])) ≡ option_or (position_from test i texts) (cond (test text) (Some (i + length texts)) None)
place_more test i [] text = ap (λ n. cond (test text) (Some n) None) (omega arith)
place_more test i (t ∷ texts) text =
    step (test t) (place_more test (i + 1) texts text ∙ ap (λ n. option_or (position_from test (i + 1) texts) (cond (test text) (Some n) None)) (omega arith))
  where
    step : (b : Bool)
        → position_from test (i + 1) (texts ++ (text ∷ [])) ≡ option_or (position_from test (i + 1) texts) (cond (test text) (Some (i + length (t ∷ texts))) None)
        → cond b (Some i) (position_from test (i + 1) (texts ++ (text ∷ [])))
        ≡ option_or (cond b (Some i) (position_from test (i + 1) texts)) (cond (test text) (Some (i + length (t ∷ texts))) None)
    step true later = refl
    step false later = later

-- the map with a new text has one text more
pub has_more : (id : String Global) (old new : Places) (text : List ℕ) (number : ℕ) → string_bytes id ≡ text
    → UpdatesBy string_eq (λ k. bytes_eq (string_bytes id) (string_bytes k)) old new (Some number)
    → (texts : List (List ℕ)) → AreFirstPlaces old texts → number ≡ length texts → list_any (bytes_eq text) texts ≡ false → AreFirstPlaces new (texts ++ (text ∷ []))
has_more id old new text number is updates texts has last fresh other =
    hash_map_updates_text (string_bytes id) old new (Some number) updates other
    ∙ ap (λ t. cond (bytes_eq t other) (Some number) (get_by_text old other)) is
    ∙ either (bytes_eq text other) (bytes_eq other text) (bytes_eq-Decides text other) (bytes_eq-Decides other text)
    ∙ sym (place_more (bytes_eq other) 0 texts text)
  where
    nowhere : (o : Option ℕ) → is_some o ≡ false → o ≡ None
    nowhere None e = refl
    nowhere (Some n) e = cc

    or_none : (o : Option ℕ) → o ≡ option_or o None
    or_none None = refl
    or_none (Some n) = refl

    either : (here there : Bool) → Decides here (text ≡ other) → Decides there (other ≡ text)
        → cond here (Some number) (get_by_text old other) ≡ option_or (position_from (bytes_eq other) 0 texts) (cond there (Some (0 + length texts)) None)
    either true true p q =
        let none : position_from (bytes_eq other) 0 texts ≡ None =
        nowhere (position_from (bytes_eq other) 0 texts)
        (has_place (bytes_eq other) 0 texts ∙ ap (λ t. list_any (bytes_eq t) texts) (sym (p.0 refl)) ∙ fresh) in
        rw none (ap (λ n. Some n) (last ∙ omega arith))
    either false false p q = has other ∙ or_none (position_from (bytes_eq other) 0 texts)
    either true false p q = let wrong : false ≡ true = q.1 (sym (p.0 refl)) in cc
    either false true p q = let wrong : false ≡ true = p.1 (sym (q.0 refl)) in cc
