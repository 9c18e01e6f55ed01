-- The places of one key more.
use Rattle.std.proofs.Common.{◌≡◌, ℕ, ◌+◌, ◌<◌, List, [], ◌∷◌, ◌++◌, Bool, true, false, cond, length, get_or, refl, sym, ap, ◌∙◌, subst, arith, Option, Some, None, option_map, is_some, length-append}
use Rattle.std.proofs.lemmas.List.{get_or_append_left, length-take-le, take_more}
use Rattle.std.proofs.Math.Seq.{get_or-append_seam}
use Rattle.std.proofs.lemmas.Slice.Eq.{bytes_eq-Decides}
use Rattle.std.specs.BTreeMap as tree
use Rattle.std.specs.BTreeMap.{BTreeMap}
use Rattle.std.specs.Char.{to_ascii_lowercase}
use Rattle.std.specs.Cmp.{unsigned_ties, unsigned_Decides}
use Rattle.std.specs.Option.{option_or}
use Rattle.std.specs.Ordering.{is_eq, nat_cmp}
use Rattle.std.proofs.Common.{◌≤◌, map, take}
use Rattle.iam_context.specs.Code.Places.{Entry, HasPlaces, key_print, place_of, print_from}
use Rattle.iam_context.specs.Code.Values.{first_values}
use Rattle.iam_context.specs.Context.{ContextValue, is_same_key}
use Rattle.iam_context.proofs.Finding.{first_append}

-- keys that are the same have the same print
same_print : (key other : List ℕ) → is_same_key key other ≡ true → key_print key ≡ key_print other
same_print key other told = ap (print_from 0) ((bytes_eq-Decides (map to_ascii_lowercase key) (map to_ascii_lowercase other)).0 told)

-- prints that are compared
apart : (print other : ℕ) → is_eq (nat_cmp print other) ≡ false → ¬ (print ≡ other)
apart print other told e = let alike : is_eq (nat_cmp print other) ≡ true = sym (unsigned_ties print other) ∙ (unsigned_Decides print other).1 e in cc

met : (print other : ℕ) → is_eq (nat_cmp print other) ≡ true → print ≡ other
met print other told = (unsigned_Decides print other).0 (unsigned_ties print other ∙ told)

-- keys of different prints are not the same
unlike : (key other : List ℕ) (print : ℕ) → print ≡ key_print key → is_eq (nat_cmp print (key_print other)) ≡ false → is_same_key key other ≡ false
unlike key other print is told = go (is_same_key key other) refl
  where
    go : (b : Bool) → is_same_key key other ≡ b → b ≡ false
    go true same = absurd (apart print (key_print other) told (is ∙ same_print key other same))
    go false same = refl

-- what is found with one entry more
found_more : (xs : ContextValue) (e : Entry) (key : List ℕ) → first_values (xs ++ (e ∷ [])) key
    ≡ option_or (first_values xs key) (option_map (λ (entry : Entry). entry.1) (cond (is_same_key e.0 key) (Some e) None))
found_more xs e key = first_append xs (e ∷ []) key

absent_more : (xs : ContextValue) (e : Entry) (key : List ℕ) → first_values xs key ≡ None → is_same_key e.0 key ≡ false
    → first_values (xs ++ (e ∷ [])) key ≡ None
absent_more xs e key none other =
    found_more xs e key
    ∙ ap (λ o. option_or o (option_map (λ (entry : Entry). entry.1) (cond (is_same_key e.0 key) (Some e) None))) none
    ∙ ap (λ b. option_or None (option_map (λ (entry : Entry). entry.1) (cond b (Some e) None))) other

new_here : (xs : ContextValue) (e : Entry) (key : List ℕ) → first_values xs key ≡ None → is_same_key e.0 key ≡ true
    → first_values (xs ++ (e ∷ [])) key ≡ Some e.1
new_here xs e key none same =
    found_more xs e key
    ∙ ap (λ o. option_or o (option_map (λ (entry : Entry). entry.1) (cond (is_same_key e.0 key) (Some e) None))) none
    ∙ ap (λ b. option_or None (option_map (λ (entry : Entry). entry.1) (cond b (Some e) None))) same

old_here : (xs : ContextValue) (e : Entry) (key : List ℕ) (values : List (List ℕ)) → first_values xs key ≡ Some values
    → first_values (xs ++ (e ∷ [])) key ≡ Some values
old_here xs e key values is =
    found_more xs e key ∙ ap (λ o. option_or o (option_map (λ (entry : Entry). entry.1) (cond (is_same_key e.0 key) (Some e) None))) is

-- one entry more is longer
longer : (xs : ContextValue) (e : Entry) → length (xs ++ (e ∷ [])) ≡ length xs + 1
longer xs e = length-append xs (e ∷ [])

-- places with that of one print more
pub places_more : (old new : BTreeMap ℕ ℕ) (xs : ContextValue) (e : Entry) (print : ℕ) → print ≡ key_print e.0 → HasPlaces old xs
    → place_of old print ≡ None → tree.Updates nat_cmp old new print (Some (length xs)) → HasPlaces new (xs ++ (e ∷ []))
places_more old new xs e print is has free updates = record {
  absent = λ key none. absent_by key (is_eq (nat_cmp print (key_print key))) refl none;
  within = λ other i at. within_by other i (is_eq (nat_cmp print other)) refl at;
  first = λ key i entry at stands same. first_by key i entry (is_eq (nat_cmp print (key_print key))) refl at stands same;
}
  where
    after : (other : ℕ) (b : Bool) → is_eq (nat_cmp print other) ≡ b → place_of new other ≡ cond b (Some (length xs)) (place_of old other)
    after other b told = updates.0 other ∙ ap (λ (t : Bool). cond t (Some (length xs)) (place_of old other)) told

    absent_by : (key : List ℕ) (b : Bool) → is_eq (nat_cmp print (key_print key)) ≡ b → place_of new (key_print key) ≡ None
        → first_values (xs ++ (e ∷ [])) key ≡ None
    absent_by key true told none = let here = after (key_print key) true told in cc
    absent_by key false told none =
        absent_more xs e key (has.absent key (sym (after (key_print key) false told) ∙ none)) (unlike e.0 key print is told)

    within_by : (other i : ℕ) (b : Bool) → is_eq (nat_cmp print other) ≡ b → place_of new other ≡ Some i → i < length (xs ++ (e ∷ []))
    within_by other i true told at =
        let last : length xs ≡ i = let here = after other true told in cc in omega (arith, longer xs e)
    within_by other i false told at =
        let before : i < length xs = has.within other i (sym (after other false told) ∙ at) in omega (arith, longer xs e)

    first_by : (key : List ℕ) (i : ℕ) (entry : Entry) (b : Bool) → is_eq (nat_cmp print (key_print key)) ≡ b
        → place_of new (key_print key) ≡ Some i → entry ≡ get_or (xs ++ (e ∷ [])) i entry → is_same_key entry.0 key ≡ true
        → first_values (xs ++ (e ∷ [])) key ≡ Some entry.1
    first_by key i entry true told at stands same =
        let last : length xs ≡ i = let here = after (key_print key) true told in cc in
        let is_new : entry ≡ e = stands ∙ ap (λ n. get_or (xs ++ (e ∷ [])) n entry) (sym last) ∙ get_or-append_seam xs e [] entry in
        let none = has.absent key (ap (place_of old) (sym (met print (key_print key) told)) ∙ free) in
        new_here xs e key none (ap (λ (x : Entry). is_same_key x.0 key) (sym is_new) ∙ same) ∙ ap (λ (x : Entry). Some x.1) (sym is_new)
    first_by key i entry false told at stands same =
        let before = sym (after (key_print key) false told) ∙ at in
        old_here xs e key entry.1
        (has.first key i entry before (stands ∙ get_or_append_left xs (e ∷ []) entry i (has.within (key_print key) i before)) same)

-- places that have that of the print already
pub places_kept : (places : BTreeMap ℕ ℕ) (xs : ContextValue) (e : Entry) (print : ℕ) → print ≡ key_print e.0 → HasPlaces places xs
    → is_some (place_of places print) ≡ true → HasPlaces places (xs ++ (e ∷ []))
places_kept places xs e print is has there = record {
  absent = λ key none. absent_more xs e key (has.absent key none) (go key none (is_same_key e.0 key) refl);
  within = λ other i at. let before : i < length xs = has.within other i at in omega (arith, longer xs e);
  first = λ key i entry at stands same.
      old_here xs e key entry.1
      (has.first key i entry at (stands ∙ get_or_append_left xs (e ∷ []) entry i (has.within (key_print key) i at)) same);
}
  where
    go : (key : List ℕ) → place_of places (key_print key) ≡ None → (b : Bool) → is_same_key e.0 key ≡ b → b ≡ false
    go key none true same = let free : place_of places print ≡ None = ap (place_of places) (is ∙ same_print e.0 key same) ∙ none in cc
    go key none false same = refl

-- no places of no entries
pub no_places : (places : BTreeMap ℕ ℕ) → ((print : ℕ) → place_of places print ≡ None) → HasPlaces places []
no_places places none = record {
  absent = λ key free. refl;
  within = λ print i at. let free = none print in absurd (let wrong : ⊥ = cc in wrong);
  first = λ key i entry at stands same. let free = none (key_print key) in absurd (let wrong : ⊥ = cc in wrong);
}

pub no_place : (found : Option ℕ) → is_some found ≡ false → found ≡ None
no_place None told = refl
no_place (Some i) told = cc

-- the entries so far, and one more
pub take_one : (xs ys : ContextValue) (i : ℕ) (e : Entry) → ys ≡ xs → i < length ys → e ≡ get_or ys i e → take (i + 1) xs ≡ take i xs ++ (e ∷ [])
take_one xs ys i e same below is =
    subst (λ (zs : ContextValue). take (i + 1) zs ≡ take i zs ++ (e ∷ [])) same
    (take_more ys i e below ∙ ap (λ (x : Entry). take i ys ++ (x ∷ [])) (sym is))

pub so_many : (xs ys : ContextValue) (i : ℕ) → ys ≡ xs → i < length ys → i ≡ length (take i xs)
so_many xs ys i same below = sym (length-take-le i xs (subst (λ (zs : ContextValue). i ≤ length zs) same (omega arith)))
