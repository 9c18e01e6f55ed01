-- The statements that are listed, one after the other, and what is the same in contexts that agree on their keys.
use Rattle.std.proofs.Common.{◌≡◌, ◌∙◌, ◌+◌, ◌<◌, ◌≤◌, ℕ, suc, inl, inr, List, [], ◌∷◌, ◌++◌, All, ap, arith, get_or, length, refl, subst, sym, take}
use Rattle.std.proofs.lemmas.List.{append-nil, map-append, take_all}
use Rattle.std.proofs.lemmas.List.Concat.{flat_map-append}
use Rattle.std.specs.List.{flat_map}
use Rattle.iam_decision.specs.Matched.{IsMatched, Placed}
use Rattle.iam_decision.specs.declared.place.Place.{Place}
use Rattle.iam_match.specs.Statement.{AccessValue}
use Rattle.iam_open.specs.Asks.{all_added, keys_asked}
use Rattle.iam_open.specs.Code.Added.{AreListedIn, IsAdded, IsSameFrom, IsTold}
use Rattle.iam_open.specs.Code.Certain.{Contexts}
use Rattle.iam_open.specs.Code.Known.{request_in}
use Rattle.iam_open.specs.Hangs.{AreChosen, IsAsking}
use Rattle.iam_open.specs.declared.hangs.Hangs.{Hangs}
use Rattle.iam_open.proofs.AddLemmas.{from_always, from_never, from_same, statement_on}
use Rattle.iam_open.proofs.AgreeLemmas.{UnaskedKeys}
use Rattle.iam_open.proofs.AskLemmas.{all_added_append, none_beyond, none_of_each}
use Rattle.iam_open.proofs.ListLemmas.{all_front, taken_more}

-- ---- of a list, those that are chosen

chosen_more : {X : Type 0} (P Q : X → Type 0) (xs chosen : List X) (x : X) → AreChosen P Q xs chosen → P x
    → AreChosen P Q (xs ++ (x ∷ [])) (chosen ++ (x ∷ []))
chosen_more {X} P Q [] chosen x is p = inl (p, ([], ap (λ (l : List X). l ++ (x ∷ [])) is, refl))
chosen_more {X} P Q (y ∷ xs) chosen x (inl (here, (rest, is, more))) p =
    inl (here, (rest ++ (x ∷ []), ap (λ (l : List X). l ++ (x ∷ [])) is, chosen_more P Q xs rest x more p))
chosen_more {X} P Q (y ∷ xs) chosen x (inr (left, more)) p = inr (left, chosen_more P Q xs chosen x more p)

left_more : {X : Type 0} (P Q : X → Type 0) (xs chosen : List X) (x : X) → AreChosen P Q xs chosen → Q x → AreChosen P Q (xs ++ (x ∷ [])) chosen
left_more {X} P Q [] chosen x is q = inr (q, is)
left_more {X} P Q (y ∷ xs) chosen x (inl (here, (rest, is, more))) q = inl (here, (rest, is, left_more P Q xs rest x more q))
left_more {X} P Q (y ∷ xs) chosen x (inr (left, more)) q = inr (left, left_more P Q xs chosen x more q)

pub chosen_as : {X : Type 0} (P Q R S : X → Type 0) (xs chosen : List X) → ((x : X) → P x → R x) → ((x : X) → Q x → S x)
    → AreChosen P Q xs chosen → AreChosen R S xs chosen
chosen_as {X} P Q R S [] chosen one other is = is
chosen_as {X} P Q R S (x ∷ xs) chosen one other (inl (here, (rest, is, more))) = inl (one x here, (rest, is, chosen_as P Q R S xs rest one other more))
chosen_as {X} P Q R S (x ∷ xs) chosen one other (inr (left, more)) = inr (other x left, chosen_as P Q R S xs chosen one other more)

-- what is so of those that are chosen, and of each other one, is so of all
all_of_chosen : {X : Type 0} (P Q R : X → Type 0) (xs chosen : List X) → AreChosen P Q xs chosen → All R chosen → ((x : X) → Q x → R x) → All R xs
all_of_chosen {X} P Q R [] chosen is all told = λ k d below. absurd (let wrong : ⊥ = omega (arith, below) in wrong)
all_of_chosen {X} P Q R (x ∷ xs) chosen (inl (here, (rest, is, more))) all told =
    let both : All R (x ∷ rest) = subst (λ (l : List X). All R l) is all in
    all_front R x xs (both 0 x (omega arith))
    (all_of_chosen P Q R xs rest more (λ k d below. both (suc k) d (omega (arith, below))) told)
all_of_chosen {X} P Q R (x ∷ xs) chosen (inr (left, more)) all told = all_front R x xs (told x left) (all_of_chosen P Q R xs chosen more all told)

-- ---- statements as they are added

abbrev asked_by : Placed → List (List ℕ)
asked_by s = keys_asked s.statement

pub listed_none : (known : List (List ℕ)) (access : AccessValue) (action : List ℕ) (places : List Place) (keys : List (List ℕ)) → places ≡ []
    → keys ≡ [] → AreListedIn known access action [] places keys
listed_none known access action places keys no_places no_keys =
    record { listed = []; chosen = refl; places_are = no_places; keys_are = no_keys }

pub listed_more : (known : List (List ℕ)) (access : AccessValue) (action : List ℕ) (xs : List Placed) (i : ℕ) (x : Placed) (before after : Hangs)
    → i < length xs → x ≡ get_or xs i x → AreListedIn known access action (take i xs) before.places.items before.keys.items
    → IsAdded known access action x before after → AreListedIn known access action (take (i + 1) xs) after.places.items after.keys.items
listed_more known access action xs i x before after below at found added =
    let P : Placed → Type 0 = λ s. IsAsking known access action s.statement in
    let Q : Placed → Type 0 = IsTold known access action in
    subst (λ (l : List Placed). AreListedIn known access action l after.places.items after.keys.items) (sym (taken_more xs i x below at))
    (elim added [
      | inl put ↦ record {
        listed = found.listed ++ (x ∷ []);
        chosen = chosen_more P Q (take i xs) found.listed x found.chosen put.asking;
        places_are =
            put.places_are ∙ ap (λ (l : List Place). l ++ (x.place ∷ [])) found.places_are
            ∙ sym (map-append (λ (s : Placed). s.place) found.listed (x ∷ []));
        keys_are =
            put.keys_are ∙ ap (λ (keys : List (List ℕ)). all_added known keys (asked_by x)) found.keys_are
            ∙ sym (all_added_append known [] (flat_map asked_by found.listed) (asked_by x))
            ∙ ap (all_added known [])
            (sym (flat_map-append asked_by found.listed (x ∷ [])
            ∙ ap (λ (l : List (List ℕ)). flat_map asked_by found.listed ++ l) (append-nil (asked_by x))));
      }
      | inr (told, same) ↦ record {
        listed = found.listed;
        chosen = left_more P Q (take i xs) found.listed x found.chosen told;
        places_are = ap (λ (h : Hangs). h.places.items) same ∙ found.places_are;
        keys_are = ap (λ (h : Hangs). h.keys.items) same ∙ found.keys_are;
      }
    ])

pub listed_taken : (known : List (List ℕ)) (access : AccessValue) (action : List ℕ) (xs : List Placed) (i : ℕ) (places : List Place)
    (keys : List (List ℕ)) → length xs ≤ i → AreListedIn known access action (take i xs) places keys → AreListedIn known access action xs places keys
listed_taken known access action xs i places keys past found =
    subst (λ (l : List Placed). AreListedIn known access action l places keys) (take_all i xs past) found

-- ---- of two contexts that agree on their keys each of the statements matches in both, or in neither

pub listed_same : UnaskedKeys → (known : List (List ℕ)) (access : AccessValue) (action : List ℕ) (statements : List Placed) (places : List Place)
    (keys : List (List ℕ)) → AreListedIn known access action statements places keys
    → All (λ s. IsSameFrom known access.context keys (λ other. IsMatched (request_in access action other) s)) statements
listed_same unasked known access action statements places keys found =
    let base = access.context in
    let P : Placed → Type 0 = λ s. IsAsking known access action s.statement in
    let Q : Placed → Type 0 = IsTold known access action in
    let Here : Placed → Contexts = λ s other. IsMatched (request_in access action other) s in
    let asked = flat_map asked_by found.listed in
    let all = all_added known [] asked in
    let each = none_of_each asked_by (known ++ all) found.listed (none_beyond known [] asked) in
    subst (λ (ks : List (List ℕ)). All (λ s. IsSameFrom known base ks (Here s)) statements) (sym found.keys_are)
    (all_of_chosen P Q (λ s. IsSameFrom known base all (Here s)) statements found.listed found.chosen
    (λ k d below.
    let s : Placed = get_or found.listed k d in
    from_same known base all (Here s) (statement_on unasked known all s.statement (each k d below) access action))
    (λ s told. elim told [
      | inl always ↦ from_always known base all (Here s) always
      | inr never ↦ from_never known base all (Here s) never
    ]))
