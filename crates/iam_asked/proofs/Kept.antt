-- Requests as they are kept, when one more comes.
use Rattle.std.proofs.Common.{◌≡◌, ◌≢◌, ◌∙◌, ℕ, zero, suc, ◌+◌, ◌<◌, ◌≤◌, All, Bool, false, List, [], ◌∷◌, ◌++◌, Some, ap, arith, get_or, length, map, position, refl, subst, sym, true, true≢false, unwrap_or, ◌||◌}
use Rattle.std.specs.Cmp.Lexicographic.{pointwise}
use Rattle.std.specs.List.{list_any, slice_get, sum_by}
use Rattle.std.specs.Option.{option_map}
use Rattle.std.proofs.lemmas.List.{length-append, length-map, map-append}
use Rattle.std.proofs.lemmas.List.Elements.{All-push}
use Rattle.std.proofs.lemmas.List.Quantifiers.{position-Some}
use Rattle.std.proofs.lemmas.List.Sums.{sum_by-append, sum_by-cons}
use Rattle.std.proofs.lemmas.Option.{get_or_from_slice_get, slice_get-get_or, slice_get-map}
use Rattle.iam_context.specs.Context.{ContextValue}
use Rattle.iam_world.specs.World.{WorldValue}
use Rattle.iam_asked.specs.Code.Own.{same_entry}
use Rattle.iam_asked.specs.Code.Reading.{AreKept, asked_of, own_of, requests_of}
use Rattle.iam_asked.specs.Request.{AskedValue, IsWithin, RequestsValue, asked_with, with_asked}
use Rattle.iam_asked.specs.Size.{AreKeysOf, own_size, text_size}
use Rattle.iam_asked.specs.declared.asked.Asked.{Asked}
use Rattle.iam_asked.specs.declared.entry.Entry.{Entry}
use Rattle.iam_asked.proofs.KeysLemmas.{at_last, keys_new, keys_same}
use Rattle.iam_asked.proofs.OwnLemmas.{same_own-Decides}

-- ---- elements of lists

pub each_of : {X : Type 0} (P : X → Type 0) (xs : List X) (i : ℕ) (x : X) → All P xs → slice_get xs i ≡ Some x → i < length xs → P x
each_of P xs i x all at inside = subst P (get_or_from_slice_get xs i x x at) (all i x inside)

-- ---- one context more

own_before : (contexts : List ContextValue) (own : ContextValue) (n : ℕ) → n ≤ length contexts → own_of (contexts ++ own ∷ []) n ≡ own_of contexts n
own_before contexts own zero few = refl
own_before contexts own (suc n) few = ap (λ o. unwrap_or o []) (before contexts n few)
  where
    before : (xs : List ContextValue) (i : ℕ) → suc i ≤ length xs → slice_get (xs ++ own ∷ []) i ≡ slice_get xs i
    before [] i inside = absurd (omega (arith, inside))
    before (x ∷ xs) zero inside = refl
    before (x ∷ xs) (suc i) inside = before xs i (omega (arith, inside))

pub own_last : (contexts : List ContextValue) (own : ContextValue) → own_of (contexts ++ own ∷ []) (suc (length contexts)) ≡ own
own_last contexts own = ap (λ o. unwrap_or o []) (at_last contexts own)

pub asked_before : (contexts : List ContextValue) (own : ContextValue) (entries : List Entry) → All (λ entry. entry.context ≤ length contexts) entries
    → map (asked_of (contexts ++ own ∷ [])) entries ≡ map (asked_of contexts) entries
asked_before contexts own [] few = refl
asked_before contexts own (entry ∷ entries) few =
    let same : asked_of (contexts ++ own ∷ []) entry ≡ asked_of contexts entry =
    ap (λ it. record { principal = entry.principal; action = entry.action; resource = entry.resource; own = it }) (own_before contexts own entry.context (few 0 entry (omega arith))) in
    ap (λ it. it ∷ map (asked_of (contexts ++ own ∷ [])) entries) same
    ∙ ap (λ rest. asked_of contexts entry ∷ rest) (asked_before contexts own entries (λ k d inside. few (suc k) d (omega (arith, inside))))

-- ---- requests by their numbers

pub asked_at : (contexts : List ContextValue) (entries : List Entry) (n : ℕ) (entry : Entry) → n < length (map (asked_of contexts) entries) → entry ≡ get_or entries n entry
    → slice_get (map (asked_of contexts) entries) n ≡ Some (asked_of contexts entry)
asked_at contexts entries n entry inside is =
    slice_get-map (asked_of contexts) entries n
    ∙ ap (option_map (asked_of contexts)) (slice_get-get_or entries n entry (omega (arith, inside, length-map entries (asked_of contexts))) ∙ ap Some (sym is))

pub within_at : (world : WorldValue) (contexts : List ContextValue) (entries : List Entry) (n : ℕ) (entry : Entry) → All (IsWithin world) (map (asked_of contexts) entries)
    → n < length (map (asked_of contexts) entries) → entry ≡ get_or entries n entry → IsWithin world (asked_of contexts entry)
within_at world contexts entries n entry all inside is =
    each_of (IsWithin world) (map (asked_of contexts) entries) n (asked_of contexts entry) all (asked_at contexts entries n entry inside is) inside

pub own_at : (contexts : List ContextValue) (n : ℕ) (own : ContextValue) → slice_get contexts n ≡ Some own → own_of contexts (n + 1) ≡ own
own_at contexts n own at =
    let next : n + 1 ≡ suc n = omega arith in
    ap (own_of contexts) next ∙ ap (λ o. unwrap_or o []) at

-- the context of a number that is none, or one of those that there are
own_there : (contexts : List ContextValue) (n : ℕ) → n ≤ length contexts → own_of contexts n ≢ [] → (i : ℕ) × (slice_get contexts i ≡ Some (own_of contexts n))
own_there contexts zero few some = absurd (some refl)
own_there contexts (suc n) few some = (n, there contexts n few)
  where
    there : (xs : List ContextValue) (i : ℕ) → suc i ≤ length xs → slice_get xs i ≡ Some (unwrap_or (slice_get xs i) [])
    there [] i inside = absurd (omega (arith, inside))
    there (x ∷ xs) zero inside = refl
    there (x ∷ xs) (suc i) inside = there xs i (omega (arith, inside))

-- ---- how many contexts there are

pub some_keys : (own : ContextValue) → 0 < length own → own ≢ []
some_keys own some none = let empty = ap length none in omega (arith, empty, some)

some_size : (own : ContextValue) → own ≢ [] → 1 ≤ own_size own
some_size [] some = absurd (some refl)
some_size (entry ∷ own) some =
    let all = sum_by-cons (λ (it : List ℕ × List (List ℕ)). text_size it.0 + sum_by text_size it.1) entry own in
    omega (arith, all)

counted : (contexts : List ContextValue) → ((i : ℕ) (own : ContextValue) → slice_get contexts i ≡ Some own → own ≢ []) → length contexts ≤ sum_by own_size contexts
counted [] some = omega arith
counted (own ∷ contexts) some =
    let rest = counted contexts (λ i it at. some (suc i) it at) in
    omega (arith, rest, some_size own (some 0 own refl), sum_by-cons own_size own contexts)

-- ---- contexts that are sought

-- keys that a search finds
pub found_at : (contexts : List ContextValue) (own : ContextValue) (n : ℕ) → position (pointwise same_entry own) contexts ≡ Some n
    → slice_get contexts n ≡ Some own
found_at contexts own n at =
    let (inside, is, before) = position-Some (pointwise same_entry own) contexts n own at in
    slice_get-get_or contexts n own inside ∙ ap Some (sym ((same_own-Decides own (get_or contexts n own)).0 is))

-- keys that a search does not find are none of those that there are
pub not_among : (contexts : List ContextValue) (own : ContextValue) → list_any (pointwise same_entry own) contexts ≡ false → (i : ℕ) → slice_get contexts i ≢ Some own
not_among [] own none i at = let wrong : ⊥ = cc in wrong
not_among (it ∷ contexts) own none zero at =
    let same : it ≡ own = cc in
    let found = (same_own-Decides own it).1 (sym same) in
    true≢false (sym (ap (λ b. b || list_any (pointwise same_entry own) contexts) found) ∙ none)
not_among (it ∷ contexts) own none (suc i) at = not_among contexts own (by (pointwise same_entry own it) refl) i at
  where
    by : (b : Bool) → pointwise same_entry own it ≡ b → list_any (pointwise same_entry own) contexts ≡ false
    by true e = absurd (true≢false (sym (ap (λ b. b || list_any (pointwise same_entry own) contexts) e) ∙ none))
    by false e = sym (ap (λ b. b || list_any (pointwise same_entry own) contexts) e) ∙ none

-- ---- one request more

pub keep_more : (world : WorldValue) (entries : List Entry) (contexts : List ContextValue) (size : ℕ) (entry : Entry) → AreKept world entries contexts size
    → IsWithin world (asked_of contexts entry) → entry.context ≤ length contexts → length entries < 16777216 → AreKept world (entries ++ entry ∷ []) contexts size
keep_more world entries contexts size entry kept within known few =
    let all : map (asked_of contexts) (entries ++ entry ∷ []) ≡ map (asked_of contexts) entries ++ asked_of contexts entry ∷ [] = map-append (asked_of contexts) entries (entry ∷ []) in
    record {
      within = subst (All (IsWithin world)) (sym all) (All-push (IsWithin world) (map (asked_of contexts) entries) (asked_of contexts entry) kept.within within);
      contexts_are = All-push (λ (it : Entry). it.context ≤ length contexts) entries entry kept.contexts_are known;
      few = omega (arith, few, length-append entries (entry ∷ []));
      size_is = kept.size_is;
      most = kept.most;
      keys =
          subst (λ them. AreKeysOf them contexts) (sym all)
          (keys_same (map (asked_of contexts) entries) contexts (asked_of contexts entry) kept.keys (own_there contexts entry.context known));
    }

-- the same with one context more
pub keep_new : (world : WorldValue) (entries : List Entry) (contexts : List ContextValue) (size : ℕ) (own : ContextValue) (entry : Entry)
    → AreKept world entries contexts size → own ≢ [] → ((i : ℕ) → slice_get contexts i ≢ Some own) → IsWithin world (asked_of (contexts ++ own ∷ []) entry)
    → entry.context ≡ length contexts + 1 → length entries < 16777216 → size + own_size own ≤ 67108864
    → AreKept world (entries ++ entry ∷ []) (contexts ++ own ∷ []) (size + own_size own)
keep_new world entries contexts size own entry kept some new within last few fits =
    let more = contexts ++ own ∷ [] in
    let longer : length more ≡ length contexts + 1 = length-append contexts (own ∷ []) in
    let all : map (asked_of more) (entries ++ entry ∷ []) ≡ map (asked_of more) entries ++ asked_of more entry ∷ [] = map-append (asked_of more) entries (entry ∷ []) in
    let same = asked_before contexts own entries kept.contexts_are in
    let place : entry.context ≡ suc (length contexts) = omega (arith, last) in
    let here : own_of more entry.context ≡ own = ap (own_of more) place ∙ own_last contexts own in
    let before : AreKeysOf (map (asked_of more) entries) contexts = subst (λ them. AreKeysOf them contexts) (sym same) kept.keys in
    let keys : AreKeysOf (map (asked_of more) entries ++ asked_of more entry ∷ []) (contexts ++ own_of more entry.context ∷ []) =
    keys_new (map (asked_of more) entries) contexts (asked_of more entry) before (λ none. some (sym here ∙ none)) (λ i at. new i (at ∙ ap Some here)) in
    record {
      within =
          subst (All (IsWithin world)) (sym all)
          (All-push (IsWithin world) (map (asked_of more) entries) (asked_of more entry) (subst (All (IsWithin world)) (sym same) kept.within) within);
      contexts_are =
          All-push (λ (it : Entry). it.context ≤ length more) entries entry (λ k d inside. let old = kept.contexts_are k d inside in omega (arith, old, longer))
          (omega (arith, last, longer));
      few = omega (arith, few, length-append entries (entry ∷ []));
      size_is = omega (arith, kept.size_is, sum_by-append own_size contexts (own ∷ []), sum_by-cons own_size own []);
      most = fits;
      keys =
          subst (λ them. AreKeysOf them more) (sym all)
          (subst (λ it. AreKeysOf (map (asked_of more) entries ++ asked_of more entry ∷ []) (contexts ++ it ∷ [])) here keys);
    }

-- ---- the values of requests, when one more comes

pub few_contexts : (world : WorldValue) (entries : List Entry) (contexts : List ContextValue) (size : ℕ) → AreKept world entries contexts size
    → length contexts ≤ 67108864
few_contexts world entries contexts size kept = omega (arith, counted contexts (λ i own at. (kept.keys.given i own at).0), kept.size_is, kept.most)

pub requests_more : (world : WorldValue) (entries : List Entry) (contexts : List ContextValue) (entry : Entry)
    → requests_of world (entries ++ entry ∷ []) contexts ≡ with_asked (requests_of world entries contexts) (asked_of contexts entry)
requests_more world entries contexts entry =
    let of : List AskedValue → RequestsValue = λ asked. record { world = world; asked = asked } in
    ap of (map-append (asked_of contexts) entries (entry ∷ []))

-- the request of an entry with these numbers
pub asked_known : (contexts : List ContextValue) (asked : Asked) (own : ContextValue) (context : ℕ) (entry : Entry)
    → entry ≡ record { principal = asked.principal; action = asked.action; resource = asked.resource; context = context } → own_of contexts context ≡ own
    → asked_of contexts entry ≡ asked_with asked own
asked_known contexts asked own context entry is here = ap (asked_of contexts) is ∙ ap (asked_with asked) here

pub requests_new : (world : WorldValue) (entries : List Entry) (contexts : List ContextValue) (asked : Asked) (own : ContextValue) (context : ℕ) (entry : Entry)
    → All (λ entry. entry.context ≤ length contexts) entries
    → entry ≡ record { principal = asked.principal; action = asked.action; resource = asked.resource; context = context } → context ≡ length contexts + 1
    → requests_of world (entries ++ entry ∷ []) (contexts ++ own ∷ []) ≡ with_asked (requests_of world entries contexts) (asked_with asked own)
requests_new world entries contexts asked own context entry known is last =
    let more = contexts ++ own ∷ [] in
    let of : List AskedValue → RequestsValue = λ them. record { world = world; asked = them } in
    let place : context ≡ suc (length contexts) = omega (arith, last) in
    let here : own_of more context ≡ own = ap (own_of more) place ∙ own_last contexts own in
    requests_more world entries more entry
    ∙ ap (with_asked (requests_of world entries more)) (asked_known more asked own context entry is here)
    ∙ ap (λ them. with_asked (of them) (asked_with asked own)) (asked_before contexts own entries known)
