-- What a walk that leaves statements untested has found is enough for a verdict, or for a decision; and how it goes on.
use Rattle.std.proofs.Common.{◌≡◌, ◌⊎◌, inl, inr, ◌↔◌, ◌+◌, ◌<◌, ◌≤◌, ℕ, List, [], ◌∷◌, ◌++◌, map, take, length, get_or, refl, sym, ap, ◌∙◌, subst, arith}
use Rattle.std.proofs.lemmas.List.{take_more, map-append, map-id, append-nil}
use Rattle.std.proofs.lemmas.List.Elements.{All-contains}
use Rattle.std.specs.List.{Any, Contains}
use Rattle.iam_policy.specs.declared.effect.Effect.{Effect}
use Rattle.iam_policy.specs.declared.effect.Effect.TheVariants.{Allow, Deny}
use Rattle.iam_match.specs.Principal.{grant_of, rank}
use Rattle.iam_match.specs.Statement.{ActionMatches, RequestValue}
use Rattle.iam_match.specs.declared.principal.Grant.{Grant}
use Rattle.iam_decision.specs.Applicable.{ApplicableValue}
use Rattle.iam_decision.specs.Code.Found.{AllowsIn, ArePlaces, DeniesIn, GrantsIn}
use Rattle.iam_decision.specs.Decision.{Allows, AllowsAt, AreDeciding, AreLacking, Denies, Grants, GrantsAtLeast, IsDecided, Says, deciding_effect, layers_in_order}
use Rattle.iam_decision.specs.Early.{CandidatesSuffice, CandidatesTell, DenyDecides, HasAll, Suffices, SufficesOneByOne, Tells, TellsOneByOne}
use Rattle.iam_decision.specs.Living.{AreCandidates, AreFound, IsIdle, item_of}
use Rattle.iam_decision.specs.Matched.{IsMatched, Placed, Selects, placed}
use Rattle.iam_decision.specs.declared.frame.Frame.{Frame}
use Rattle.iam_decision.specs.declared.living.Matched.{Matched}
use Rattle.iam_decision.specs.declared.place.Layer.{Layer}
use Rattle.iam_decision.specs.declared.place.Layer.TheVariants.{Resource}
use Rattle.iam_decision.specs.declared.place.Place.{Place}
use Rattle.iam_decision.specs.declared.verdict.Decision.{Decision}
use Rattle.iam_decision.specs.declared.verdict.Decision.TheVariants.{Allowed, ExplicitDeny, ImplicitDeny}
use Rattle.iam_decision.proofs.OneVerdict.{one_selection}
use Rattle.iam_decision.proofs.ScanLemmas.{selects_append}
use Rattle.iam_decision.proofs.SomeLemmas.{SomeOf, any_from_some, iff_trans, some_append, some_from_any}
use Rattle.iam_decision.proofs.VerdictLemmas.{allowed_same, any_chosen, fails_same, select_same, select_twice}

no_both : {e : Effect} → e ≡ Allow → e ≡ Deny → ⊥
no_both allow deny = cc

is_same_effect : (one other : Effect) → (one ≡ other) ⊎ ¬ (one ≡ other)
is_same_effect Allow Allow = inl refl
is_same_effect Allow Deny = inr (λ same. let wrong : ⊥ = cc in wrong)
is_same_effect Deny Allow = inr (λ same. let wrong : ⊥ = cc in wrong)
is_same_effect Deny Deny = inl refl

-- those of the found ones that have the effect
with_effect : (effect : Effect) (found : List Matched) → (kept : List Matched) × Selects (λ m. m.effect ≡ effect) found kept
with_effect effect [] = ([], refl)
with_effect effect (m ∷ found) =
    let rest = with_effect effect found in
    elim (is_same_effect m.effect effect) [
      | inl same ↦ (m ∷ rest.0, inl (same, (rest.0, refl, rest.1)))
      | inr other ↦ (rest.0, inr (other, rest.1))
    ]

found_has_all : (q : RequestValue) (statements : List Placed) (found : List Matched) (effect : Effect) → AreFound q statements found → HasAll q statements found effect
found_has_all q statements found effect (chosen, selected, is) =
    let E : Matched → Type 0 = λ m. m.effect ≡ effect in
    let kept = with_effect effect found in
    let S : List Matched → Type 0 = λ z. Selects E z kept.0 in
    let F : List Matched → Type 0 = λ z. Selects E found z in
    let both = select_twice (IsMatched q) E (item_of q.requester) statements chosen kept.0 selected (subst S is kept.1) in
    (both.0, both.1, subst F both.2 kept.1)

-- where each statement that matches was found, that suffices
pub found_suffices : (q : RequestValue) (statements : List Placed) (found : List Matched) → AreFound q statements found → Suffices q statements found
found_suffices q statements found are = record {
  denies = found_has_all q statements found Deny are;
  allows = λ none. found_has_all q statements found Allow are;
}

-- some matched statement is as R says where some found one is as S says
same_of_all : (q : RequestValue) (effect : Effect) (R : Placed → Type 0) (S : Matched → Type 0)
    → ((s : Placed) → R s → Says q effect s × S (item_of q.requester s)) → ((s : Placed) → Says q effect s → S (item_of q.requester s) → R s)
    → ((m : Matched) → S m → m.effect ≡ effect) → (statements : List Placed) (found : List Matched) → HasAll q statements found effect
    → Any R statements ↔ Any S found
same_of_all q effect R S on back has statements found (chosen, h, k) =
    let items = map (item_of q.requester) chosen in
    let E : Matched → Type 0 = λ m. m.effect ≡ effect in
    let Q : List Matched → Type 0 = λ z. Any S found ↔ Any S z in
    let kept = subst Q (map-id items) (any_chosen E S S (λ (m : Matched). m) (λ m s. (has m s, s)) (λ m p s. s) found items k) in
    iff_trans (any_chosen (Says q effect) R S (item_of q.requester) on back statements chosen h) (kept.1, kept.0)

allows_of_all : (q : RequestValue) (statements : List Placed) (found : List Matched) → HasAll q statements found Allow
    → (layer : Layer) (level : ℕ) → Any (AllowsAt q layer level) statements ↔ AllowsIn found layer level
allows_of_all q statements found all layer level =
    same_of_all q Allow (AllowsAt q layer level) (λ (m : Matched). (m.effect ≡ Allow) × (m.place.layer ≡ layer) × (m.place.level ≡ level))
    (λ s r. (r.0, (r.0.1, r.1, r.2))) (λ s p t. (p, t.1, t.2)) (λ m t. t.0) statements found all

grants_of_all : (q : RequestValue) (statements : List Placed) (found : List Matched) → HasAll q statements found Allow
    → (least : Grant) → Any (GrantsAtLeast q least) statements ↔ GrantsIn found least
grants_of_all q statements found all least =
    same_of_all q Allow (GrantsAtLeast q least) (λ (m : Matched). (m.effect ≡ Allow) × (m.place.layer ≡ Resource) × (rank least ≤ rank m.grant))
    (λ s r. (r.0, (r.0.1, r.1, r.2))) (λ s p t. (p, t.1, t.2)) (λ m t. t.0) statements found all

places_of_all : (q : RequestValue) (effect : Effect) (statements : List Placed) (found : List Matched) (places : List Place)
    → HasAll q statements found effect → ArePlaces effect found places
    → (chosen : List Placed) × Selects (Says q effect) statements chosen × (places ≡ map (λ s. s.place) chosen)
places_of_all q effect statements found places (chosen, h, k) (kept, selected, is) = (
  chosen,
  h,
  is ∙ ap (map (λ (m : Matched). m.place)) (one_selection (λ (m : Matched). m.effect ≡ effect) found kept (map (item_of q.requester) chosen) selected k) ∙ places_map chosen,
)
  where
    places_map : (xs : List Placed) → map (λ (m : Matched). m.place) (map (item_of q.requester) xs) ≡ map (λ s. s.place) xs
    places_map [] = refl
    places_map (x ∷ xs) = ap (λ z. x.place ∷ z) (places_map xs)

-- the verdict of what suffices
module _ (a : ApplicableValue) (q : RequestValue) (f : Frame) (found : List Matched) (enough : Suffices q (placed a) found) where
  denies_same : Denies a q ↔ DeniesIn found
  denies_same = same_of_all q Deny (Says q Deny) (λ (m : Matched). m.effect ≡ Deny) (λ s r. (r, r.1)) (λ s p t. p) (λ m t. t) (placed a) found enough.denies

  pub decided_same : (d : Decision) → IsDecided (DeniesIn found) (AllowsIn found) (GrantsIn found) f d → IsDecided (Denies a q) (Allows a q) (Grants a q) f d
  decided_same ExplicitDeny h = denies_same.1 h
  decided_same Allowed h =
      let all = enough.allows h.0 in
      ((λ denies. h.0 (denies_same.0 denies)), (allowed_same a q f found (allows_of_all q (placed a) found all) (grants_of_all q (placed a) found all)).0 h.1)
  decided_same ImplicitDeny h =
      let all = enough.allows h.0 in
      ((λ denies. h.0 (denies_same.0 denies)), (λ allowed. h.1 ((allowed_same a q f found (allows_of_all q (placed a) found all) (grants_of_all q (placed a) found all)).1 allowed)))

  pub lacking_same : (d : Decision) (lacks : List Layer) → IsDecided (DeniesIn found) (AllowsIn found) (GrantsIn found) f d
      → AreLacking (AllowsIn found) (GrantsIn found) f d lacks → AreLacking (Allows a q) (Grants a q) f d lacks
  lacking_same ExplicitDeny lacks decided h = h
  lacking_same Allowed lacks decided h = h
  lacking_same ImplicitDeny lacks decided h =
      let all = enough.allows decided.0 in
      select_same _ _ (fails_same a q f found (allows_of_all q (placed a) found all) (grants_of_all q (placed a) found all)) layers_in_order lacks h

  pub deciding_same : (d : Decision) (places : List Place) → IsDecided (DeniesIn found) (AllowsIn found) (GrantsIn found) f d
      → ArePlaces (deciding_effect d) found places → AreDeciding a q d places
  deciding_same ExplicitDeny places decided h = places_of_all q Deny (placed a) found places enough.denies h
  deciding_same Allowed places decided h = places_of_all q Allow (placed a) found places (enough.allows decided.0) h
  deciding_same ImplicitDeny places decided h = places_of_all q Allow (placed a) found places (enough.allows decided.0) h

-- one more statement, which is chosen or is not
select_end : {X : Type 0} (P : X → Type 0) (xs chosen : List X) (x : X) → Selects P xs chosen → P x → Selects P (xs ++ x ∷ []) (chosen ++ x ∷ [])
select_end P xs chosen x h p = selects_append P xs (x ∷ []) chosen (x ∷ []) h (inl (p, ([], refl, refl)))

select_past : {X : Type 0} (P : X → Type 0) (xs chosen : List X) (x : X) → Selects P xs chosen → ¬ P x → Selects P (xs ++ x ∷ []) chosen
select_past P xs chosen x h skipped =
    let Q : List _ → Type 0 = λ z. Selects P (xs ++ x ∷ []) z in subst Q (append-nil chosen) (selects_append P xs (x ∷ []) chosen [] h (inr (skipped, refl)))

has_more : (q : RequestValue) (statements : List Placed) (found : List Matched) (effect : Effect) (s : Placed) → HasAll q statements found effect → IsMatched q s
    → HasAll q (statements ++ s ∷ []) (found ++ item_of q.requester s ∷ []) effect
has_more q statements found effect s (chosen, h, k) matched =
    let item = item_of q.requester in
    let E : Matched → Type 0 = λ m. m.effect ≡ effect in
    let Q : List Matched → Type 0 = λ z. Selects E (found ++ item s ∷ []) z in
    elim (is_same_effect s.statement.effect effect) [
      | inl same ↦ (
        chosen ++ s ∷ [],
        select_end (Says q effect) statements chosen s h (matched, same),
        subst Q (sym (map-append item chosen (s ∷ []))) (select_end E found (map item chosen) (item s) k same),
      )
      | inr other ↦ (
        chosen,
        select_past (Says q effect) statements chosen s h (λ says. other says.1),
        select_past E found (map item chosen) (item s) k other,
      )
    ]

has_past : (q : RequestValue) (statements : List Placed) (found : List Matched) (effect : Effect) (s : Placed) → HasAll q statements found effect
    → ¬ Says q effect s → HasAll q (statements ++ s ∷ []) found effect
has_past q statements found effect s (chosen, h, k) silent = (chosen, select_past (Says q effect) statements chosen s h silent, k)

-- one more element
any_end : {X : Type 0} (P : X → Type 0) (xs : List X) (x : X) → Any P (xs ++ x ∷ []) ↔ (Any P xs ⊎ P x)
any_end P xs x =
    let parts = some_append P xs (x ∷ []) in (
      λ any. elim (parts.0 (some_from_any P (xs ++ x ∷ []) any)) [
        | inl some ↦ inl (any_from_some P xs some)
        | inr last ↦ elim last [ inl p ↦ inr p | inr none ↦ absurd none ]
      ],
      λ h. any_from_some P (xs ++ x ∷ []) (elim h [ inl any ↦ parts.1 (inl (some_from_any P xs any)) | inr p ↦ parts.1 (inr (inl p)) ]),
    )

any_both : {X Y : Type 0} (P : X → Type 0) (S : Y → Type 0) (xs : List X) (ys : List Y) (x : X) (y : Y) → Any P xs ↔ Any S ys → P x ↔ S y
    → Any P (xs ++ x ∷ []) ↔ Any S (ys ++ y ∷ [])
any_both P S xs ys x y before here = (
  λ any. (any_end S ys y).1 (elim ((any_end P xs x).0 any) [ inl some ↦ inl (before.0 some) | inr p ↦ inr (here.0 p) ]),
  λ any. (any_end P xs x).1 (elim ((any_end S ys y).0 any) [ inl some ↦ inl (before.1 some) | inr s ↦ inr (here.1 s) ]),
)

any_stays : {X A : Type 0} (P : X → Type 0) (xs : List X) (x : X) → Any P xs ↔ A → (P x → A) → Any P (xs ++ x ∷ []) ↔ A
any_stays P xs x before here = (
  λ any. elim ((any_end P xs x).0 any) [ inl some ↦ before.0 some | inr p ↦ here p ],
  λ a. (any_end P xs x).1 (inl (before.1 a)),
)

any_none : {X : Type 0} (P : X → Type 0) (xs : List X) (x : X) → ¬ Any P xs → ¬ P x → ¬ Any P (xs ++ x ∷ [])
any_none P xs x before here any = elim ((any_end P xs x).0 any) [ inl some ↦ before some | inr p ↦ here p ]

taken : {X : Type 0} (xs : List X) (i : ℕ) (x : X) → i < length xs → x ≡ get_or xs i x → take (i + 1) xs ≡ take i xs ++ x ∷ []
taken xs i x below is = take_more xs i x below ∙ ap (λ z. take i xs ++ z ∷ []) (sym is)

pub nothing_suffices : (q : RequestValue) → Suffices q [] []
nothing_suffices q = record { denies = ([], refl, refl); allows = λ none. ([], refl, refl) }

pub suffices_one_by_one : SufficesOneByOne
suffices_one_by_one q statements i s found below is h =
    let before = take i statements in
    let D : Matched → Type 0 = λ m. m.effect ≡ Deny in
    let on : (new : List Matched) → Suffices q (before ++ s ∷ []) new → Suffices q (take (i + 1) statements) new =
    λ new. let Q : List Placed → Type 0 = λ z. Suffices q z new in subst Q (sym (taken statements i s below is)) in (
      λ matched. on (found ++ item_of q.requester s ∷ []) (record {
        denies = has_more q before found Deny s h.denies matched;
        allows = λ none. has_more q before found Allow s (h.allows (λ denies. none ((any_end D found (item_of q.requester s)).1 (inl denies)))) matched;
      }),
      λ unmatched. on found (record {
        denies = has_past q before found Deny s h.denies (λ says. unmatched says.0);
        allows = λ none. has_past q before found Allow s (h.allows none) (λ says. unmatched says.0);
      }),
      λ allow denies. on found (record {
        denies = has_past q before found Deny s h.denies (λ says. no_both allow says.1);
        allows = λ none. absurd (none denies);
      }),
    )

pub nothing_tells : (q : RequestValue) → Tells q [] []
nothing_tells q = record {
  denies = λ any. some_from_any (Says q Deny) [] any;
  allows = λ layer level. nothing_same (AllowsAt q layer level) (λ (m : Matched). (m.effect ≡ Allow) × (m.place.layer ≡ layer) × (m.place.level ≡ level));
  grants = λ least. nothing_same (GrantsAtLeast q least) (λ (m : Matched). (m.effect ≡ Allow) × (m.place.layer ≡ Resource) × (rank least ≤ rank m.grant));
}
  where
    nothing_same : {X Y : Type 0} (P : X → Type 0) (S : Y → Type 0) → Any P [] ↔ Any S []
    nothing_same P S = ((λ any. absurd (some_from_any P [] any)), (λ any. absurd (some_from_any S [] any)))

-- a grant that was found grants whatever is no more
grants_less : (found : List Matched) (more least : Grant) → rank least ≤ rank more → GrantsIn found more → GrantsIn found least
grants_less found more least below g = (g.0, g.1, g.2, g.3, (g.4.0, g.4.1, (let enough : rank more ≤ rank g.1.grant = g.4.2 in omega arith)))

settled_allows : (q : RequestValue) (s : Placed) (found : List Matched) (layer : Layer) (level : ℕ) → AllowsIn found s.place.layer s.place.level
    → AllowsAt q layer level s → AllowsIn found layer level
settled_allows q s found layer level allows (says, at_layer, at_level) =
    let L : Layer → Type 0 = λ z. AllowsIn found z s.place.level in
    let N : ℕ → Type 0 = λ z. AllowsIn found layer z in
    subst N at_level (subst L at_layer allows)

pub tells_one_by_one : TellsOneByOne
tells_one_by_one q statements i s found below is h =
    let before = take i statements in
    let item = item_of q.requester s in
    let on : (new : List Matched) → Tells q (before ++ s ∷ []) new → Tells q (take (i + 1) statements) new =
    λ new. let Q : List Placed → Type 0 = λ z. Tells q z new in subst Q (sym (taken statements i s below is)) in (
      λ says. on (found ++ item ∷ []) (record {
        denies = any_none (Says q Deny) before s h.denies (λ denies. no_both says.1 denies.1);
        allows = λ layer level.
            any_both (AllowsAt q layer level) (λ (m : Matched). (m.effect ≡ Allow) × (m.place.layer ≡ layer) × (m.place.level ≡ level)) before found s item
            (h.allows layer level) ((λ at. (at.0.1, at.1, at.2)), (λ m. (says, m.1, m.2)));
        grants = λ least.
            any_both (GrantsAtLeast q least) (λ (m : Matched). (m.effect ≡ Allow) × (m.place.layer ≡ Resource) × (rank least ≤ rank m.grant)) before found s item
            (h.grants least) ((λ at. (at.0.1, at.1, at.2)), (λ m. (says, m.1, m.2)));
      }),
      λ unmatched. on found (record {
        denies = any_none (Says q Deny) before s h.denies (λ denies. unmatched denies.0);
        allows = λ layer level. any_stays (AllowsAt q layer level) before s (h.allows layer level) (λ at. absurd (unmatched at.0.0));
        grants = λ least. any_stays (GrantsAtLeast q least) before s (h.grants least) (λ at. absurd (unmatched at.0.0));
      }),
      λ allow settled. on found (record {
        denies = any_none (Says q Deny) before s h.denies (λ denies. no_both allow denies.1);
        allows = λ layer level. any_stays (AllowsAt q layer level) before s (h.allows layer level) (settled_allows q s found layer level settled.0);
        grants = λ least.
            any_stays (GrantsAtLeast q least) before s (h.grants least)
            (λ at. grants_less found (grant_of s.statement.principal q.requester) least at.2 (settled.1 at.1));
      }),
    )

-- an element of the candidates is one of the statements
some_of_candidates : (actions : List (List ℕ)) (P : Placed → Type 0) (statements candidates : List Placed) → AreCandidates actions statements candidates
    → SomeOf P candidates → SomeOf P statements
some_of_candidates actions P [] candidates is some = let Q : List Placed → Type 0 = λ z. SomeOf P z in subst Q is some
some_of_candidates actions P (s ∷ statements) candidates (inl (rest, is, are)) some =
    let Q : List Placed → Type 0 = λ z. SomeOf P z in
    elim (subst Q is some) [ inl p ↦ inl p | inr later ↦ inr (some_of_candidates actions P statements rest are later) ]
some_of_candidates actions P (s ∷ statements) candidates (inr (idle, are)) some = inr (some_of_candidates actions P statements candidates are some)

pub deny_decides : DenyDecides
deny_decides actions a q candidates are any =
    any_from_some (Says q Deny) (placed a) (some_of_candidates actions (Says q Deny) (placed a) candidates are (some_from_any (Says q Deny) candidates any))

-- whatever only a matched statement has is chosen of the statements where it is chosen of the candidates
module _ (actions : List (List ℕ)) (q : RequestValue) (asked : Contains actions q.action) (P : Placed → Type 0) (matches : (s : Placed) → P s → IsMatched q s) where
  busy : (s : Placed) → IsIdle actions s → ¬ P s
  busy s idle p = All-contains (λ action. ¬ ActionMatches s.statement.action action) actions q.action idle asked (matches s p).action

  selects_of_candidates : (statements candidates chosen : List Placed) → AreCandidates actions statements candidates → Selects P candidates chosen
      → Selects P statements chosen
  selects_of_candidates [] candidates chosen is h = let Q : List Placed → Type 0 = λ z. Selects P z chosen in subst Q is h
  selects_of_candidates (s ∷ statements) candidates chosen (inl (rest, is, are)) h =
      let Q : List Placed → Type 0 = λ z. Selects P z chosen in
      elim (subst Q is h) [
        | inl (p, (others, chosen_is, later)) ↦ inl (p, (others, chosen_is, selects_of_candidates statements rest others are later))
        | inr (skipped, later) ↦ inr (skipped, selects_of_candidates statements rest chosen are later)
      ]
  selects_of_candidates (s ∷ statements) candidates chosen (inr (idle, are)) h =
      inr (busy s idle, selects_of_candidates statements candidates chosen are h)

  some_to_candidates : (statements candidates : List Placed) → AreCandidates actions statements candidates → SomeOf P statements → SomeOf P candidates
  some_to_candidates [] candidates is some = absurd some
  some_to_candidates (s ∷ statements) candidates (inl (rest, is, are)) some =
      let Q : List Placed → Type 0 = λ z. SomeOf P z in
      subst Q (sym is) (elim some [ inl p ↦ inl p | inr later ↦ inr (some_to_candidates statements rest are later) ])
  some_to_candidates (s ∷ statements) candidates (inr (idle, are)) (inl p) = absurd (busy s idle p)
  some_to_candidates (s ∷ statements) candidates (inr (idle, are)) (inr later) = some_to_candidates statements candidates are later

  any_candidate : (statements candidates : List Placed) → AreCandidates actions statements candidates → Any P statements ↔ Any P candidates
  any_candidate statements candidates are = (
    λ any. any_from_some P candidates (some_to_candidates statements candidates are (some_from_any P statements any)),
    λ any. any_from_some P statements (some_of_candidates actions P statements candidates are (some_from_any P candidates any)),
  )

-- the candidates that match a request are the statements that match it
pub candidates_found : (actions : List (List ℕ)) (q : RequestValue) (statements candidates : List Placed) (found : List Matched)
    → Contains actions q.action → AreCandidates actions statements candidates → AreFound q candidates found → AreFound q statements found
candidates_found actions q statements candidates found asked are (chosen, selected, is) =
    (chosen, selects_of_candidates actions q asked (IsMatched q) (λ s m. m) statements candidates chosen are selected, is)

pub candidates_suffice : CandidatesSuffice
candidates_suffice actions q statements candidates found asked are h =
    let all : (effect : Effect) → HasAll q candidates found effect → HasAll q statements found effect =
    λ effect has. (has.0, selects_of_candidates actions q asked (Says q effect) (λ s says. says.0) statements candidates has.0 are has.1, has.2) in
    record { denies = all Deny h.denies; allows = λ none. all Allow (h.allows none) }

pub candidates_tell : CandidatesTell
candidates_tell actions q statements candidates found asked are h = record {
  denies = λ any. h.denies ((any_candidate actions q asked (Says q Deny) (λ s says. says.0) statements candidates are).0 any);
  allows = λ layer level.
      iff_trans (any_candidate actions q asked (AllowsAt q layer level) (λ s at. at.0.0) statements candidates are) (h.allows layer level);
  grants = λ least. iff_trans (any_candidate actions q asked (GrantsAtLeast q least) (λ s at. at.0.0) statements candidates are) (h.grants least);
}
