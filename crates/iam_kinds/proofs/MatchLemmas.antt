-- Matching, character by character, and from places.
use Rattle.std.proofs.Common.{◌≡◌, ◌↔◌, ◌⊎◌, inl, inr, ℕ, zero, suc, ◌<◌, ◌+◌, Bool, true, false, ◌==◌, ◌&&◌, List, [], ◌∷◌, ◌++◌, length, drop, refl, sym, ap, ◌∙◌, subst, arith, append-nil, Option, Some, None}
use Rattle.std.specs.List.{Contains, concat, flat_map, slice_get}
use Rattle.std.specs.Option.{option_map_or}
use Rattle.std.proofs.lemmas.Bool.{eqb-true, eq-eqb}
use Rattle.iam_glob.specs.Glob.{Matches}
use Rattle.iam_glob.specs.declared.sign.Sign.{Sign}
use Rattle.iam_glob.specs.declared.sign.Sign.TheVariants.{Given, One, Any}
use Rattle.iam_kinds.specs.Code.{AreIn, IsTable, HasGoal, Leads, SameElements, are_any, group_at, is_good, is_last_any, moves_from, moves_of, place_at, rest_at, settled_place, settled_places, stepped}
use Rattle.iam_kinds.specs.declared.table.Pattern.{Pattern}
use Rattle.iam_kinds.specs.declared.table.Place.{Place}
use Rattle.iam_kinds.proofs.Members.{In, in_of, of_in, in_flat, from_flat, in_map, from_map, all_of, of_all, from_any}
use Rattle.iam_kinds.proofs.PlaceLemmas.{both}
use Rattle.iam_kinds.proofs.StepLemmas.{moves_in, moves_own}

pub nothing_left : (c : ℕ) (w : List ℕ) → ¬ Matches [] (c ∷ w)
nothing_left c w ([], z, e) = cc
nothing_left c w (part ∷ parts, z, e) = absurd z

pub given_on : (d : ℕ) (signs : List Sign) (w : List ℕ) → Matches signs w → Matches (Given d ∷ signs) (d ∷ w)
given_on d signs w m = ((d ∷ []) ∷ m.0, (refl, m.1), ap (λ t. d ∷ t) m.2)

pub given_off : (d : ℕ) (signs : List Sign) (c : ℕ) (w : List ℕ) → Matches (Given d ∷ signs) (c ∷ w) → (d ≡ c) × Matches signs w
given_off d signs c w ([], z, e) = absurd z
given_off d signs c w (part ∷ parts, z, e) =
    let fits : part ≡ d ∷ [] = z.0 in
    let joined : d ∷ concat parts ≡ c ∷ w = rw fits at e in
    ((let same : d ≡ c = cc in same), (parts, z.1, (let rest : concat parts ≡ w = cc in rest)))

pub given_some : (d : ℕ) (signs : List Sign) → ¬ Matches (Given d ∷ signs) []
given_some d signs ([], z, e) = absurd z
given_some d signs (part ∷ parts, z, e) =
    let fits : part ≡ d ∷ [] = z.0 in
    let joined : d ∷ concat parts ≡ [] = rw fits at e in cc

pub one_on : (signs : List Sign) (c : ℕ) (w : List ℕ) → Matches signs w → Matches (One ∷ signs) (c ∷ w)
one_on signs c w m = ((c ∷ []) ∷ m.0, (refl, m.1), ap (λ t. c ∷ t) m.2)

pub one_off : (signs : List Sign) (c : ℕ) (w : List ℕ) → Matches (One ∷ signs) (c ∷ w) → Matches signs w
one_off signs c w ([], z, e) = absurd z
one_off signs c w ([] ∷ parts, z, e) = absurd (omega (arith, z.0))
one_off signs c w ((x ∷ y ∷ part) ∷ parts, z, e) = absurd (omega (arith, z.0))
one_off signs c w ((x ∷ []) ∷ parts, z, e) = (parts, z.1, (let rest : concat parts ≡ w = cc in rest))

pub one_some : (signs : List Sign) → ¬ Matches (One ∷ signs) []
one_some signs ([], z, e) = absurd z
one_some signs ([] ∷ parts, z, e) = omega (arith, z.0)
one_some signs ((x ∷ part) ∷ parts, z, e) = cc

pub any_skip : (signs : List Sign) (w : List ℕ) → Matches signs w → Matches (Any ∷ signs) w
any_skip signs w m = ([] ∷ m.0, (tt, m.1), m.2)

pub any_more : (signs : List Sign) (c : ℕ) (w : List ℕ) → Matches (Any ∷ signs) w → Matches (Any ∷ signs) (c ∷ w)
any_more signs c w ([], z, e) = absurd z
any_more signs c w (part ∷ parts, z, e) = ((c ∷ part) ∷ parts, z, ap (λ t. c ∷ t) e)

pub any_off : (signs : List Sign) (c : ℕ) (w : List ℕ) → Matches (Any ∷ signs) (c ∷ w) → Matches signs (c ∷ w) ⊎ Matches (Any ∷ signs) w
any_off signs c w ([], z, e) = absurd z
any_off signs c w ([] ∷ parts, z, e) = inl (parts, z.1, e)
any_off signs c w ((x ∷ part) ∷ parts, z, e) = inr (part ∷ parts, z, (let rest : part ++ concat parts ≡ w = cc in rest))

pub any_end : (signs : List Sign) → Matches (Any ∷ signs) [] → Matches signs []
any_end signs ([], z, e) = absurd z
any_end signs ([] ∷ parts, z, e) = (parts, z.1, e)
any_end signs ((x ∷ part) ∷ parts, z, e) = absurd (let no_text : ⊥ = cc in no_text)

-- a last `Any` matches every text
pub any_all : (w : List ℕ) → Matches (Any ∷ []) w
any_all w = (w ∷ [], (tt, tt), append-nil w)

-- `Any`s alone match the empty text, and no other signs do
pub anys_end : (signs : List Sign) → are_any signs ≡ true → Matches signs []
anys_end [] e = ([], tt, refl)
anys_end (Given d ∷ signs) e = absurd (cc)
anys_end (One ∷ signs) e = absurd (cc)
anys_end (Any ∷ signs) e = any_skip signs [] (anys_end signs e)

pub end_anys : (signs : List Sign) → Matches signs [] → are_any signs ≡ true
end_anys [] m = refl
end_anys (Given d ∷ signs) m = absurd (given_some d signs m)
end_anys (One ∷ signs) m = absurd (one_some signs m)
end_anys (Any ∷ signs) m = end_anys signs (any_end signs m)

pub tail_drop : (n : ℕ) (signs : List Sign) (x : Sign) (rest : List Sign) → x ∷ rest ≡ drop n signs → rest ≡ drop (n + 1) signs
tail_drop zero [] x rest e = absurd (cc)
tail_drop (suc n) [] x rest e = absurd (cc)
tail_drop zero (y ∷ signs) x rest e = let same : rest ≡ signs = cc in same
tail_drop (suc n) (y ∷ signs) x rest e =
    let more : suc (n + 1) ≡ suc n + 1 = omega arith in
    tail_drop n signs x rest e ∙ ap (λ k. drop k (y ∷ signs)) more

-- a match goes on at one of the places to which the character leads
pub match_moves : (signs : List Sign) (p at : ℕ) (rest : List Sign) (c : ℕ) (w : List ℕ) → rest ≡ drop at signs → Matches rest (c ∷ w)
    → (k : Place) × In k (moves_from p at rest c) × Matches (drop k.at signs) w
match_moves signs p at [] c w e m = absurd (nothing_left c w m)
match_moves signs p at (Given d ∷ rest) c w e m =
    let r = given_off d rest c w m in
    let test : (d == c) ≡ true = eq-eqb d c r.0 in
    (place_at p (at + 1), rw test (inl refl), subst (λ (s : List Sign). Matches s w) (tail_drop at signs (Given d) rest e) r.1)
match_moves signs p at (One ∷ rest) c w e m =
    (place_at p (at + 1), inl refl, subst (λ (s : List Sign). Matches s w) (tail_drop at signs One rest e) (one_off rest c w m))
match_moves signs p at (Any ∷ rest) c w e m = elim (any_off rest c w m) [
  | inl later ↦ let r = match_moves signs p (at + 1) rest c w (tail_drop at signs Any rest e) later in (r.0, inr r.1, r.2)
  | inr stay ↦ (place_at p at, inl refl, subst (λ (s : List Sign). Matches s w) e stay)
]

pub moves_match : (signs : List Sign) (p at : ℕ) (rest : List Sign) (c : ℕ) (w : List ℕ) (k : Place) → rest ≡ drop at signs
    → In k (moves_from p at rest c) → Matches (drop k.at signs) w → Matches rest (c ∷ w)
moves_match signs p at [] c w k e h m = absurd h
moves_match signs p at (Given d ∷ rest) c w k e h m = by_test signs p at d rest c w k e (d == c) refl h m
  where
    by_test : (signs : List Sign) (p at d : ℕ) (rest : List Sign) (c : ℕ) (w : List ℕ) (k : Place) → Given d ∷ rest ≡ drop at signs
        → (b : Bool) → (d == c) ≡ b → In k (moves_from p at (Given d ∷ rest) c) → Matches (drop k.at signs) w → Matches (Given d ∷ rest) (c ∷ w)
    by_test signs p at d rest c w k e true test h m = elim (rw test at h) [
      | inl s ↦
          let here : at + 1 ≡ k.at = ap (λ (j : Place). j.at) s in
          let left : rest ≡ drop k.at signs = tail_drop at signs (Given d) rest e ∙ ap (λ n. drop n signs) here in
          subst (λ x. Matches (Given d ∷ rest) (x ∷ w)) (eqb-true d c test) (given_on d rest w (subst (λ (s : List Sign). Matches s w) (sym left) m))
      | inr none ↦ absurd none
    ]
    by_test signs p at d rest c w k e false test h m = absurd (rw test at h)
moves_match signs p at (One ∷ rest) c w k e (inl s) m =
    let here : at + 1 ≡ k.at = ap (λ (j : Place). j.at) s in
    let left : rest ≡ drop k.at signs = tail_drop at signs One rest e ∙ ap (λ n. drop n signs) here in
    one_on rest c w (subst (λ (s : List Sign). Matches s w) (sym left) m)
moves_match signs p at (One ∷ rest) c w k e (inr none) m = absurd none
moves_match signs p at (Any ∷ rest) c w k e (inl s) m =
    let here : at ≡ k.at = ap (λ (j : Place). j.at) s in
    let left : Any ∷ rest ≡ drop k.at signs = e ∙ ap (λ n. drop n signs) here in
    any_more rest c w (subst (λ (s : List Sign). Matches s w) (sym left) m)
moves_match signs p at (Any ∷ rest) c w k e (inr h) m =
    any_skip rest (c ∷ w) (moves_match signs p (at + 1) rest c w k (tail_drop at signs Any rest e) h m)

-- the same of a place among the patterns
pub place_moves : (patterns : List Pattern) (c : ℕ) (w : List ℕ) (k : Place) → Matches (rest_at patterns k) (c ∷ w)
    → (j : Place) × In j (moves_of patterns c k) × Matches (rest_at patterns j) w
place_moves patterns c w k m = by_pattern patterns c w k (slice_get patterns k.pattern) refl m
  where
    by_pattern : (patterns : List Pattern) (c : ℕ) (w : List ℕ) (k : Place) (o : Option Pattern) → slice_get patterns k.pattern ≡ o
        → Matches (rest_at patterns k) (c ∷ w) → (j : Place) × In j (moves_of patterns c k) × Matches (rest_at patterns j) w
    by_pattern patterns c w k None e m =
        let r : Matches [] (c ∷ w) = subst (λ (o : Option Pattern). Matches (option_map_or (λ p. drop k.at p.signs) o []) (c ∷ w)) e m in
        absurd (nothing_left c w r)
    by_pattern patterns c w k (Some pat) e m =
        let at_k : rest_at patterns k ≡ drop k.at pat.signs = ap (λ (o : Option Pattern). option_map_or (λ p. drop k.at p.signs) o []) e in
        let r = match_moves pat.signs k.pattern k.at (rest_at patterns k) c w at_k m in
        let own = moves_own k.pattern k.at (rest_at patterns k) c r.0 r.1 in
        let there : rest_at patterns r.0 ≡ drop r.0.at pat.signs =
        ap (λ n. option_map_or (λ p. drop r.0.at p.signs) (slice_get patterns n) []) own ∙ ap (λ (o : Option Pattern). option_map_or (λ p. drop r.0.at p.signs) o []) e in
        (r.0, r.1, subst (λ (s : List Sign). Matches s w) (sym there) r.2)

pub moves_place : (patterns : List Pattern) (c : ℕ) (w : List ℕ) (k j : Place) → In j (moves_of patterns c k) → Matches (rest_at patterns j) w
    → Matches (rest_at patterns k) (c ∷ w)
moves_place patterns c w k j h m = by_pattern patterns c w k j (slice_get patterns k.pattern) refl h m
  where
    by_pattern : (patterns : List Pattern) (c : ℕ) (w : List ℕ) (k j : Place) (o : Option Pattern) → slice_get patterns k.pattern ≡ o
        → In j (moves_of patterns c k) → Matches (rest_at patterns j) w → Matches (rest_at patterns k) (c ∷ w)
    by_pattern patterns c w k j None e h m =
        absurd (subst (λ (o : Option Pattern). In j (moves_from k.pattern k.at (option_map_or (λ p. drop k.at p.signs) o []) c)) e h)
    by_pattern patterns c w k j (Some pat) e h m =
        let at_k : rest_at patterns k ≡ drop k.at pat.signs = ap (λ (o : Option Pattern). option_map_or (λ p. drop k.at p.signs) o []) e in
        let own = moves_own k.pattern k.at (rest_at patterns k) c j h in
        let there : rest_at patterns j ≡ drop j.at pat.signs =
        ap (λ n. option_map_or (λ p. drop j.at p.signs) (slice_get patterns n) []) own ∙ ap (λ (o : Option Pattern). option_map_or (λ p. drop j.at p.signs) o []) e in
        moves_match pat.signs k.pattern k.at (rest_at patterns k) c w j at_k h (subst (λ (s : List Sign). Matches s w) there m)

pub group_own : (patterns : List Pattern) (j k : Place) → j.pattern ≡ k.pattern → group_at patterns j ≡ group_at patterns k
group_own patterns j k e = ap (λ n. option_map_or (λ p. p.group) (slice_get patterns n) 0) e

-- ---- places together
pub leads_same : (patterns : List Pattern) (xs ys : List Place) (g : ℕ) (w : List ℕ) → SameElements xs ys → Leads patterns xs g w → Leads patterns ys g w
leads_same patterns xs ys g w same (k, h, own, m) = (k, (same k).0 h, own, m)

pub leads_moved : (patterns : List Pattern) (places : List Place) (c g : ℕ) (w : List ℕ)
    → Leads patterns places g (c ∷ w) → Leads patterns (flat_map (moves_of patterns c) places) g w
leads_moved patterns places c g w (k, h, own, m) =
    let r = place_moves patterns c w k m in (
      r.0,
      of_in _ r.0 (in_flat (moves_of patterns c) places k r.0 (in_of places k h) r.1),
      group_own patterns r.0 k (moves_own k.pattern k.at (rest_at patterns k) c r.0 r.1) ∙ own,
      r.2,
    )

pub moved_leads : (patterns : List Pattern) (places : List Place) (c g : ℕ) (w : List ℕ)
    → Leads patterns (flat_map (moves_of patterns c) places) g w → Leads patterns places g (c ∷ w)
moved_leads patterns places c g w (j, h, own, m) =
    let r = from_flat (moves_of patterns c) places j (in_of _ j h) in (
      r.0,
      of_in places r.0 r.1,
      sym (group_own patterns j r.0 (moves_own r.0.pattern r.0.at (rest_at patterns r.0) c j r.2)) ∙ own,
      moves_place patterns c w r.0 j r.2 m,
    )

-- what leads on from a settled place leads on from the place itself, where its group has matched for good
pub last_any_is : (signs : List Sign) → is_last_any signs ≡ true → signs ≡ Any ∷ []
last_any_is [] e = absurd (cc)
last_any_is (Given d ∷ signs) e = absurd (cc)
last_any_is (One ∷ signs) e = absurd (cc)
last_any_is (Any ∷ []) e = refl
last_any_is (Any ∷ (sign ∷ signs)) e = absurd (cc)

pub settled_to : (patterns : List Pattern) (places : List Place) (k : Place) → is_good patterns places (group_at patterns k) ≡ true
    → settled_place patterns places k ≡ place_at (group_at patterns k) 0
settled_to patterns places k e = rw e refl

pub settled_stays : (patterns : List Pattern) (places : List Place) (k : Place) → is_good patterns places (group_at patterns k) ≡ false
    → settled_place patterns places k ≡ k
settled_stays patterns places k e = rw e refl

pub leads_settled : (patterns : List Pattern) (places : List Place) (g : ℕ) (w : List ℕ) → IsTable patterns → AreIn patterns places
    → Leads patterns places g w → Leads patterns (settled_places patterns places) g w
leads_settled patterns places g w table all (k, h, own, m) =
    by_test patterns places g w k (table k (of_all (λ (k : Place). k.pattern < length patterns) places all k (in_of places k h))) h own m
    (is_good patterns places (group_at patterns k)) refl
  where
    by_test : (patterns : List Pattern) (places : List Place) (g : ℕ) (w : List ℕ) (k : Place) → HasGoal patterns (group_at patterns k) → Contains places k
        → group_at patterns k ≡ g → Matches (rest_at patterns k) w → (b : Bool) → is_good patterns places (group_at patterns k) ≡ b
        → Leads patterns (settled_places patterns places) g w
    by_test patterns places g w k goal h own m true e =
        let to = settled_to patterns places k e in
        let there = in_map (settled_place patterns places) places k (in_of places k h) in (
          place_at (group_at patterns k) 0,
          of_in _ _ (subst (λ (j : Place). In j (settled_places patterns places)) to there),
          goal.own ∙ own,
          subst (λ (s : List Sign). Matches s w) (sym goal.good) (any_all w),
        )
    by_test patterns places g w k goal h own m false e =
        let to = settled_stays patterns places k e in
        let there = in_map (settled_place patterns places) places k (in_of places k h) in
        (k, of_in _ _ (subst (λ (j : Place). In j (settled_places patterns places)) to there), own, m)

pub settled_leads : (patterns : List Pattern) (places : List Place) (g : ℕ) (w : List ℕ) → IsTable patterns → AreIn patterns places
    → Leads patterns (settled_places patterns places) g w → Leads patterns places g w
settled_leads patterns places g w table all (j, h, own, m) =
    let r = from_map (settled_place patterns places) places j (in_of _ j h) in
    by_test patterns places g w j r.0 (table r.0 (of_all (λ (k : Place). k.pattern < length patterns) places all r.0 r.1)) r.1 r.2 own m
    (is_good patterns places (group_at patterns r.0)) refl
  where
    by_test : (patterns : List Pattern) (places : List Place) (g : ℕ) (w : List ℕ) (j k : Place) → HasGoal patterns (group_at patterns k) → In k places
        → settled_place patterns places k ≡ j → group_at patterns j ≡ g → Matches (rest_at patterns j) w
        → (b : Bool) → is_good patterns places (group_at patterns k) ≡ b → Leads patterns places g w
    by_test patterns places g w j k goal h s own m true e =
        let good = from_any (λ k'. is_last_any (rest_at patterns k') && (group_at patterns k' == group_at patterns k)) places e in
        let parts = both (is_last_any (rest_at patterns good.0)) (group_at patterns good.0 == group_at patterns k) good.2 in
        let to : place_at (group_at patterns k) 0 ≡ j = sym (settled_to patterns places k e) ∙ s in (
          good.0,
          of_in places good.0 good.1,
          eqb-true (group_at patterns good.0) (group_at patterns k) parts.1 ∙ sym goal.own ∙ ap (group_at patterns) to ∙ own,
          subst (λ (s : List Sign). Matches s w) (sym (last_any_is (rest_at patterns good.0) parts.0)) (any_all w),
        )
    by_test patterns places g w j k goal h s own m false e =
        let to : k ≡ j = sym (settled_stays patterns places k e) ∙ s in
        (j, of_in places j (subst (λ (j : Place). In j places) to h), own, m)

-- the places behind one more character
pub leads_stepped : (patterns : List Pattern) (places : List Place) (c g : ℕ) (w : List ℕ) → IsTable patterns → AreIn patterns places
    → Leads patterns places g (c ∷ w) ↔ Leads patterns (stepped patterns places c) g w
leads_stepped patterns places c g w table all =
    let moved = moves_in patterns places c all in (
      λ l. leads_settled patterns (flat_map (moves_of patterns c) places) g w table moved (leads_moved patterns places c g w l),
      λ l. moved_leads patterns places c g w (settled_leads patterns (flat_map (moves_of patterns c) places) g w table moved l),
    )

-- settled places are places of patterns
pub settled_in : (patterns : List Pattern) (places : List Place) → IsTable patterns → AreIn patterns places → AreIn patterns (settled_places patterns places)
settled_in patterns places table all =
    all_of (λ (k : Place). k.pattern < length patterns) (settled_places patterns places) (λ j h.
    let r = from_map (settled_place patterns places) places j h in
    let within = of_all (λ (k : Place). k.pattern < length patterns) places all r.0 r.1 in
    subst (λ (k : Place). k.pattern < length patterns) r.2 (by_test patterns places r.0 within (table r.0 within) (is_good patterns places (group_at patterns r.0)) refl))
  where
    by_test : (patterns : List Pattern) (places : List Place) (k : Place) → k.pattern < length patterns → HasGoal patterns (group_at patterns k)
        → (b : Bool) → is_good patterns places (group_at patterns k) ≡ b → (settled_place patterns places k).pattern < length patterns
    by_test patterns places k within goal true e =
        subst (λ (k : Place). k.pattern < length patterns) (sym (settled_to patterns places k e)) goal.within
    by_test patterns places k within goal false e =
        subst (λ (k : Place). k.pattern < length patterns) (sym (settled_stays patterns places k e)) within

pub in_same : (patterns : List Pattern) (xs ys : List Place) → SameElements xs ys → AreIn patterns ys → AreIn patterns xs
in_same patterns xs ys same all =
    all_of (λ (k : Place). k.pattern < length patterns) xs (λ k h.
    of_all (λ (k : Place). k.pattern < length patterns) ys all k (in_of ys k ((same k).0 (of_in xs k h))))
