-- The places of the state behind a text, and behind one more character.
use Rattle.std.proofs.Common.{◌≡◌, ◌↔◌, ◌⊎◌, inl, inr, ℕ, ◌<◌, ◌≤◌, ◌+◌, ◌-◌, Bool, true, false, ◌==◌, ◌&&◌, List, [], ◌∷◌, ◌++◌, length, refl, sym, ap, ◌∙◌, subst, arith}
use Rattle.std.specs.List.{Contains, flat_map}
use Rattle.std.proofs.lemmas.Bool.{eqb-true, eq-eqb}
use Rattle.iam_glob.specs.declared.sign.Sign.{Sign}
use Rattle.iam_kinds.specs.Code.{AreIn, HasGoal, IsTable, group_at, is_good, is_last_any, moves_from, moves_of, place_at, rest_at, settled_place, settled_places, starts_from, stepped}
use Rattle.iam_kinds.specs.States.{IsGood, IsPlace, IsReached, LeadsTo, Machine}
use Rattle.iam_kinds.specs.declared.table.Pattern.{Pattern}
use Rattle.iam_kinds.specs.declared.table.Place.{Place}
use Rattle.iam_kinds.proofs.MatchLemmas.{group_own, last_any_is, settled_stays, settled_to}
use Rattle.iam_kinds.proofs.Members.{In, from_any, from_flat, from_map, in_any, in_flat, in_map, in_of, of_in}
use Rattle.iam_kinds.proofs.PlaceLemmas.{both}
use Rattle.iam_kinds.proofs.StepLemmas.{from_starts, in_starts, moves_in, moves_own, starts_in}

-- ---- a text leads to places
pub leads_more : (patterns : List Pattern) (k : Place) (text : List ℕ) (c : ℕ) (i j : Place) → LeadsTo patterns k text i → Contains (moves_of patterns c i) j
    → LeadsTo patterns k (text ++ (c ∷ [])) j
leads_more patterns k [] c i j e h = (j, subst (λ p. Contains (moves_of patterns c p) j) (sym e) h, refl)
leads_more patterns k (d ∷ text) c i j (m, g, l) h = (m, g, leads_more patterns m text c i j l h)

pub leads_back : (patterns : List Pattern) (k : Place) (text : List ℕ) (c : ℕ) (j : Place) → LeadsTo patterns k (text ++ (c ∷ [])) j
    → (i : Place) × LeadsTo patterns k text i × Contains (moves_of patterns c i) j
leads_back patterns k [] c j (m, g, e) = (k, refl, subst (λ p. Contains (moves_of patterns c k) p) e g)
leads_back patterns k (d ∷ text) c j (m, g, l) = let r = leads_back patterns m text c j l in (r.0, (m, g, r.1), r.2)

pub reached_more : (machine : Machine) (text : List ℕ) (c : ℕ) (i j : Place) → IsReached machine text i → In j (moves_of machine.patterns c i)
    → IsReached machine (text ++ (c ∷ [])) j
reached_more machine text c i j (p, low, high, l) h =
    (p, low, high, leads_more machine.patterns (place_at p 0) text c i j l (of_in (moves_of machine.patterns c i) j h))

pub reached_back : (machine : Machine) (text : List ℕ) (c : ℕ) (j : Place) → IsReached machine (text ++ (c ∷ [])) j
    → (i : Place) × IsReached machine text i × In j (moves_of machine.patterns c i)
reached_back machine text c j (p, low, high, l) =
    let r = leads_back machine.patterns (place_at p 0) text c j l in (r.0, (p, low, high, r.1), in_of (moves_of machine.patterns c r.0) j r.2)

-- a place that is reached is one of a pattern
pub leads_own : (patterns : List Pattern) (k : Place) (text : List ℕ) (j : Place) → LeadsTo patterns k text j → j.pattern ≡ k.pattern
leads_own patterns k [] j e = sym (ap (λ (p : Place). p.pattern) e)
leads_own patterns k (c ∷ text) j (i, h, l) =
    leads_own patterns i text j l ∙ moves_own k.pattern k.at (rest_at patterns k) c i (in_of (moves_of patterns c k) i h)

pub reached_in : (machine : Machine) (text : List ℕ) (k : Place) → IsReached machine text k → k.pattern < length machine.patterns
reached_in machine text k (p, low, high, l) =
    subst (λ n. n < length machine.patterns) (sym (leads_own machine.patterns (place_at p 0) text k l)) high

pub moves_group : (patterns : List Pattern) (c : ℕ) (i j : Place) → In j (moves_of patterns c i) → group_at patterns j ≡ group_at patterns i
moves_group patterns c i j h = group_own patterns j i (moves_own i.pattern i.at (rest_at patterns i) c j h)

-- a place with nothing but the last `Any` leads to itself
pub stays : (patterns : List Pattern) (c : ℕ) (k : Place) → is_last_any (rest_at patterns k) ≡ true → In k (moves_of patterns c k)
stays patterns c k last =
    subst (λ (s : List Sign). In k (moves_from k.pattern k.at s c)) (sym (last_any_is (rest_at patterns k) last)) (inl refl)

pub good_more : (machine : Machine) (text : List ℕ) (c g : ℕ) → IsGood machine text g → IsGood machine (text ++ (c ∷ [])) g
good_more machine text c g (k, reached, own, last) =
    (k, reached_more machine text c k k reached (stays machine.patterns c k last), own, last)

-- ---- where groups have matched for good
pub good_here : (patterns : List Pattern) (places : List Place) (k : Place) (g : ℕ) → In k places → group_at patterns k ≡ g
    → is_last_any (rest_at patterns k) ≡ true → is_good patterns places g ≡ true
good_here patterns places k g h own last =
    let same : (group_at patterns k == g) ≡ true = eq-eqb (group_at patterns k) g own in
    in_any (λ k. is_last_any (rest_at patterns k) && (group_at patterns k == g)) places k h (rw (last, same) refl)

pub here_good : (patterns : List Pattern) (places : List Place) (g : ℕ) → is_good patterns places g ≡ true
    → (k : Place) × In k places × (group_at patterns k ≡ g) × (is_last_any (rest_at patterns k) ≡ true)
here_good patterns places g e =
    let r = from_any (λ k. is_last_any (rest_at patterns k) && (group_at patterns k == g)) places e in
    let b = both (is_last_any (rest_at patterns r.0)) (group_at patterns r.0 == g) r.2 in
    (r.0, r.1, eqb-true (group_at patterns r.0) g b.1, b.0)

pub last_goal : (patterns : List Pattern) (g : ℕ) → HasGoal patterns g → is_last_any (rest_at patterns (place_at g 0)) ≡ true
last_goal patterns g goal = ap is_last_any goal.good

pub good_goal : (machine : Machine) (text : List ℕ) (g : ℕ) → IsTable machine.patterns → IsGood machine text g → HasGoal machine.patterns g
good_goal machine text g table (k, reached, own, last) = subst (HasGoal machine.patterns) own (table k (reached_in machine text k reached))

pub good_place : (machine : Machine) (text : List ℕ) (g : ℕ) → IsTable machine.patterns → IsGood machine text g → IsPlace machine text (place_at g 0)
good_place machine text g table good =
    let own = (good_goal machine text g table good).own in
    inr (subst (IsGood machine text) (sym own) good, sym (ap (λ n. place_at n 0) own))

-- a list has just the places of the state
abbrev pub AreExactly : Machine → List ℕ → List Place → Type 0
AreExactly machine text places = (k : Place) → Contains places k ↔ IsPlace machine text k

-- places that were settled
pub settled_exactly : (machine : Machine) (text : List ℕ) (moved : List Place) → IsTable machine.patterns → AreIn machine.patterns moved
    → ((m : Place) → In m moved → IsReached machine text m ⊎ IsGood machine text (group_at machine.patterns m))
    → ((k : Place) → IsReached machine text k → ¬ IsGood machine text (group_at machine.patterns k) → In k moved)
    → ((g : ℕ) → is_good machine.patterns moved g ≡ true ↔ IsGood machine text g) → AreExactly machine text (settled_places machine.patterns moved)
settled_exactly machine text moved table within from to good = λ k. (
  λ h.
      let r = from_map (settled_place machine.patterns moved) moved k (in_of _ k h) in
      subst (IsPlace machine text) r.2 (is_place machine text moved table from good r.0 r.1 (is_good machine.patterns moved (group_at machine.patterns r.0)) refl),
  λ p. of_in _ k (elim p [
    | inl r ↦
        subst (λ j. In j (settled_places machine.patterns moved))
        (settled_stays machine.patterns moved k (is_false _ (λ e. r.1 ((good (group_at machine.patterns k)).0 e))))
        (in_map (settled_place machine.patterns moved) moved k (to k r.0 r.1))
    | inr r ↦
        let e = (good (group_at machine.patterns k)).1 r.0 in
        let m = here_good machine.patterns moved (group_at machine.patterns k) e in
        let at : settled_place machine.patterns moved m.0 ≡ place_at (group_at machine.patterns m.0) 0 =
        settled_to machine.patterns moved m.0 (ap (is_good machine.patterns moved) m.2 ∙ e) in
        subst (λ j. In j (settled_places machine.patterns moved)) (at ∙ ap (λ n. place_at n 0) m.2 ∙ sym r.1)
        (in_map (settled_place machine.patterns moved) moved m.0 m.1)
  ]),
)
  where
    is_false : (b : Bool) → (b ≡ true → ⊥) → b ≡ false
    is_false true never = absurd (never refl)
    is_false false never = refl

    is_place : (machine : Machine) (text : List ℕ) (moved : List Place) → IsTable machine.patterns
        → ((m : Place) → In m moved → IsReached machine text m ⊎ IsGood machine text (group_at machine.patterns m))
        → ((g : ℕ) → is_good machine.patterns moved g ≡ true ↔ IsGood machine text g) → (m : Place) → In m moved
        → (b : Bool) → is_good machine.patterns moved (group_at machine.patterns m) ≡ b → IsPlace machine text (settled_place machine.patterns moved m)
    is_place machine text moved table from good m h true e =
        subst (IsPlace machine text) (sym (settled_to machine.patterns moved m e))
        (good_place machine text (group_at machine.patterns m) table ((good (group_at machine.patterns m)).0 e))
    is_place machine text moved table from good m h false e =
        let never : ¬ IsGood machine text (group_at machine.patterns m) =
        λ g. let right = (good (group_at machine.patterns m)).1 g in let wrong : true ≡ false = sym right ∙ e in absurd (cc) in
        subst (IsPlace machine text) (sym (settled_stays machine.patterns moved m e)) (elim (from m h) [
          | inl r ↦ inl (r, never)
          | inr g ↦ absurd (never g)
        ])

-- ---- the empty text
pub starts_exactly : (machine : Machine) → IsTable machine.patterns → machine.count ≤ length machine.patterns
    → AreExactly machine [] (settled_places machine.patterns (starts_from machine.count (length machine.patterns - machine.count)))
starts_exactly machine table fits =
    let t = machine.patterns in
    let many = length t - machine.count in
    let starts = starts_from machine.count many in
    let whole : machine.count + many ≡ length t = omega (arith, fits) in
    let reached : (k : Place) → In k starts → IsReached machine [] k =
    λ k h.
    let r = from_starts machine.count many k h in
    let below : k.pattern < machine.count + many = r.1 in
    (k.pattern, r.0, omega (arith, below, whole), sym r.2) in
    let begins : (k : Place) → IsReached machine [] k → In k starts =
    λ k r.
    let low : machine.count ≤ r.0 = r.1 in
    let high : r.0 < length t = r.2 in
    subst (λ j. In j starts) r.3 (in_starts machine.count many r.0 low (omega (arith, high, whole))) in
    settled_exactly machine [] starts table (starts_in t machine.count many (omega (arith, whole))) (λ m h. inl (reached m h)) (λ k r never. begins k r)
    (λ g. (
      λ e. let k = here_good t starts g e in (k.0, reached k.0 k.1, k.2, k.3),
      λ good. good_here t starts good.0 g (begins good.0 good.1) good.2 good.3,
    ))

-- ---- one character more
pub stepped_exactly : (machine : Machine) (text : List ℕ) (places : List Place) (c : ℕ) → IsTable machine.patterns → AreIn machine.patterns places
    → AreExactly machine text places → AreExactly machine (text ++ (c ∷ [])) (stepped machine.patterns places c)
stepped_exactly machine text places c table within exact =
    let t = machine.patterns in
    let longer = text ++ (c ∷ []) in
    let moved = flat_map (moves_of t c) places in
    let from : (m : Place) → In m moved → IsReached machine longer m ⊎ IsGood machine longer (group_at t m) =
    λ m h.
    let r = from_flat (moves_of t c) places m h in
    elim ((exact r.0).0 (of_in places r.0 r.1)) [
      | inl p ↦ inl (reached_more machine text c r.0 m p.0 r.2)
      | inr p ↦ inr (good_more machine text c (group_at t m) (subst (IsGood machine text) (sym (moves_group t c r.0 m r.2)) p.0))
    ] in
    let to : (k : Place) → IsReached machine longer k → ¬ IsGood machine text (group_at t k) → In k moved =
    λ k r never.
    let b = reached_back machine text c k r in
    let own = moves_group t c b.0 k b.2 in
    in_flat (moves_of t c) places b.0 k
    (in_of places b.0 ((exact b.0).1 (inl (b.1, λ good. never (subst (IsGood machine text) (sym own) good))))) b.2 in
    settled_exactly machine longer moved table (moves_in t places c within) from
    (λ k r never. to k r (λ good. never (good_more machine text c (group_at t k) good)))
    (λ g. (
      λ e.
          let m = here_good t moved g e in
          elim (from m.0 m.1) [
            | inl r ↦ (m.0, r, m.2, m.3)
            | inr good ↦ subst (IsGood machine longer) m.2 good
          ],
      λ good. still_good machine text places c g table exact to good (is_good t places g) refl,
    ))
  where
    still_good : (machine : Machine) (text : List ℕ) (places : List Place) (c g : ℕ) → IsTable machine.patterns → AreExactly machine text places
        → ((k : Place) → IsReached machine (text ++ (c ∷ [])) k → ¬ IsGood machine text (group_at machine.patterns k) → In k (flat_map (moves_of machine.patterns c) places))
        → IsGood machine (text ++ (c ∷ [])) g → (b : Bool) → is_good machine.patterns places g ≡ b
        → is_good machine.patterns (flat_map (moves_of machine.patterns c) places) g ≡ true
    still_good machine text places c g table exact to good true e =
        let k = here_good machine.patterns places g e in
        good_here machine.patterns _ k.0 g (in_flat (moves_of machine.patterns c) places k.0 k.0 k.1 (stays machine.patterns c k.0 k.3)) k.2 k.3
    still_good machine text places c g table exact to good false e =
        let never : ¬ IsGood machine text g =
        λ early.
        let goal = good_goal machine text g table early in
        let here = in_of places (place_at g 0) ((exact (place_at g 0)).1 (good_place machine text g table early)) in
        let right = good_here machine.patterns places (place_at g 0) g here goal.own (last_goal machine.patterns g goal) in
        let wrong : true ≡ false = sym right ∙ e in absurd (cc) in
        good_here machine.patterns _ good.0 g
        (to good.0 good.1 (λ early. never (subst (IsGood machine text) good.2 early))) good.2 good.3

-- where two lists are exactly the places of one state, what they lead to are the places of one state
pub places_on : (machine : Machine) (one other : List ℕ) (places : List Place) (c : ℕ) → IsTable machine.patterns → AreIn machine.patterns places
    → AreExactly machine one places → ((k : Place) → IsPlace machine other k ↔ IsPlace machine one k)
    → (k : Place) → IsPlace machine (other ++ (c ∷ [])) k ↔ IsPlace machine (one ++ (c ∷ [])) k
places_on machine one other places c table within exact same =
    let first = stepped_exactly machine one places c table within exact in
    let second = stepped_exactly machine other places c table within (λ k. (
      λ h. (same k).1 ((exact k).0 h),
      λ p. (exact k).1 ((same k).0 p),
    )) in
    λ k. (λ p. (first k).0 ((second k).1 p), λ p. (second k).0 ((first k).1 p))
