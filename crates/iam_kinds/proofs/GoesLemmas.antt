-- Places from which a character leads on, and the places behind it.
use Rattle.std.proofs.Common.{◌≡◌, inl, ℕ, ◌<◌, ◌+◌, Bool, true, false, ◌==◌, ◌&&◌, List, [], ◌∷◌, length, refl, sym, ap, ◌∙◌}
use Rattle.std.specs.List.{flat_map}
use Rattle.std.proofs.lemmas.Bool.{eqb-true, eq-eqb}
use Rattle.iam_glob.specs.declared.sign.Sign.{Sign}
use Rattle.iam_glob.specs.declared.sign.Sign.TheVariants.{Given, One, Any}
use Rattle.iam_kinds.specs.Code.{AreIn, HasGoal, IsTable, SameElements, goes_on, group_at, group_goes_on, has_group, is_good, moves_from, moves_of, place_at, rest_at, settled_place, stepped}
use Rattle.iam_kinds.specs.declared.table.Pattern.{Pattern}
use Rattle.iam_kinds.specs.declared.table.Place.{Place}
use Rattle.iam_kinds.proofs.MatchLemmas.{settled_stays, settled_to}
use Rattle.iam_kinds.proofs.Members.{In, from_any, from_flat, from_map, in_any, in_flat, in_map, in_of, of_all, of_in}
use Rattle.iam_kinds.proofs.PlaceLemmas.{both}
use Rattle.iam_kinds.proofs.ReachLemmas.{moves_group}
use Rattle.iam_kinds.proofs.StepLemmas.{moves_in}

-- a character leads on from a place just where it leads to some place
some_move : (p at : ℕ) (signs : List Sign) (c : ℕ) → goes_on signs c ≡ true → (k : Place) × In k (moves_from p at signs c)
some_move p at [] c e = absurd (cc)
some_move p at (Given d ∷ signs) c e = (place_at p (at + 1), rw e (inl refl))
some_move p at (One ∷ signs) c e = (place_at p (at + 1), inl refl)
some_move p at (Any ∷ signs) c e = (place_at p at, inl refl)

move_goes : (p at : ℕ) (signs : List Sign) (c : ℕ) (k : Place) → In k (moves_from p at signs c) → goes_on signs c ≡ true
move_goes p at [] c k h = absurd h
move_goes p at (Given d ∷ signs) c k h = by_test p at c d k (d == c) refl h
  where
    by_test : (p at c d : ℕ) (k : Place) (b : Bool) → (d == c) ≡ b → In k (moves_from p at (Given d ∷ []) c) → (d == c) ≡ true
    by_test p at c d k true e h = e
    by_test p at c d k false e h = absurd (rw e at h)
move_goes p at (One ∷ signs) c k h = refl
move_goes p at (Any ∷ signs) c k h = refl

-- a place and what it becomes are of one group
settled_group : (patterns : List Pattern) (places : List Place) (k : Place) → IsTable patterns → k.pattern < length patterns
    → group_at patterns (settled_place patterns places k) ≡ group_at patterns k
settled_group patterns places k table within = by_test patterns places k (table k within) (is_good patterns places (group_at patterns k)) refl
  where
    by_test : (patterns : List Pattern) (places : List Place) (k : Place) → HasGoal patterns (group_at patterns k)
        → (b : Bool) → is_good patterns places (group_at patterns k) ≡ b
        → group_at patterns (settled_place patterns places k) ≡ group_at patterns k
    by_test patterns places k goal true e = ap (group_at patterns) (settled_to patterns places k e) ∙ goal.own
    by_test patterns places k goal false e = ap (group_at patterns) (settled_stays patterns places k e)

-- where a character leads on from a place of a group, the group has a place behind it
pub goes_has : (patterns : List Pattern) (places : List Place) (c g : ℕ) → IsTable patterns → AreIn patterns places
    → group_goes_on patterns places c g ≡ true → has_group patterns (stepped patterns places c) g ≡ true
goes_has patterns places c g table all e =
    let moved = flat_map (moves_of patterns c) places in
    let r = from_any (λ k. (group_at patterns k == g) && goes_on (rest_at patterns k) c) places e in
    let b = both (group_at patterns r.0 == g) (goes_on (rest_at patterns r.0) c) r.2 in
    let m = some_move r.0.pattern r.0.at (rest_at patterns r.0) c b.1 in
    let there = in_flat (moves_of patterns c) places r.0 m.0 r.1 m.1 in
    let within = of_all (λ (k : Place). k.pattern < length patterns) moved (moves_in patterns places c all) m.0 there in
    in_any (λ k. group_at patterns k == g) (stepped patterns places c) (settled_place patterns moved m.0)
    (in_map (settled_place patterns moved) moved m.0 there)
    (eq-eqb (group_at patterns (settled_place patterns moved m.0)) g
    (settled_group patterns moved m.0 table within ∙ moves_group patterns c r.0 m.0 m.1 ∙ eqb-true (group_at patterns r.0) g b.0))

-- and where the group has one, it does
pub has_goes : (patterns : List Pattern) (places : List Place) (c g : ℕ) → IsTable patterns → AreIn patterns places
    → has_group patterns (stepped patterns places c) g ≡ true → group_goes_on patterns places c g ≡ true
has_goes patterns places c g table all e =
    let moved = flat_map (moves_of patterns c) places in
    let r = from_any (λ k. group_at patterns k == g) (stepped patterns places c) e in
    let m = from_map (settled_place patterns moved) moved r.0 r.1 in
    let k = from_flat (moves_of patterns c) places m.0 m.1 in
    let within = of_all (λ (k : Place). k.pattern < length patterns) moved (moves_in patterns places c all) m.0 m.1 in
    let own : group_at patterns k.0 ≡ g =
    sym (moves_group patterns c k.0 m.0 k.2) ∙ sym (settled_group patterns moved m.0 table within) ∙ ap (group_at patterns) m.2
    ∙ eqb-true (group_at patterns r.0) g r.2 in
    let same : (group_at patterns k.0 == g) ≡ true = eq-eqb (group_at patterns k.0) g own in
    let on = move_goes k.0.pattern k.0.at (rest_at patterns k.0) c m.0 k.2 in
    in_any (λ k. (group_at patterns k == g) && goes_on (rest_at patterns k) c) places k.0 k.1 (rw (same, on) refl)

pub has_same : (patterns : List Pattern) (xs ys : List Place) (g : ℕ) → SameElements xs ys → has_group patterns ys g ≡ true
    → has_group patterns xs g ≡ true
has_same patterns xs ys g same e =
    let r = from_any (λ k. group_at patterns k == g) ys e in
    in_any (λ k. group_at patterns k == g) xs r.0 (in_of xs r.0 ((same r.0).1 (of_in ys r.0 r.1))) r.2
