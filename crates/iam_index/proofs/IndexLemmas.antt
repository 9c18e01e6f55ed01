-- Candidates of statements that stand one behind the other, and of candidates.
use Rattle.std.proofs.Common.{◌≡◌, ◌+◌, ◌<◌, inl, inr, ℕ, zero, suc, List, [], ◌∷◌, ◌++◌, All, get_or, length, map, take, refl, sym, ap, ◌∙◌, subst, append_assoc, arith}
use Rattle.std.proofs.lemmas.List.{append-nil, map-append, take_more}
use Rattle.std.proofs.lemmas.List.Elements.{All-contains}
use Rattle.std.specs.List.{Contains}
use Rattle.std.specs.Option.{option_to_list}
use Rattle.iam_match.specs.Statement.{AccessValue, ActionMatches}
use Rattle.iam_world.specs.World.{WorldValue}
use Rattle.iam_layers.specs.Cell.{IsAccessAt, IsApplicableAt}
use Rattle.iam_decision.specs.Applicable.{ApplicableValue}
use Rattle.iam_decision.specs.Code.Scan.{org_placed, placed_value, requester_placed, resource_placed}
use Rattle.iam_decision.specs.Living.{AreCandidates, IsIdle}
use Rattle.iam_decision.specs.Matched.{Placed, in_layer, in_level, placed}
use Rattle.iam_decision.specs.declared.place.Layer.TheVariants.{Org, Control, Resource}
use Rattle.iam_decision.specs.declared.scan.Standing.{Standing}
use Rattle.iam_index.specs.Index.{AllAct}

pub candidates_append : (actions : List (List ℕ)) (xs ys chosen others : List Placed) → AreCandidates actions xs chosen → AreCandidates actions ys others
    → AreCandidates actions (xs ++ ys) (chosen ++ others)
candidates_append actions [] ys chosen others are there =
    let P : List Placed → Type 0 = λ z. AreCandidates actions ys (z ++ others) in subst P (sym are) there
candidates_append actions (x ∷ xs) ys chosen others (inl (rest, is, are)) there =
    inl (rest ++ others, ap (λ z. z ++ others) is, candidates_append actions xs ys rest others are there)
candidates_append actions (x ∷ xs) ys chosen others (inr (idle, are)) there = inr (idle, candidates_append actions xs ys chosen others are there)

-- one more statement, which is chosen, or is idle
pub candidates_more : (actions : List (List ℕ)) (before chosen : List Placed) (s : Placed) → AreCandidates actions before chosen
    → AreCandidates actions (before ++ (s ∷ [])) (chosen ++ (s ∷ []))
candidates_more actions before chosen s are = candidates_append actions before (s ∷ []) chosen (s ∷ []) are (inl ([], refl, refl))

pub candidates_skip : (actions : List (List ℕ)) (before chosen : List Placed) (s : Placed) → IsIdle actions s → AreCandidates actions before chosen
    → AreCandidates actions (before ++ (s ∷ [])) chosen
candidates_skip actions before chosen s idle are =
    let P : List Placed → Type 0 = λ z. AreCandidates actions (before ++ (s ∷ [])) z in
    subst P (append-nil chosen) (candidates_append actions before (s ∷ []) chosen [] are (inr (idle, refl)))

pub all_one : {X : Type 0} (P : X → Type 0) (x : X) → P x → All P (x ∷ [])
all_one P x is zero d below = is
all_one P x is (suc k) d below = absurd (omega (arith, below))

-- none of no statements fails to act
pub nothing_acts : (action : List ℕ) (statements : List Standing) → statements ≡ [] → AllAct action statements
nothing_acts action statements none =
    let P : List Standing → Type 0 = AllAct action in subst P (sym none) (λ k d below. absurd (omega (arith, below)))

-- what is idle for all actions is for one of them
idle_alone : (actions : List (List ℕ)) (action : List ℕ) (s : Placed) → Contains actions action → IsIdle actions s → IsIdle (action ∷ []) s
idle_alone actions action s asked idle =
    let P : List ℕ → Type 0 = λ a. ¬ ActionMatches s.statement.action a in all_one P action (All-contains P actions action idle asked)

-- candidates for one of the actions among the candidates for all
pub candidates_less : (actions : List (List ℕ)) (action : List ℕ) → Contains actions action → (statements candidates fewer : List Placed)
    → AreCandidates actions statements candidates → AreCandidates (action ∷ []) candidates fewer → AreCandidates (action ∷ []) statements fewer
candidates_less actions action asked [] candidates fewer are less =
    let P : List Placed → Type 0 = λ z. AreCandidates (action ∷ []) z fewer in subst P are less
candidates_less actions action asked (s ∷ statements) candidates fewer (inl (rest, is, are)) less =
    let P : List Placed → Type 0 = λ z. AreCandidates (action ∷ []) z fewer in
    elim (subst P is less) [
      | inl (more, more_is, later) ↦ inl (more, more_is, candidates_less actions action asked statements rest more are later)
      | inr (idle, later) ↦ inr (idle, candidates_less actions action asked statements rest fewer are later)
    ]
candidates_less actions action asked (s ∷ statements) candidates fewer (inr (idle, are)) less =
    inr (idle_alone actions action s asked idle, candidates_less actions action asked statements candidates fewer are less)

-- the statements that apply, by whom their policies are had
pub placed_parts : (a : ApplicableValue) → placed a ≡ org_placed a ++ (resource_placed a ++ requester_placed a)
placed_parts a =
    ap (λ z. in_layer Org a.org ++ z)
    (sym (append_assoc (in_layer Control a.control) (in_level Resource 0 (option_to_list a.resource)) (requester_placed a)))

-- the candidates of the parts are those of all
pub parts_listed : (actions : List (List ℕ)) (a : ApplicableValue) (org resource requester : List Placed) → AreCandidates actions (org_placed a) org
    → AreCandidates actions (resource_placed a) resource → AreCandidates actions (requester_placed a) requester
    → AreCandidates actions (placed a) (org ++ (resource ++ requester))
parts_listed actions a org resource requester one two three =
    let P : List Placed → Type 0 = λ z. AreCandidates actions z (org ++ (resource ++ requester)) in
    subst P (sym (placed_parts a))
    (
    candidates_append actions (org_placed a) (resource_placed a ++ requester_placed a) org (resource ++ requester) one
    (candidates_append actions (resource_placed a) (requester_placed a) resource requester two three)
    )

-- one more of the statements behind those before them
pub one_behind : (before : List Placed) (statements : List Standing) (i : ℕ) (x : Standing) → i < length statements → x ≡ get_or statements i x
    → (before ++ map placed_value (take i statements)) ++ (placed_value x ∷ []) ≡ before ++ map placed_value (take (i + 1) statements)
one_behind before statements i x below is =
    append_assoc before (map placed_value (take i statements)) (placed_value x ∷ [])
    ∙ ap (λ z. before ++ z) (sym (map-append placed_value (take i statements) (x ∷ [])))
    ∙ ap (λ z. before ++ map placed_value z)
    (ap (λ (y : Standing). take i statements ++ (y ∷ [])) is ∙ sym (take_more statements i x below))

pub places_map : (statements : List Standing) → map (λ (s : Placed). s.place) (map placed_value statements) ≡ map (λ (s : Standing). s.place) statements
places_map [] = refl
places_map (s ∷ statements) = ap (λ z. s.place ∷ z) (places_map statements)

-- policies apply to the requests of an access
pub access_applies : (world : WorldValue) (p r : ℕ) (a : ApplicableValue) (access : AccessValue) → IsAccessAt world p r a access → IsApplicableAt world p r a
access_applies world p r a access at = (at.principal, at.principal_is, (at.resource, at.resource_is, at.applicable_is))
