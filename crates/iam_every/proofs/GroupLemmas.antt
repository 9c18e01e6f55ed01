-- The groups of the statements that concern a request tell apart just what decisions do.
use Rattle.std.proofs.Common.{◌≡◌, inl, inr, ◌↔◌, ℕ, Bool, List, [], ◌∷◌, ◌++◌, Contains, chars, get_or, refl, sym, ap, ◌∙◌, subst, option_to_list, false, true}
use Rattle.std.specs.List.{enumerate_from}
use Rattle.std.proofs.lemmas.List.Elements.{All-contains, Contains-append_cases, Contains-append_left, Contains-append_right, Contains-get_or}
use Rattle.iam_glob.specs.declared.sign.Sign.{Sign}
use Rattle.iam_policy.specs.Reading.{PolicyValue, StatementValue}
use Rattle.iam_policy.specs.declared.effect.Effect.{Effect}
use Rattle.iam_policy.specs.declared.effect.Effect.TheVariants.{Allow, Deny}
use Rattle.iam_match.specs.Principal.{grant_of}
use Rattle.iam_match.specs.Requester.{RequesterValue}
use Rattle.iam_match.specs.Statement.{AccessValue}
use Rattle.iam_match.specs.declared.principal.Grant.{Grant}
use Rattle.iam_decision.specs.Applicable.{ApplicableValue}
use Rattle.iam_decision.specs.Matched.{Placed, Selects, in_layer, in_level, in_policy, placed}
use Rattle.iam_decision.specs.declared.place.Layer.{Layer}
use Rattle.iam_decision.specs.declared.place.Layer.TheVariants.{Org, Control, Resource, Identity, Boundary, Session}
use Rattle.iam_every.specs.Alike.{AreAlike, Concerns, GroupMeets, IsAllowAt, IsDeny, IsGrant, Meets}
use Rattle.iam_every.specs.Code.Sides.{ReadNegated, ReadSides, SideMeets}
use Rattle.iam_every.specs.Groups.{AgreeOn, AreGroups, side_at, side_by, side_of}
use Rattle.iam_every.specs.OwnGroups.{HasElement}
use Rattle.iam_every.specs.declared.groups.Side.{Side}
use Rattle.iam_every.specs.declared.groups.Side.TheVariants.{Denies, Allows, Grants}
use Rattle.iam_every.proofs.AlikeLemmas.{turned}
use Rattle.iam_every.proofs.MemberLemmas.{chosen_in, in_chosen, in_flat, in_some, cases_in, none_in, some_in}

-- ---- where statements stand

policy_at : (layer : Layer) (level policy : ℕ) (value : PolicyValue) (s : Placed) → Contains (in_policy layer level policy value) s
    → (s.place.layer ≡ layer) × (s.place.level ≡ level)
policy_at layer level policy value s in' =
    let one : ℕ × StatementValue → Placed = λ n.
    record { place = record { layer = layer; level = level; policy = policy; statement = n.0 }; statement = n.1 } in
    let (n, inside, here) = in_flat (λ n. one n ∷ []) (enumerate_from 0 value.statements) s in' in
    elim (cases_in (one n) [] s here) [
      | inl is ↦ (ap (λ (x : Placed). x.place.layer) (sym is), ap (λ (x : Placed). x.place.level) (sym is))
      | inr none ↦ absurd (none_in s none)
    ]

level_at : (layer : Layer) (level : ℕ) (policies : List PolicyValue) (s : Placed) → Contains (in_level layer level policies) s
    → (s.place.layer ≡ layer) × (s.place.level ≡ level)
level_at layer level policies s in' =
    let (p, inside, here) = in_flat (λ (p : ℕ × PolicyValue). in_policy layer level p.0 p.1) (enumerate_from 0 policies) s in' in
    policy_at layer level p.0 p.1 s here

layer_at : (layer : Layer) (levels : List (List PolicyValue)) (s : Placed) → Contains (in_layer layer levels) s → s.place.layer ≡ layer
layer_at layer levels s in' =
    let (l, inside, here) = in_flat (λ (l : ℕ × List PolicyValue). in_level layer l.0 l.1) (enumerate_from 0 levels) s in' in
    (level_at layer l.0 l.1 s here).0

-- a statement of the resource's policy stands at level 0
resource_level : (a : ApplicableValue) (s : Placed) → Contains (placed a) s → s.place.layer ≡ Resource → s.place.level ≡ 0
resource_level a s in' there =
    let requester = in_level Identity 0 a.identity ++ (in_level Boundary 0 (option_to_list a.boundary) ++ in_level Session 0 a.session) in
    let resource = in_level Resource 0 (option_to_list a.resource) in
    elim (Contains-append_cases (in_layer Org a.org) (in_layer Control a.control ++ (resource ++ requester)) s in') [
      | inl org ↦ let is = layer_at Org a.org s org in absurd (let wrong : ⊥ = cc in wrong)
      | inr behind ↦ elim (Contains-append_cases (in_layer Control a.control) (resource ++ requester) s behind) [
        | inl control ↦ let is = layer_at Control a.control s control in absurd (let wrong : ⊥ = cc in wrong)
        | inr behind ↦ elim (Contains-append_cases resource requester s behind) [
          | inl here ↦ (level_at Resource 0 (option_to_list a.resource) s here).1
          | inr behind ↦ elim (Contains-append_cases (in_level Identity 0 a.identity) (in_level Boundary 0 (option_to_list a.boundary) ++ in_level Session 0 a.session) s behind) [
            | inl identity ↦ (level_at Identity 0 a.identity s identity).1
            | inr behind ↦ elim (Contains-append_cases (in_level Boundary 0 (option_to_list a.boundary)) (in_level Session 0 a.session) s behind) [
              | inl boundary ↦ (level_at Boundary 0 (option_to_list a.boundary) s boundary).1
              | inr session ↦ (level_at Session 0 a.session s session).1
            ]
          ]
        ]
      ]
    ]

-- ---- sides

-- what a side says of a statement
abbrev SaysSide : RequesterValue → Side → Placed → Type 0
SaysSide requester Denies s = IsDeny s
SaysSide requester (Allows layer level) s = IsAllowAt layer level s
SaysSide requester (Grants grant) s = IsGrant requester grant s

side_says : (requester : RequesterValue) (side : Side) (s : Placed) (effect : Effect) (layer : Layer) → s.statement.effect ≡ effect → s.place.layer ≡ layer
    → side_by effect layer s.place.level (grant_of s.statement.principal requester) ≡ side → SaysSide requester side s
side_says requester side s Deny layer effect_is layer_is is = subst (λ (x : Side). SaysSide requester x s) is effect_is
side_says requester side s Allow Org effect_is layer_is is = subst (λ (x : Side). SaysSide requester x s) is (effect_is, layer_is, refl)
side_says requester side s Allow Control effect_is layer_is is = subst (λ (x : Side). SaysSide requester x s) is (effect_is, layer_is, refl)
side_says requester side s Allow Resource effect_is layer_is is = subst (λ (x : Side). SaysSide requester x s) is (effect_is, layer_is, refl)
side_says requester side s Allow Identity effect_is layer_is is = subst (λ (x : Side). SaysSide requester x s) is (effect_is, layer_is, refl)
side_says requester side s Allow Boundary effect_is layer_is is = subst (λ (x : Side). SaysSide requester x s) is (effect_is, layer_is, refl)
side_says requester side s Allow Session effect_is layer_is is = subst (λ (x : Side). SaysSide requester x s) is (effect_is, layer_is, refl)

says_side : (requester : RequesterValue) (side : Side) (s : Placed) → side_of requester s ≡ side → SaysSide requester side s
says_side requester side s is = side_says requester side s s.statement.effect s.place.layer refl refl is

-- the side of a deny, of an allow of a layer and a level, and of what the resource's policy grants
deny_side : (requester : RequesterValue) (s : Placed) → IsDeny s → side_of requester s ≡ Denies
deny_side requester s deny = ap (λ (e : Effect). side_by e s.place.layer s.place.level (grant_of s.statement.principal requester)) deny

allow_side : (requester : RequesterValue) (layer : Layer) (level : ℕ) (s : Placed) → IsAllowAt layer level s
    → side_of requester s ≡ side_at layer level (grant_of s.statement.principal requester)
allow_side requester layer level s (allow, there, at) =
    let grant = grant_of s.statement.principal requester in
    ap (λ (e : Effect). side_by e s.place.layer s.place.level grant) allow ∙ ap (λ (l : Layer). side_at l s.place.level grant) there
    ∙ ap (λ (n : ℕ). side_at layer n grant) at

grant_side : (requester : RequesterValue) (grant : Grant) (s : Placed) → IsGrant requester grant s → side_of requester s ≡ Grants grant
grant_side requester grant s (allow, there, is) = allow_side requester Resource s.place.level s (allow, there, refl) ∙ ap Grants is

-- where one grant kind makes a side of allows of a layer and a level, each does
any_grant : (layer : Layer) (level : ℕ) (grant other : Grant) → side_at layer level grant ≡ Allows layer level → side_at layer level other ≡ Allows layer level
any_grant Org level grant other is = refl
any_grant Control level grant other is = refl
any_grant Resource level grant other is = absurd (let wrong : ⊥ = cc in wrong)
any_grant Identity level grant other is = refl
any_grant Boundary level grant other is = refl
any_grant Session level grant other is = refl

-- of two statements on one side both are denies or neither, both allows of the same layer and level, both grant the same
abbrev IsKept : ApplicableValue → RequesterValue → (Placed → Type 0) → Type 0
IsKept a requester P = (s t : Placed) → Contains (placed a) s → Contains (placed a) t → side_of requester t ≡ side_of requester s → P s → P t

deny_kept : (a : ApplicableValue) (requester : RequesterValue) → IsKept a requester IsDeny
deny_kept a requester s t in' there same deny = says_side requester Denies t (same ∙ deny_side requester s deny)

grant_kept : (a : ApplicableValue) (requester : RequesterValue) (grant : Grant) → IsKept a requester (IsGrant requester grant)
grant_kept a requester grant s t in' there same is = says_side requester (Grants grant) t (same ∙ grant_side requester grant s is)

allow_kept : (a : ApplicableValue) (requester : RequesterValue) (layer : Layer) (level : ℕ) → IsKept a requester (IsAllowAt layer level)
allow_kept a requester Org level s t in' there same is =
    says_side requester (Allows Org level) t (same ∙ allow_side requester Org level s is)
allow_kept a requester Control level s t in' there same is =
    says_side requester (Allows Control level) t (same ∙ allow_side requester Control level s is)
allow_kept a requester Resource level s t in' there same is =
    let grant = grant_of s.statement.principal requester in
    let (allow, layer_is, grant_is) = says_side requester (Grants grant) t (same ∙ allow_side requester Resource level s is) in
    (allow, layer_is, resource_level a t there layer_is ∙ sym (resource_level a s in' is.1) ∙ is.2)
allow_kept a requester Identity level s t in' there same is =
    says_side requester (Allows Identity level) t (same ∙ allow_side requester Identity level s is)
allow_kept a requester Boundary level s t in' there same is =
    says_side requester (Allows Boundary level) t (same ∙ allow_side requester Boundary level s is)
allow_kept a requester Session level s t in' there same is =
    says_side requester (Allows Session level) t (same ∙ allow_side requester Session level s is)

-- ---- texts on which the groups agree are alike

pub has_element : (access : AccessValue) (text : List ℕ) (negated : Bool) (s : Placed) → Meets access.context negated text s → HasElement negated s
has_element access text negated s (element, is, sign, some) = (element, is, sign)

moved : (a : ApplicableValue) (access : AccessValue) (action : List ℕ) (concerned : List Placed) (groups : List (List (List Sign)))
    → Selects (Concerns access action) (placed a) concerned → ReadSides access concerned groups
    → (one other : List ℕ) → AgreeOn groups (chars one) (chars other) → (P : Placed → Type 0) → IsKept a access.requester P
    → GroupMeets a access action P one → GroupMeets a access action P other
moved a access action concerned groups chosen are one other agree P kept meets =
    let about = Concerns access action in
    let side : Placed → Side = λ s. side_of access.requester s in
    let (s, inside, (concerns, p, meets_one)) = some_in (λ s. about s × P s × Meets access.context false one s) (placed a) meets in
    let among = in_chosen about (placed a) concerned s chosen inside concerns in
    let (group, there, reads) = are.whole s among (has_element access one false s meets_one) in
    let of_side : Placed → Type 0 = λ t. (side t ≡ side s) × Meets access.context false other t in
    let matches = (reads one).1 (in_some (λ t. (side t ≡ side s) × Meets access.context false one t) concerned s among (refl, meets_one)) in
    let (t, found, (same, meets_other)) = some_in of_side concerned ((reads other).0 ((agree group there).0 matches)) in
    let (standing, concerns_too) = chosen_in about (placed a) concerned t chosen found in
    in_some (λ s. about s × P s × Meets access.context false other s) (placed a) t standing (concerns_too, kept s t inside standing same p, meets_other)

agree_back : (groups : List (List (List Sign))) (one other : List ℕ) → AgreeOn groups one other → AgreeOn groups other one
agree_back groups one other agree group in' = let both = agree group in' in (both.1, both.0)

negated_moved : (access : AccessValue) (concerned : List Placed) (groups : List (List (List Sign))) → ReadNegated access.context concerned groups
    → (one other : List ℕ) → AgreeOn groups (chars one) (chars other) → (s : Placed) → Contains concerned s
    → Meets access.context true one s → Meets access.context true other s
negated_moved access concerned groups are one other agree s in' meets =
    let (group, there, reads) = are.whole s in' (has_element access one true s meets) in
    (reads other).0 ((agree group there).0 ((reads one).1 meets))

agree_left : (sides negated : List (List (List Sign))) (one other : List ℕ) → AgreeOn (sides ++ negated) one other → AgreeOn sides one other
agree_left sides negated one other agree group in' = agree group (Contains-append_left sides negated group in')

agree_right : (sides negated : List (List (List Sign))) (one other : List ℕ) → AgreeOn (sides ++ negated) one other → AgreeOn negated one other
agree_right sides negated one other agree group in' = agree group (Contains-append_right sides negated group in')

alike : (a : ApplicableValue) (access : AccessValue) (action : List ℕ) (concerned : List Placed) (sides negated : List (List (List Sign)))
    → Selects (Concerns access action) (placed a) concerned → ReadSides access concerned sides → ReadNegated access.context concerned negated
    → (one other : List ℕ) → AgreeOn (sides ++ negated) (chars one) (chars other) → AreAlike a access action one other
alike a access action concerned sides negated chosen are are_negated one other agree =
    let left = agree_left sides negated (chars one) (chars other) agree in
    let right = agree_right sides negated (chars one) (chars other) agree in
    let left_back = agree_back sides (chars one) (chars other) left in
    let right_back = agree_back negated (chars one) (chars other) right in
    let go = moved a access action concerned sides chosen are one other left in
    let back = moved a access action concerned sides chosen are other one left_back in
    record {
      denies = (go IsDeny (deny_kept a access.requester), back IsDeny (deny_kept a access.requester));
      allows = λ layer level. (
        go (IsAllowAt layer level) (allow_kept a access.requester layer level),
        back (IsAllowAt layer level) (allow_kept a access.requester layer level),
      );
      grants = λ grant. (
        go (IsGrant access.requester grant) (grant_kept a access.requester grant),
        back (IsGrant access.requester grant) (grant_kept a access.requester grant),
      );
      negated = λ k d below concerns.
          let s = get_or (placed a) k d in
          let among = in_chosen (Concerns access action) (placed a) concerned s chosen (Contains-get_or (placed a) k d below) concerns in (
            negated_moved access concerned negated are_negated one other right s among,
            negated_moved access concerned negated are_negated other one right_back s among,
          );
    }

-- ---- on texts that are alike the groups agree

side_moves : (a : ApplicableValue) (access : AccessValue) (action : List ℕ) (concerned : List Placed) → Selects (Concerns access action) (placed a) concerned
    → (one other : List ℕ) → AreAlike a access action one other → (side : Side)
    → SideMeets access concerned side one → SideMeets access concerned side other
side_moves a access action concerned chosen one other are side some = by_side side (some_in (on side one) concerned some)
  where
    about : Placed → Type 0
    about = Concerns access action

    on : Side → List ℕ → Placed → Type 0
    on side text s = (side_of access.requester s ≡ side) × Meets access.context false text s

    goes : (P : Placed → Type 0) (side : Side) → (GroupMeets a access action P one → GroupMeets a access action P other)
        → ((t : Placed) → P t → side_of access.requester t ≡ side)
        → (s : Placed) → Contains concerned s → P s → Meets access.context false one s → SideMeets access concerned side other
    goes P side group says s in' p meets =
        let (inside, concerns) = chosen_in about (placed a) concerned s chosen in' in
        let (t, there, (concerns_too, q, meets_other)) = some_in (λ t. about t × P t × Meets access.context false other t) (placed a)
        (group (in_some (λ t. about t × P t × Meets access.context false one t) (placed a) s inside (concerns, p, meets))) in
        in_some (on side other) concerned t (in_chosen about (placed a) concerned t chosen there concerns_too) (says t q, meets_other)

    by_side : (side : Side) → (s : Placed) × Contains concerned s × on side one s → SideMeets access concerned side other
    by_side Denies (s, in', (is, meets)) =
        goes IsDeny Denies are.denies.0 (deny_side access.requester) s in' (says_side access.requester Denies s is) meets
    by_side (Grants grant) (s, in', (is, meets)) =
        goes (IsGrant access.requester grant) (Grants grant) (are.grants grant).0 (grant_side access.requester grant) s in'
        (says_side access.requester (Grants grant) s is) meets
    by_side (Allows layer level) (s, in', (is, meets)) =
        let allow = says_side access.requester (Allows layer level) s is in
        let made = sym (allow_side access.requester layer level s allow) ∙ is in
        goes (IsAllowAt layer level) (Allows layer level) (are.allows layer level).0
        (λ t q. allow_side access.requester layer level t q
        ∙ any_grant layer level (grant_of s.statement.principal access.requester) (grant_of t.statement.principal access.requester) made)
        s in' allow meets

agrees : (a : ApplicableValue) (access : AccessValue) (action : List ℕ) (concerned : List Placed) (sides negated : List (List (List Sign)))
    → Selects (Concerns access action) (placed a) concerned → ReadSides access concerned sides → ReadNegated access.context concerned negated
    → (one other : List ℕ) → AreAlike a access action one other → AgreeOn (sides ++ negated) (chars one) (chars other)
agrees a access action concerned sides negated chosen are are_negated one other alike group in' =
    elim (Contains-append_cases sides negated group in') [
      | inl left ↦
          let (side, reads) = are.only group left in
          let back = turned a access action one other alike in (
            λ m. (reads other).1 (side_moves a access action concerned chosen one other alike side ((reads one).0 m)),
            λ m. (reads one).1 (side_moves a access action concerned chosen other one back side ((reads other).0 m)),
          )
      | inr right ↦
          let (s, among, reads) = are_negated.only group right in
          let (inside, concerns) = chosen_in (Concerns access action) (placed a) concerned s chosen among in
          let both = All-contains (λ s. Concerns access action s → Meets access.context true one s ↔ Meets access.context true other s)
          (placed a) s alike.negated inside concerns in (
            λ m. (reads other).1 (both.0 ((reads one).0 m)),
            λ m. (reads one).1 (both.1 ((reads other).0 m)),
          )
    ]

pub are_groups : (a : ApplicableValue) (access : AccessValue) (action : List ℕ) (concerned : List Placed) (sides negated : List (List (List Sign)))
    → Selects (Concerns access action) (placed a) concerned → ReadSides access concerned sides → ReadNegated access.context concerned negated
    → AreGroups a access action (sides ++ negated)
are_groups a access action concerned sides negated chosen are are_negated one other = (
  alike a access action concerned sides negated chosen are are_negated one other,
  agrees a access action concerned sides negated chosen are are_negated one other,
)
