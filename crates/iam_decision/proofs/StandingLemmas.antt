-- The placed statements of a layer and a level are those that stand there.
use Rattle.std.proofs.Common.{◌≡◌, ◌⊎◌, inl, inr, ◌↔◌, ℕ, suc, zero, ◌≤◌, List, [], ◌∷◌, ◌++◌, get_or, refl, subst, arith}
use Rattle.std.specs.List.{enumerate_from}
use Rattle.std.specs.Option.{option_to_list}
use Rattle.iam_policy.specs.Reading.{PolicyValue, StatementValue}
use Rattle.iam_policy.specs.declared.effect.Effect.TheVariants.{Allow, Deny}
use Rattle.iam_match.specs.Principal.{grant_of, rank}
use Rattle.iam_match.specs.Statement.{RequestValue, StatementMatches}
use Rattle.iam_match.specs.declared.principal.Grant.{Grant}
use Rattle.iam_decision.specs.Applicable.{ApplicableValue}
use Rattle.iam_decision.specs.Decision.{Allows, Denies, Grants, Says}
use Rattle.iam_decision.specs.Laws.{SomeGrants, SomeSays, levels_of, statements_at, statements_of}
use Rattle.iam_decision.specs.Matched.{Placed, in_layer, in_level, in_policy, placed}
use Rattle.iam_decision.specs.declared.place.Layer.{Layer}
use Rattle.iam_decision.specs.declared.place.Layer.TheVariants.{Org, Control, Resource, Identity, Boundary, Session}
use Rattle.iam_decision.proofs.SomeLemmas.{SomeOf, any_from_some, any_same, at_numbered, iff_trans, numbered_at, right_same, some_append, some_fact, some_flat, some_from_any, some_numbered, some_same, some_weaker}

-- the statement has the property, and stands in this layer at this level
abbrev pub Stands : (StatementValue → Type 0) → Layer → ℕ → Placed → Type 0
Stands R layer level s = R s.statement × ((s.place.layer ≡ layer) × (s.place.level ≡ level))

module _ (R : StatementValue → Type 0) (layer : Layer) (level : ℕ) where
  policy_same : (here : Layer) (at number : ℕ) (policy : PolicyValue)
      → SomeOf (Stands R layer level) (in_policy here at number policy) ↔ (SomeOf R policy.statements × ((here ≡ layer) × (at ≡ level)))
  policy_same here at number policy =
      let F : Type 0 = (here ≡ layer) × (at ≡ level) in
      let put : (ℕ × StatementValue) → Placed =
      λ p. record { place = record { layer = here; level = at; policy = number; statement = p.0 }; statement = p.1 } in
      let alone : (p : ℕ × StatementValue) → SomeOf (Stands R layer level) (put p ∷ []) ↔ (R p.1 × F) =
      λ p. ((λ h. elim h [ inl s ↦ s | inr none ↦ absurd none ]), (λ s. inl s)) in
      iff_trans (some_flat (Stands R layer level) (λ p. put p ∷ []) (enumerate_from 0 policy.statements))
      (
      iff_trans (some_same (λ p. SomeOf (Stands R layer level) (put p ∷ [])) (λ p. R p.1 × F) alone (enumerate_from 0 policy.statements))
      (iff_trans (some_numbered (λ s. R s × F) 0 policy.statements) (some_fact R F policy.statements))
      )

  level_same : (here : Layer) (at : ℕ) (policies : List PolicyValue)
      → SomeOf (Stands R layer level) (in_level here at policies) ↔ (SomeOf R (statements_of policies) × ((here ≡ layer) × (at ≡ level)))
  level_same here at policies =
      let F : Type 0 = (here ≡ layer) × (at ≡ level) in
      let Q : PolicyValue → Type 0 = λ policy. SomeOf R policy.statements in
      let all = some_flat R (λ (policy : PolicyValue). policy.statements) policies in
      iff_trans (some_flat (Stands R layer level) _ (enumerate_from 0 policies))
      (
      iff_trans (some_same _ (λ (p : ℕ × PolicyValue). Q p.1 × F) (λ p. policy_same here at p.0 p.1) (enumerate_from 0 policies))
      (
      iff_trans (some_numbered (λ policy. Q policy × F) 0 policies)
      (iff_trans (some_fact Q F policies) ((λ h. (all.1 h.0, h.1)), (λ h. (all.0 h.0, h.1))))
      )
      )

  layer_same : (here : Layer) (levels : List (List PolicyValue))
      → SomeOf (Stands R layer level) (in_layer here levels) ↔ (SomeOf R (statements_of (get_or levels level [])) × (here ≡ layer))
  layer_same here levels =
      let Q : List PolicyValue → Type 0 = λ policies. SomeOf R (statements_of policies) × (here ≡ layer) in
      let S : (ℕ × List PolicyValue) → Type 0 = λ p. Q p.1 × (p.0 ≡ level) in
      let each : (p : ℕ × List PolicyValue) → SomeOf (Stands R layer level) (in_level here p.0 p.1) ↔ S p =
      λ p. let same = level_same here p.0 p.1 in (
        (λ h. let found = same.0 h in ((found.0, found.1.0), found.1.1)),
        (λ h. same.1 (h.0.0, (h.0.1, h.1))),
      ) in
      iff_trans (some_flat (Stands R layer level) _ (enumerate_from 0 levels))
      (
      iff_trans (some_same _ S each (enumerate_from 0 levels)) (
        (λ h. let found = at_numbered Q [] level 0 levels h in
            let is : found.0 ≡ level = omega (arith, found.1) in subst (λ k. Q (get_or levels k [])) is found.2),
        (λ h. numbered_at Q [] level 0 level levels (λ none. none.0) (omega arith) h),
      )
      )

-- layer by layer
placed_parts : (P : Placed → Type 0) (a : ApplicableValue)
    → SomeOf P (placed a)
    ↔ (SomeOf P (in_layer Org a.org)
    ⊎ (SomeOf P (in_layer Control a.control)
    ⊎ (SomeOf P (in_level Resource 0 (option_to_list a.resource))
    ⊎ (SomeOf P (in_level Identity 0 a.identity)
    ⊎ (SomeOf P (in_level Boundary 0 (option_to_list a.boundary)) ⊎ SomeOf P (in_level Session 0 a.session))))))
placed_parts P a =
    let session = in_level Session 0 a.session in
    let boundary = in_level Boundary 0 (option_to_list a.boundary) in
    let identity = in_level Identity 0 a.identity in
    let resource = in_level Resource 0 (option_to_list a.resource) in
    let control = in_layer Control a.control in
    iff_trans (some_append P (in_layer Org a.org) (control ++ (resource ++ (identity ++ (boundary ++ session)))))
    (
    right_same
    (
    iff_trans (some_append P control (resource ++ (identity ++ (boundary ++ session))))
    (
    right_same
    (
    iff_trans (some_append P resource (identity ++ (boundary ++ session)))
    (right_same (iff_trans (some_append P identity (boundary ++ session)) (right_same (some_append P boundary session))))
    )
    )
    )
    )

standing_from : (R : StatementValue → Type 0) (a : ApplicableValue) (layer : Layer) (level : ℕ)
    → SomeOf (Stands R layer level) (placed a) → SomeOf R (statements_at a layer level)
standing_from R a layer level h =
    let in-levels : (here : Layer) → SomeOf (Stands R layer level) (in_layer here (levels_of a here)) → SomeOf R (statements_at a layer level) =
    λ here some. let found = (layer_same R layer level here (levels_of a here)).0 some in
    subst (λ l. SomeOf R (statements_at a l level)) found.1 found.0 in
    let single : (here : Layer) (policies : List PolicyValue) → (SomeOf R (statements_of policies) → SomeOf R (statements_at a here 0))
    → SomeOf (Stands R layer level) (in_level here 0 policies) → SomeOf R (statements_at a layer level) =
    λ here policies on some. let found = (level_same R layer level here 0 policies).0 some in
    subst (λ n. SomeOf R (statements_at a layer n)) found.1.1 (subst (λ l. SomeOf R (statements_at a l 0)) found.1.0 (on found.0)) in
    elim ((placed_parts (Stands R layer level) a).0 h) [
      | inl org ↦ in-levels Org org
      | inr rest ↦ elim rest [
        | inl control ↦ in-levels Control control
        | inr rest ↦ elim rest [
          | inl resource ↦ single Resource (option_to_list a.resource) (λ s. s) resource
          | inr rest ↦ elim rest [
            | inl identity ↦ single Identity a.identity (λ s. s) identity
            | inr rest ↦ elim rest [
              | inl boundary ↦ single Boundary (option_to_list a.boundary) (λ s. s) boundary
              | inr session ↦ single Session a.session (λ s. s) session
            ]
          ]
        ]
      ]
    ]

standing_to : (R : StatementValue → Type 0) (a : ApplicableValue) (layer : Layer) (level : ℕ)
    → SomeOf R (statements_at a layer level) → SomeOf (Stands R layer level) (placed a)
standing_to R a Org level h = (placed_parts (Stands R Org level) a).1 (inl ((layer_same R Org level Org a.org).1 (h, refl)))
standing_to R a Control level h =
    (placed_parts (Stands R Control level) a).1 (inr (inl ((layer_same R Control level Control a.control).1 (h, refl))))
standing_to R a Resource zero h =
    (placed_parts (Stands R Resource 0) a).1 (inr (inr (inl ((level_same R Resource 0 Resource 0 (option_to_list a.resource)).1 (h, (refl, refl))))))
standing_to R a Identity zero h =
    (placed_parts (Stands R Identity 0) a).1 (inr (inr (inr (inl ((level_same R Identity 0 Identity 0 a.identity).1 (h, (refl, refl)))))))
standing_to R a Boundary zero h =
    (placed_parts (Stands R Boundary 0) a).1
    (inr (inr (inr (inr (inl ((level_same R Boundary 0 Boundary 0 (option_to_list a.boundary)).1 (h, (refl, refl))))))))
standing_to R a Session zero h =
    (placed_parts (Stands R Session 0) a).1
    (inr (inr (inr (inr (inr ((level_same R Session 0 Session 0 a.session).1 (h, (refl, refl))))))))
standing_to R a Resource (suc level) h = absurd h
standing_to R a Identity (suc level) h = absurd h
standing_to R a Boundary (suc level) h = absurd h
standing_to R a Session (suc level) h = absurd h

-- some placed statement of the layer and level has the property: some statement that stands there has it
standing_same : (R : StatementValue → Type 0) (a : ApplicableValue) (layer : Layer) (level : ℕ)
    → SomeOf (Stands R layer level) (placed a) ↔ SomeOf R (statements_at a layer level)
standing_same R a layer level = (standing_from R a layer level, standing_to R a layer level)

pub allows_same : (a : ApplicableValue) (q : RequestValue) (layer : Layer) (level : ℕ)
    → Allows a q layer level ↔ SomeSays Allow q (statements_at a layer level)
allows_same a q layer level =
    let R : StatementValue → Type 0 = λ s. StatementMatches s q × (s.effect ≡ Allow) in
    let A : Placed → Type 0 = λ s. Says q Allow s × (s.place.layer ≡ layer) × (s.place.level ≡ level) in
    let there : (s : Placed) → A s ↔ Stands R layer level s = λ s. ((λ h. (h.0, (h.1, h.2))), (λ h. (h.0, h.1.0, h.1.1))) in
    let some = iff_trans (any_same A (placed a)) (iff_trans (some_same A (Stands R layer level) there (placed a)) (standing_same R a layer level)) in
    ((λ h. any_from_some R _ (some.0 h)), (λ h. some.1 (some_from_any R _ h)))

-- the policies of the resource are at level 0
root_alone : (R : StatementValue → Type 0) (a : ApplicableValue) (level : ℕ)
    → SomeOf R (statements_at a Resource level) → SomeOf R (statements_of (option_to_list a.resource))
root_alone R a zero h = h
root_alone R a (suc level) h = absurd h

pub grants_same : (a : ApplicableValue) (q : RequestValue) (least : Grant)
    → Grants a q least ↔ SomeGrants least q (statements_of (option_to_list a.resource))
grants_same a q least =
    let R : StatementValue → Type 0 = λ s. StatementMatches s q × (s.effect ≡ Allow) × (rank least ≤ rank (grant_of s.principal q.requester)) in
    let G : Placed → Type 0 = λ s. Says q Allow s × (s.place.layer ≡ Resource) × (rank least ≤ rank (grant_of s.statement.principal q.requester)) in
    let out : (s : Placed) → Stands R Resource 0 s → G s = λ s h. ((h.0.0, h.0.1), h.1.0, h.0.2) in (
      λ g. any_from_some R (statements_of (option_to_list a.resource)) (
          root_alone R a g.1.place.level (
          standing_from R a Resource g.1.place.level (
          some_from_any (Stands R Resource g.1.place.level) (placed a)
          (g.0, g.1, g.2, g.3, ((g.4.0.0, g.4.0.1, g.4.2), (g.4.1, refl)))
          )
          )
          ),
      λ g. any_from_some G (placed a)
          (some_weaker (Stands R Resource 0) G out (placed a) (standing_to R a Resource 0 (some_from_any R (statements_of (option_to_list a.resource)) g))),
    )

-- some statement of some layer denies
abbrev pub DeniesSomewhere : ApplicableValue → RequestValue → Type 0
DeniesSomewhere a q = (layer : Layer) × (level : ℕ) × SomeSays Deny q (statements_at a layer level)

pub denies_same : (a : ApplicableValue) (q : RequestValue) → Denies a q ↔ DeniesSomewhere a q
denies_same a q =
    let R : StatementValue → Type 0 = λ s. StatementMatches s q × (s.effect ≡ Deny) in (
      λ d. let place = d.1.place in (
        place.layer,
        place.level,
        any_from_some R (statements_at a place.layer place.level) (
            standing_from R a place.layer place.level (
            some_from_any (Stands R place.layer place.level) (placed a) (d.0, d.1, d.2, d.3, (d.4, (refl, refl)))
            )
            ),
      ),
      λ d. any_from_some (Says q Deny) (placed a) (
          some_weaker (Stands R d.0 d.1) (Says q Deny) (λ s h. h.0) (placed a)
          (standing_to R a d.0 d.1 (some_from_any R (statements_at a d.0 d.1) d.2))
          ),
    )
