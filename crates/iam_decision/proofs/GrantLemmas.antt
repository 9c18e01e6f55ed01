-- Which texts grant a requester directly.
use Rattle.std.proofs.Common.{◌≡◌, ◌⊎◌, inl, inr, ◌↔◌, ℕ, ◌<◌, ◌≤◌, Bool, ◌&&◌, ◌||◌, List, [], ◌∷◌, Option, None, Some, true, false, cond, map, refl, sym, subst, arith}
use Rattle.std.specs.Prelude.{codes, filter, nat_lt}
use Rattle.std.specs.List.{Any}
use Rattle.std.specs.Option.{option_map_or}
use Rattle.std.specs.Str.{bytes_eq}
use Rattle.std.proofs.lemmas.Bool.{ltb-true, ltb-false}
use Rattle.std.proofs.lemmas.Slice.Eq.{bytes_eq-Decides}
use Rattle.iam_element.specs.Reading.{PrincipalElement, PrincipalText}
use Rattle.iam_element.specs.declared.principals.PrincipalKind.{PrincipalKind}
use Rattle.iam_element.specs.declared.principals.PrincipalKind.TheVariants.{Aws, Service, Federated, CanonicalUser}
use Rattle.iam_match.specs.Principal.{Name, grant_of, grant_of_element, grant_of_text, grant_to, greatest, higher, is_aws, is_named, names, rank, the_account, the_role, the_session, the_user}
use Rattle.iam_match.specs.Requester.{RequesterValue, requester_name, role_arn, root_arn, session_arn, user_arn}
use Rattle.iam_match.specs.declared.principal.Grant.{Grant}
use Rattle.iam_decision.specs.Laws
use Rattle.iam_decision.proofs.SomeLemmas.{SomeOf, any_from_some, iff_trans, some_filter, some_from_any, some_map, some_same}

-- the grant is direct
abbrev IsDirect : Grant → Type 0
IsDirect grant = 3 ≤ rank grant

higher_same : (a b : Grant) → IsDirect (higher a b) ↔ (IsDirect a ⊎ IsDirect b)
higher_same a b = by_order (nat_lt (rank b) (rank a)) (λ is. ltb-true (rank b) (rank a) is) (λ is. ltb-false (rank b) (rank a) is)
  where
    by_order : (above : Bool) → (above ≡ true → rank b < rank a) → (above ≡ false → rank a ≤ rank b)
        → IsDirect (cond above a b) ↔ (IsDirect a ⊎ IsDirect b)
    by_order true more less =
        let m : rank b < rank a = more refl in ((λ h. inl h), (λ h. elim h [ inl one ↦ one | inr other ↦ omega arith ]))
    by_order false more less =
        let l : rank a ≤ rank b = less refl in ((λ h. inr h), (λ h. elim h [ inl one ↦ omega arith | inr other ↦ other ]))

greatest_same : (grants : List Grant) → IsDirect (greatest grants) ↔ SomeOf IsDirect grants
greatest_same [] = ((λ h. omega arith), (λ h. absurd h))
greatest_same (grant ∷ grants) =
    let rest = greatest_same grants in
    iff_trans (higher_same grant (greatest grants)) (
      (λ h. elim h [ inl one ↦ inl one | inr other ↦ inr (rest.0 other) ]),
      (λ h. elim h [ inl one ↦ inl one | inr other ↦ inr (rest.1 other) ]),
    )

-- the text is `*` or this ARN, under `AWS`
abbrev Names : List ℕ → PrincipalText → Type 0
Names arn p = (p.kind ≡ Aws) × ((p.text ≡ codes "*") ⊎ (p.text ≡ arn))

text_same : (text everyone arn : List ℕ) → ((bytes_eq text everyone || bytes_eq text arn) ≡ true) ↔ ((text ≡ everyone) ⊎ (text ≡ arn))
text_same text everyone arn = by_tests (bytes_eq text everyone) (bytes_eq text arn) (bytes_eq-Decides text everyone) (bytes_eq-Decides text arn)
  where
    by_tests : (one other : Bool) → ((one ≡ true → text ≡ everyone) × (text ≡ everyone → one ≡ true))
        → ((other ≡ true → text ≡ arn) × (text ≡ arn → other ≡ true)) → ((one || other) ≡ true) ↔ ((text ≡ everyone) ⊎ (text ≡ arn))
    by_tests true other d e = ((λ h. inl (d.0 refl)), (λ h. refl))
    by_tests false other d e = (
      (λ h. inr (e.0 h)),
      (λ h. elim h [ inl same ↦ absurd (let is : false ≡ true = d.1 same in let wrong : ⊥ = cc in wrong) | inr same ↦ e.1 same ]),
    )

named_same : (kind : PrincipalKind) (text arn : List ℕ)
    → ((is_aws kind && (bytes_eq text (codes "*") || bytes_eq text arn)) ≡ true) ↔ Names arn (record { kind = kind; text = text })
named_same Aws text arn = let same = text_same text (codes "*") arn in ((λ h. (refl, same.0 h)), (λ h. same.1 h.1))
named_same Service text arn = ((λ h. absurd (let wrong : ⊥ = cc in wrong)), (λ h. absurd (let is : Service ≡ Aws = h.0 in let wrong : ⊥ = cc in wrong)))
named_same Federated text arn = ((λ h. absurd (let wrong : ⊥ = cc in wrong)), (λ h. absurd (let is : Federated ≡ Aws = h.0 in let wrong : ⊥ = cc in wrong)))
named_same CanonicalUser text arn = ((λ h. absurd (let wrong : ⊥ = cc in wrong)), (λ h. absurd (let is : CanonicalUser ≡ Aws = h.0 in let wrong : ⊥ = cc in wrong)))

-- a text grants directly where it names the user or the session
grant_same : (r : RequesterValue) (p : PrincipalText) → IsDirect (grant_of_text r p) ↔ Names (requester_name r) p
grant_same r p =
    let P : Name → Type 0 = λ name. (is_named p name ≡ true) × IsDirect (grant_to name) in
    iff_trans (greatest_same (map grant_to (filter (is_named p) (names r)))) (
    iff_trans (some_map IsDirect grant_to (filter (is_named p) (names r))) (
    iff_trans (some_filter (λ name. IsDirect (grant_to name)) (is_named p) (names r)) (by_session r.session)
    )
    )
  where
    by_session : (session : Option (List ℕ))
        → SomeOf (λ name. (is_named p name ≡ true) × IsDirect (grant_to name))
        (the_account r.account (root_arn r)
        ∷ option_map_or (λ session. the_role (role_arn r) ∷ (the_session (session_arn r session) ∷ [])) session (the_user (user_arn r) ∷ []))
        ↔ Names (option_map_or (session_arn r) session (user_arn r)) p
    by_session None =
        let same = named_same p.kind p.text (user_arn r) in (
          λ h. elim h [
            | inl account ↦ absurd (let more : 3 ≤ 1 = account.1 in omega arith)
            | inr rest ↦ elim rest [ inl user ↦ same.0 user.0 | inr none ↦ absurd none ]
          ],
          λ h. inr (inl (same.1 h, omega arith)),
        )
    by_session (Some session) =
        let same = named_same p.kind p.text (session_arn r session) in (
          λ h. elim h [
            | inl account ↦ absurd (let more : 3 ≤ 1 = account.1 in omega arith)
            | inr rest ↦ elim rest [
              | inl role ↦ absurd (let more : 3 ≤ 2 = role.1 in omega arith)
              | inr rest ↦ elim rest [ inl at ↦ same.0 at.0 | inr none ↦ absurd none ]
            ]
          ],
          λ h. inr (inr (inl (same.1 h, omega arith))),
        )

element_same : (r : RequesterValue) (negated : Bool) (texts : List PrincipalText)
    → IsDirect (grant_of_element r (record { negated = negated; names = texts })) ↔ ((negated ≡ false) × Any (Names (requester_name r)) texts)
element_same r true texts = ((λ h. absurd (let more : 3 ≤ 0 = h in omega arith)), (λ h. absurd (let is : true ≡ false = h.0 in let wrong : ⊥ = cc in wrong)))
element_same r false texts =
    let same =
    iff_trans (greatest_same (map (grant_of_text r) texts)) (
    iff_trans (some_map IsDirect (grant_of_text r) texts) (some_same (λ p. IsDirect (grant_of_text r p)) (Names (requester_name r)) (grant_same r) texts)
    ) in (
      (λ h. (refl, any_from_some (Names (requester_name r)) texts (same.0 h))),
      (λ h. same.1 (some_from_any (Names (requester_name r)) texts h.1)),
    )

pub direct_grant_names_itself : Laws.DirectGrantNamesItself
direct_grant_names_itself s r = by_principal s.principal
  where
    by_principal : (principal : Option PrincipalElement) → IsDirect (grant_of principal r)
        ↔ ((element : PrincipalElement) × (principal ≡ Some element) × (element.negated ≡ false) × Any (Names (requester_name r)) element.names)
    by_principal None = ((λ h. absurd (let more : 3 ≤ 0 = h in omega arith)), (λ h. absurd (let is : None ≡ Some h.0 = h.1 in let wrong : ⊥ = cc in wrong)))
    by_principal (Some element) =
        let same = element_same r element.negated element.names in (
          (λ h. (element, refl, (same.0 h).0, (same.0 h).1)),
          (λ h. let is : element ≡ h.0 = (let given : Some element ≡ Some h.0 = h.1 in cc) in
              same.1 (subst (λ (e : PrincipalElement). (e.negated ≡ false) × Any (Names (requester_name r)) e.names) (sym is) (h.2, h.3))),
        )
