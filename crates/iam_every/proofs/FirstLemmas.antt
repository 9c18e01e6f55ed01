-- The distinct members of a list, what is chosen of one, and pairs that fit, are each one list.
use Rattle.std.proofs.Common.{◌≡◌, inl, inr, List, [], ◌∷◌, ◌++◌, Contains, append_assoc, ap, refl, subst, sym, ◌∙◌}
use Rattle.std.proofs.lemmas.List.{append-nil}
use Rattle.std.proofs.lemmas.List.Elements.{Contains-append_left}
use Rattle.std.specs.List.{AllZip}
use Rattle.iam_decision.specs.Matched.{Selects}
use Rattle.iam_every.specs.OwnGroups.{AreFirsts}
use Rattle.iam_every.proofs.MemberLemmas.{cases_in, first_in, later_in, none_in}

-- what was seen with one more, and the rest behind it
seen_more : {X : Type 0} (seen firsts rest : List X) (y x : X) → firsts ≡ y ∷ rest → Contains ((seen ++ (y ∷ [])) ++ rest) x
    → Contains (seen ++ firsts) x
seen_more {X} seen firsts rest y x is in' =
    subst (λ (z : List X). Contains z x) (append_assoc seen (y ∷ []) rest ∙ ap (λ z. seen ++ z) (sym is)) in'

seen_back : {X : Type 0} (seen firsts rest : List X) (y x : X) → firsts ≡ y ∷ rest → Contains (seen ++ firsts) x
    → Contains ((seen ++ (y ∷ [])) ++ rest) x
seen_back {X} seen firsts rest y x is in' =
    subst (λ (z : List X). Contains z x) (ap (λ z. seen ++ z) is ∙ sym (append_assoc seen (y ∷ []) rest)) in'

-- one more that is new, and one that was seen
pub firsts_more : {X : Type 0} (seen xs firsts : List X) (x : X) → AreFirsts seen xs firsts → ¬ Contains (seen ++ firsts) x
    → AreFirsts seen (xs ++ (x ∷ [])) (firsts ++ (x ∷ []))
firsts_more seen [] firsts x is never = inr (λ in'. never (Contains-append_left seen firsts x in'), ([], ap (λ f. f ++ (x ∷ [])) is, refl))
firsts_more seen (y ∷ xs) firsts x (inl (among, are)) never = inl (among, firsts_more seen xs firsts x are never)
firsts_more seen (y ∷ xs) firsts x (inr (new, (rest, is, are))) never =
    inr (
      new,
      (
        rest ++ (x ∷ []),
        ap (λ f. f ++ (x ∷ [])) is,
        firsts_more (seen ++ (y ∷ [])) xs rest x are (λ in'. never (seen_more seen firsts rest y x is in')),
      ),
    )

pub firsts_skip : {X : Type 0} (seen xs firsts : List X) (x : X) → AreFirsts seen xs firsts → Contains (seen ++ firsts) x
    → AreFirsts seen (xs ++ (x ∷ [])) firsts
firsts_skip {X} seen [] firsts x is in' =
    inl (subst (λ (z : List X). Contains z x) (ap (λ f. seen ++ f) is ∙ append-nil seen) in', is)
firsts_skip seen (y ∷ xs) firsts x (inl (among, are)) in' = inl (among, firsts_skip seen xs firsts x are in')
firsts_skip seen (y ∷ xs) firsts x (inr (new, (rest, is, are))) in' =
    inr (new, (rest, is, firsts_skip (seen ++ (y ∷ [])) xs rest x are (seen_back seen firsts rest y x is in')))

-- each member is seen, and nothing else
pub in_firsts : {X : Type 0} (seen xs firsts : List X) (x : X) → AreFirsts seen xs firsts → Contains xs x → Contains (seen ++ firsts) x
in_firsts seen [] firsts x is in' = absurd (none_in x in')
in_firsts {X} seen (y ∷ xs) firsts x (inl (among, are)) in' = elim (cases_in y xs x in') [
  | inl same ↦ Contains-append_left seen firsts x (subst (Contains seen) same among)
  | inr later ↦ in_firsts seen xs firsts x are later
]
in_firsts {X} seen (y ∷ xs) firsts x (inr (new, (rest, is, are))) in' =
    seen_more seen firsts rest y x is (elim (cases_in y xs x in') [
      | inl same ↦ Contains-append_left (seen ++ (y ∷ [])) rest x (subst (Contains (seen ++ (y ∷ []))) same (last_in seen y))
      | inr later ↦ in_firsts (seen ++ (y ∷ [])) xs rest x are later
    ])
  where
    last_in : {X : Type 0} (seen : List X) (y : X) → Contains (seen ++ (y ∷ [])) y
    last_in [] y = first_in y []
    last_in (z ∷ seen) y = later_in z (seen ++ (y ∷ [])) y (last_in seen y)

pub of_firsts : {X : Type 0} (seen xs firsts : List X) (x : X) → AreFirsts seen xs firsts → Contains firsts x → Contains xs x
of_firsts {X} seen [] firsts x is in' = subst (λ (z : List X). Contains z x) is in'
of_firsts seen (y ∷ xs) firsts x (inl (among, are)) in' = later_in y xs x (of_firsts seen xs firsts x are in')
of_firsts {X} seen (y ∷ xs) firsts x (inr (new, (rest, is, are))) in' =
    elim (cases_in y rest x (subst (λ (z : List X). Contains z x) is in')) [
      | inl same ↦ subst (Contains (y ∷ xs)) same (first_in y xs)
      | inr later ↦ later_in y xs x (of_firsts (seen ++ (y ∷ [])) xs rest x are later)
    ]

-- ---- one list
pub one_firsts : {X : Type 0} (seen xs one other : List X) → AreFirsts seen xs one → AreFirsts seen xs other → one ≡ other
one_firsts seen [] one other h k = h ∙ sym k
one_firsts seen (x ∷ xs) one other (inl (among, h)) (inl (too, k)) = one_firsts seen xs one other h k
one_firsts seen (x ∷ xs) one other (inl (among, h)) (inr (new, k)) = absurd (new among)
one_firsts seen (x ∷ xs) one other (inr (new, h)) (inl (among, k)) = absurd (new among)
one_firsts seen (x ∷ xs) one other (inr (new, (rest, is, h))) (inr (too, (more, same, k))) =
    is ∙ ap (λ r. x ∷ r) (one_firsts (seen ++ (x ∷ [])) xs rest more h k) ∙ sym same

pub one_selected : {X : Type 0} (P : X → Type 0) (xs one other : List X) → Selects P xs one → Selects P xs other → one ≡ other
one_selected P [] one other h k = h ∙ sym k
one_selected P (x ∷ xs) one other (inl (p, (rest, is, h))) (inl (q, (more, same, k))) =
    is ∙ ap (λ r. x ∷ r) (one_selected P xs rest more h k) ∙ sym same
one_selected P (x ∷ xs) one other (inl (p, h)) (inr (not, k)) = absurd (not p)
one_selected P (x ∷ xs) one other (inr (not, h)) (inl (p, k)) = absurd (not p)
one_selected P (x ∷ xs) one other (inr (not, h)) (inr (nor, k)) = one_selected P xs one other h k

pub one_zipped : {X Y : Type 0} (R : X → Y → Type 0) (xs : List X) (one other : List Y) → ((x : X) (y z : Y) → R x y → R x z → y ≡ z)
    → AllZip R xs one → AllZip R xs other → one ≡ other
one_zipped R [] [] [] alone h k = refl
one_zipped R [] [] (z ∷ other) alone h k = absurd k
one_zipped R [] (y ∷ one) other alone h k = absurd h
one_zipped R (x ∷ xs) [] other alone h k = absurd h
one_zipped R (x ∷ xs) (y ∷ one) [] alone h k = absurd k
one_zipped R (x ∷ xs) (y ∷ one) (z ∷ other) alone h k =
    ap (λ w. w ∷ one) (alone x y z h.0 k.0) ∙ ap (λ r. z ∷ r) (one_zipped R xs one other alone h.1 k.1)

-- what is chosen by one property is chosen by each that means the same
pub selected_by : {X : Type 0} (P Q : X → Type 0) (xs chosen : List X) → ((x : X) → P x → Q x) → ((x : X) → Q x → P x) → Selects P xs chosen
    → Selects Q xs chosen
selected_by P Q [] chosen on back h = h
selected_by P Q (x ∷ xs) chosen on back (inl (p, (rest, is, h))) = inl (on x p, (rest, is, selected_by P Q xs rest on back h))
selected_by P Q (x ∷ xs) chosen on back (inr (not, h)) = inr (λ q. not (back x q), selected_by P Q xs chosen on back h)
