-- The letters behind the text of a node.
use Rattle.std.proofs.Common.{◌≡◌, ◌↔◌, ◌⊎◌, inl, inr, ℕ, Bool, true, false, ◌==◌, not, List, [], ◌∷◌, ◌++◌, refl, sym, ap, ◌∙◌, subst, Option, Some, None, is_some}
use Rattle.std.specs.List.{Contains, filter_map}
use Rattle.std.specs.Option.{option_map_or}
use Rattle.std.proofs.lemmas.Bool.{eqb-true}
use Rattle.iam_kinds.specs.Code.{SameElements, next_stage, rest_at, waited_at, waited_in, waits_for}
use Rattle.iam_kinds.specs.Letters.{IsAdded, IsFreeAt, IsOtherAt, begins_with, goes_on, is_other, is_waited}
use Rattle.iam_kinds.specs.Spelled.{IsAwaited, IsFreeOther, IsOther}
use Rattle.iam_kinds.specs.Walk.{IsAt, IsFree, IsTriedBehind, StandsFor, completes, machine_at, query_of, tails_at}
use Rattle.iam_kinds.specs.declared.asked.Asked.{Asked}
use Rattle.iam_kinds.specs.declared.asked.Node.{Node}
use Rattle.iam_kinds.specs.declared.grammar.Stage.{Stage}
use Rattle.iam_kinds.specs.declared.table.Place.{Place}
use Rattle.iam_kinds.proofs.Members.{In, from_any, in_append, in_left, in_of, in_right, of_in}
use Rattle.iam_kinds.proofs.NodeLemmas.{some_end}
use Rattle.iam_kinds.proofs.PlaceLemmas.{both}
use Rattle.iam_kinds.proofs.SpelledLemmas.{first_same}
use Rattle.iam_kinds.proofs.StateLemmas.{free_unnamed, goes_some, in_waited, true_not, unwaited}

-- ---- what is waited for
pub from_waited : {A : Type 0} (f : A → Option ℕ) (xs : List A) (d : ℕ) → In d (filter_map f xs) → (x : A) × In x xs × (f x ≡ Some d)
from_waited f [] d h = absurd h
from_waited {A} f (y ∷ xs) d h = by_option f y xs d (from_waited f xs d) (f y) refl h
  where
    by_option : (f : A → Option ℕ) (y : A) (xs : List A) (d : ℕ) → (In d (filter_map f xs) → (x : A) × In x xs × (f x ≡ Some d))
        → (o : Option ℕ) → f y ≡ o
        → In d (filter_map f (y ∷ xs)) → (x : A) × In x (y ∷ xs) × (f x ≡ Some d)
    by_option f y xs d later None s h = let r = later (rw s at h) in (r.0, inr r.1, r.2)
    by_option f y xs d later (Some e) s h = elim (rw s at h) [
      | inl same ↦ (y, inl refl, s ∙ ap Some same)
      | inr k ↦ let r = later k in (r.0, inr r.1, r.2)
    ]

abbrev pub AreWaited : Asked → Node → List ℕ → Type 0
AreWaited asked node waited = SameElements waited (waited_at asked.table.now.patterns.items node.places.items ++ waited_in node.stage.part)

pub awaited : (asked : Asked) (node : Node) (waited : List ℕ) → IsAt asked node → AreWaited asked node waited
    → (c : ℕ) → Contains waited c ↔ IsAwaited (machine_at asked) node.text.items c
awaited asked node waited at same c =
    let t = asked.table.now.patterns.items in
    let places = waited_at t node.places.items in
    let part = waited_in node.stage.part in (
      λ h. elim (in_append places part c (in_of _ c ((same c).0 h))) [
        | inl p ↦
            let r = from_waited (λ (k : Place). waits_for (rest_at t k)) node.places.items c p in
            inl (r.0, (at.placed r.0).0 (of_in node.places.items r.0 r.1), r.2)
        | inr g ↦ inr (node.stage, at.read, of_in part c g)
      ],
      λ a. (same c).1 (of_in _ c (elim a [
        | inl (k, p, e) ↦
            in_left places part c
            (in_waited (λ (k : Place). waits_for (rest_at t k)) node.places.items k c (in_of node.places.items k ((at.placed k).1 p)) e)
        | inr (stage, read, h) ↦
            let both_read : Some stage ≡ Some node.stage = sym read ∙ at.read in
            let e : stage ≡ node.stage = cc in
            in_right places part c (in_of part c (subst (λ (s : Stage). Contains (waited_in s.part) c) e h))
      ])),
    )

-- ---- the others
pub no_waiting : (waited : List ℕ) (c : ℕ) → (Contains waited c → ⊥) → is_waited waited c ≡ false
no_waiting waited c none = by_test waited c none (is_waited waited c) refl
  where
    by_test : (waited : List ℕ) (c : ℕ) → (Contains waited c → ⊥) → (b : Bool) → is_waited waited c ≡ b → is_waited waited c ≡ false
    by_test waited c none true e =
        let r = from_any (λ d. d == c) waited e in
        absurd (none (of_in waited c (subst (λ d. In d waited) (eqb-true r.0 c r.2) r.1)))
    by_test waited c none false e = e

pub some_stage : (o : Option Stage) → is_some o ≡ true → (s : Stage) × (o ≡ Some s)
some_stage None e = absurd (cc)
some_stage (Some s) e = (s, refl)

pub other_is : (asked : Asked) (node : Node) (waited : List ℕ) → IsAt asked node → AreWaited asked node waited
    → (c : ℕ) → IsOtherAt node.stage waited c ↔ IsOther (machine_at asked) node.text.items c
other_is asked node waited at same c =
    let a = awaited asked node waited at same c in (
      λ (scalar, e).
          let b = both (is_some (next_stage node.stage c)) (not (is_waited waited c)) e in
          let s = some_stage (next_stage node.stage c) b.0 in
          let w = some_end s.0 in
          let goes : completes (c ∷ w.0) node.stage ≡ true = ap (λ o. option_map_or (completes w.0) o false) s.1 ∙ w.1 in (
            scalar,
            λ h. unwaited waited c c (true_not (is_waited waited c) b.1) (in_of waited c (a.1 h)) refl,
            (w.0, (at.stage (c ∷ w.0)).1 goes),
          ),
      λ (scalar, none, (rest, h)).
          let goes : is_some (next_stage node.stage c) ≡ true = goes_some node.stage c rest ((at.stage (c ∷ rest)).0 h) in
          let free : is_waited waited c ≡ false = no_waiting waited c (λ w. none (a.0 w)) in
          (scalar, rw (goes, free) refl),
    )

pub not_named : (tails : List (List ℕ)) (c : ℕ) → ((rest : List ℕ) → Contains tails (c ∷ rest) → ⊥) → goes_on tails c ≡ false
not_named tails c none = by_test tails c none (goes_on tails c) refl
  where
    begun : (c : ℕ) (tail : List ℕ) → begins_with c tail ≡ true → (rest : List ℕ) × (tail ≡ c ∷ rest)
    begun c [] e = absurd (cc)
    begun c (d ∷ tail) e = (tail, ap (λ x. x ∷ tail) (eqb-true d c e))

    by_test : (tails : List (List ℕ)) (c : ℕ) → ((rest : List ℕ) → Contains tails (c ∷ rest) → ⊥) → (b : Bool) → goes_on tails c ≡ b
        → goes_on tails c ≡ false
    by_test tails c none true e =
        let r = from_any (begins_with c) tails e in
        let s = begun c r.0 r.2 in
        absurd (none s.0 (of_in tails (c ∷ s.0) (subst (λ (t : List ℕ). In t tails) s.1 r.1)))
    by_test tails c none false e = e

pub free_is : (asked : Asked) (node : Node) (waited : List ℕ) → IsAt asked node → AreWaited asked node waited
    → (c : ℕ) → IsFreeAt node.stage waited (tails_at node) c ↔ IsFreeOther (machine_at asked) (query_of asked).named node.text.items c
free_is asked node waited at same c =
    let other = other_is asked node waited at same c in (
      λ (scalar, e).
          let b = both (is_other node.stage waited c) (not (goes_on (tails_at node) c)) e in (
            other.0 (scalar, b.0),
            λ rest h. free_unnamed (tails_at node) c rest (true_not (goes_on (tails_at node) c) b.1) ((at.tails (c ∷ rest)).0 h),
          ),
      λ (o, none).
          let is = other.1 o in
          let goes : is_other node.stage waited c ≡ true = is.1 in
          let free : goes_on (tails_at node) c ≡ false = not_named (tails_at node) c (λ rest h. none rest ((at.tails (c ∷ rest)).1 h)) in
          (is.0, rw (goes, free) refl),
    )

-- the letters that are tried at a node are those behind its text
pub letter_is : (asked : Asked) (node : Node) (waited : List ℕ) → IsAt asked node → AreWaited asked node waited
    → (c : ℕ) → (Contains waited c ⊎ IsAdded node.stage waited (tails_at node) c) ↔ IsTriedBehind asked node.text.items c
letter_is asked node waited at same c =
    let free = free_is asked node waited at same in
    let F : ℕ → Type 0 = IsFreeAt node.stage waited (tails_at node) in
    let G : ℕ → Type 0 = IsFreeOther (machine_at asked) (query_of asked).named node.text.items in (
      λ h. elim h [
        | inl w ↦ inl ((awaited asked node waited at same c).0 w)
        | inr a ↦ inr (elim a [
          | inl first ↦ inl (first_same F G c (λ d. (free d).0) (λ d. (free d).1) first)
          | inr none ↦ inr (λ d g. none.0 d ((free d).1 g), (other_is asked node waited at same c).0 none.1)
        ])
      ],
      λ h. elim h [
        | inl w ↦ inl ((awaited asked node waited at same c).1 w)
        | inr a ↦ inr (elim a [
          | inl first ↦ inl (first_same G F c (λ d. (free d).1) (λ d. (free d).0) first)
          | inr none ↦ inr (λ d f. none.0 d ((free d).0 f), (other_is asked node waited at same c).1 none.1)
        ])
      ],
    )

-- ---- letters behind two texts of one state, with neither of which a named text begins
pub same_letters : (asked : Asked) (one text : List ℕ) (c : ℕ) → StandsFor asked one text → IsFree (query_of asked) one
    → IsFree (query_of asked) text
    → IsTriedBehind asked text c → IsTriedBehind asked one c
same_letters asked one text c s free free' letter =
    let m = machine_at asked in
    let named = (query_of asked).named in
    let waits : (d : ℕ) → IsAwaited m text d → IsAwaited m one d =
    λ d a. elim a [
      | inl (k, p, e) ↦ inl (k, (s.state.places k).0 p, e)
      | inr (stage, read, h) ↦ inr (stage, sym s.state.stage ∙ read, h)
    ] in
    let waited : (d : ℕ) → IsAwaited m one d → IsAwaited m text d =
    λ d a. elim a [
      | inl (k, p, e) ↦ inl (k, (s.state.places k).1 p, e)
      | inr (stage, read, h) ↦ inr (stage, s.state.stage ∙ read, h)
    ] in
    let other : (d : ℕ) → IsOther m text d → IsOther m one d =
    λ d (scalar, none, (rest, h)). (scalar, λ a. none (waited d a), (rest, (s.grammar (d ∷ rest)).0 h)) in
    let back : (d : ℕ) → IsOther m one d → IsOther m text d =
    λ d (scalar, none, (rest, h)). (scalar, λ a. none (waits d a), (rest, (s.grammar (d ∷ rest)).1 h)) in
    let to : (d : ℕ) → IsFreeOther m named text d → IsFreeOther m named one d = λ d (o, none). (other d o, λ rest h. free (d ∷ rest) h) in
    let from : (d : ℕ) → IsFreeOther m named one d → IsFreeOther m named text d = λ d (o, none). (back d o, λ rest h. free' (d ∷ rest) h) in
    elim letter [
      | inl a ↦ inl (waits c a)
      | inr a ↦ inr (elim a [
        | inl first ↦ inl (first_same (IsFreeOther m named text) (IsFreeOther m named one) c to from first)
        | inr none ↦ inr (λ d f. none.0 d (from d f), other c none.1)
      ])
    ]
