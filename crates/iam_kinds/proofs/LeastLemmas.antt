-- The first text of each kind is the least that is spelled.
use Rattle.std.proofs.Common.{Bor, ◌≡◌, ◌↔◌, ◌⊎◌, inl, inr, ℕ, ◌<◌, List, [], ◌∷◌, ◌++◌, length, map, get_or, refl, sym, ◌∙◌, subst, append-nil, append_assoc, Some}
use Rattle.std.specs.List.{Contains, slice_get}
use Rattle.iam_kinds.specs.Code.{SameElements, waited_at, waited_in}
use Rattle.iam_kinds.specs.Kinds.{IsBefore}
use Rattle.iam_kinds.specs.Letters.{IsAdded}
use Rattle.iam_kinds.specs.Walk.{AreLeast, AreLetters, IsAt, IsFirstFor, IsFree, IsLive, IsMetFirst, IsReady, IsSpelledFor, IsTriedBehind, IsWalk, machine_at, query_of, shown_in}
use Rattle.iam_kinds.specs.declared.asked.Asked.{Asked}
use Rattle.iam_kinds.specs.declared.asked.Node.{Node}
use Rattle.iam_kinds.specs.declared.walk.Walk.{Walk}
use Rattle.iam_kinds.proofs.BehindLemmas.{letter_is, same_letters}
use Rattle.iam_kinds.proofs.GoLemmas.{AllExpanded, at_slice, fits_live, live_before, slice_at, stands_alike, stands_live, stands_on, stands_sought}
use Rattle.iam_kinds.proofs.OrderLemmas.{before_on, before_trans, not_after_trans}

-- the letters of a node of the walk
pub letters_node : (asked : Asked) (walk : Walk) (head : ℕ) (node : Node) (kept waited : List ℕ) (tails : List (Bor (List ℕ))) (letters : List ℕ)
    → IsWalk asked walk
    → head < length walk.nodes.items → get_or walk.nodes.items head node ≡ node
    → SameElements kept (waited_at asked.table.now.patterns.items node.places.items ++ waited_in node.stage.part) → waited ≡ kept
    → tails ≡ node.tails.items
    → ((c : ℕ) → Contains letters c ↔ (Contains waited c ⊎ IsAdded node.stage waited (map (λ t. t.now) tails) c))
    → AreLetters asked walk letters head
letters_node asked walk head node kept waited tails letters is below here same kept_is tails_is exact = λ other at c.
    let e : node ≡ other = sym here ∙ slice_at walk.nodes.items head other node at in
    let listed = subst (λ (l : List ℕ). SameElements l
    (waited_at asked.table.now.patterns.items node.places.items ++ waited_in node.stage.part)) (sym kept_is) same in
    let behind = letter_is asked node waited (is.nodes node (head, below, here)) listed c in
    let all = subst (λ l. Contains letters c ↔
    (Contains waited c ⊎ IsAdded node.stage waited (map (λ (t : Bor (List ℕ)). t.now) l) c)) tails_is (exact c) in
    subst (λ (n : Node). Contains letters c ↔ IsTriedBehind asked n.text.items c) e
    (λ h. behind.0 (all.0 h), λ h. all.1 (behind.1 h))

-- one letter more
pub first_on : (asked : Asked) (node : Node) (two text : List ℕ) (c : ℕ) → IsReady asked → IsAt asked node
    → IsFirstFor asked node.text.items text
    → IsFirstFor asked two (node.text.items ++ (c ∷ [])) → IsFirstFor asked two (text ++ (c ∷ []))
first_on asked node two text c ready at (s, cases) (r, others) =
    let q = query_of asked in
    let one = node.text.items in
    let on : (u : List ℕ) → IsFree q u → IsFree q (u ++ (c ∷ [])) =
    λ u free w h. free (c ∷ w) (subst (λ (x : List ℕ). Contains q.named x) (append_assoc u (c ∷ []) w) h) in (
      stands_on asked node two text c ready at s r,
      elim cases [
        | inl same ↦
            subst (λ (u : List ℕ). (two ≡ u ++ (c ∷ [])) ⊎
            (IsFree q two × IsFree q (u ++ (c ∷ [])) × IsBefore two (u ++ (c ∷ [])))) same others
        | inr (free, free', before) ↦
            let later : IsBefore (one ++ (c ∷ [])) (text ++ (c ∷ [])) = before_on one text c c before in
            elim others [
              | inl same ↦
                  let first = subst (IsFree q) (sym same) (on one free) in
                  inr (first, on text free', subst (λ (u : List ℕ). IsBefore u (text ++ (c ∷ []))) (sym same) later)
              | inr (first, second, earlier) ↦ inr
                  (first, on text free', before_trans two (one ++ (c ∷ [])) (text ++ (c ∷ [])) earlier later)
            ]
      ],
    )

-- a letter behind a text is one behind the text that is there for it
pub letter_back : (asked : Asked) (one text : List ℕ) (c : ℕ) → IsFirstFor asked one text → IsTriedBehind asked text c
    → IsTriedBehind asked one c
letter_back asked one text c (s, inl same) letter = subst (λ (u : List ℕ). IsTriedBehind asked u c) (sym same) letter
letter_back asked one text c (s, inr (free, free', before)) letter = same_letters asked one text c s free free' letter

-- a spelled text that is gone on with has its node
pub spells : (asked : Asked) (walk : Walk) → IsReady asked → IsWalk asked walk → AllExpanded asked walk
    → (w text : List ℕ) → IsSpelledFor asked (text ++ w) → IsMetFirst asked walk text → IsLive (query_of asked) (text ++ w)
    → IsMetFirst asked walk (text ++ w)
spells asked walk ready is all [] text spelled (node, h, s) live =
    (node, h, subst (IsFirstFor asked node.text.items) (sym (append-nil text)) s)
spells asked walk ready is all (c ∷ w) text spelled (node, h, s) live =
    let at : slice_get walk.nodes.items h.0 ≡ Some node = at_slice walk.nodes.items h.0 node h.1 h.2 in
    let longer : (text ++ (c ∷ [])) ++ w ≡ text ++ (c ∷ w) = append_assoc text (c ∷ []) w in
    let on = subst (IsLive (query_of asked)) (sym longer) live in
    let letter = letter_back asked node.text.items text c s (spelled text w c refl) in
    let next = (all h.0 h.1 node at).letters c letter
    (stands_live asked node.text.items text (c ∷ []) s.0 (live_before (query_of asked) (text ++ (c ∷ [])) w on)) in
    subst (IsMetFirst asked walk) longer
    (spells asked walk ready is all w (text ++ (c ∷ [])) (subst (IsSpelledFor asked) (sym longer) spelled)
    (next.0, next.1, first_on asked node next.0.text.items text c ready (is.nodes node h) s next.2) on)

pub are_least : (asked : Asked) (walk : Walk) → IsReady asked → IsWalk asked walk → IsMetFirst asked walk [] → AllExpanded asked walk
    → AreLeast (machine_at asked) (query_of asked) (shown_in walk)
are_least asked walk ready is root all = record {
  spelled = λ text h. ((is.sought text h).0, is.spelled text h);
  least = λ text s spelled.
      let q = query_of asked in
      let r = spells asked walk ready is all text [] spelled root (fits_live q text s.fits) in
      let stands = r.2.0 in
      let shown = is.covered r.0 r.1 (stands_sought asked r.0.text.items text stands s) in (
        shown.0,
        shown.1,
        stands_alike asked shown.0 r.0.text.items text stands shown.2,
        not_after_trans shown.0 r.0.text.items text shown.3 (elim r.2.1 [
          | inl e ↦ inl e
          | inr b ↦ inr b.2
        ]),
      );
}
