-- Each call on a deque keeps its rule.
use Rattle.std.proofs.Common.{◌≡◌, ◌≢◌, ℕ, zero, suc, ◌+◌, ◌<◌, true, false, true≢false, List, [], ◌∷◌, ◌++◌, length, drop, set, All, Option, None, Some, MatchOption, refl, sym, ap, ◌∙◌, subst, ⊎_elim, arith}
use Rattle.std.proofs.lemmas.List.{length-set}
use Rattle.std.proofs.Math.Seq.{drop-append_seam}
use Rattle.std.proofs.lemmas.List.Elements.{All-nil, All-cons, All-head, All-tail, All-push}
use Rattle.std.proofs.lemmas.Bool.{cases_Bool}
use mathlib.Core.Option.{some, some-injective, some-ne-none}
use lib.ListN.{get_elem?}
use Rattle.crossbeam_deque.specs.Tasks as tasks
use Rattle.crossbeam_deque.proofs.Lists.{at_set, at_snoc}
use Rattle.iam_work.specs.declared.run.Run.{Run}
use Rattle.iam_work.specs.declared.view.DequeView.{DequeView}
use Rattle.iam_work.specs.Code.RunRule.{HoldsRuns, founder, told, cleared, with_pushed, with_taken, accompanied, companion}
use Rattle.iam_work.specs.Work.{IsWithin}
use Rattle.iam_work.proofs.Sums.{found_at}

-- the front and the rest of a list of which all is so
parts : (P : Run → Type 0) (xs ys : List Run) → All P (xs ++ ys) → All P xs × All P ys
parts P [] ys all = (All-nil P, all)
parts P (x ∷ xs) ys all = let t = parts P xs ys (All-tail P x (xs ++ ys) all) in (All-cons P x xs (All-head P x (xs ++ ys) all) t.0, t.1)

-- no run lies within no grain
none_within : (runs : List Run) → All (IsWithin 0) runs → runs ≡ []
none_within [] all = refl
none_within (run ∷ runs) all = let h = All-head (IsWithin 0) run runs all in let some_grain = h.0 in let inside = h.1 in absurd (omega arith)

-- a port's view after another, or the same, has a new view that knows the grains
known_set : (grains port : ℕ) (views : List DequeView) (w : DequeView) → w.grains ≡ grains → ((j : ℕ) (u : DequeView) → get_elem? views j ≡ some u → u.grains ≡ grains)
    → (j : ℕ) (u : DequeView) → get_elem? (set views port w) j ≡ some u → u.grains ≡ grains
known_set grains port views w mine all j u there = ⊎_elim (λ q. subst (λ (x : DequeView). x.grains ≡ grains) q.1 mine) (λ q. all j u q.1) (at_set views port j w u there)

-- where one pass is alone there is no other
no_other : (port j : ℕ) (views : List DequeView) (v u : DequeView) → get_elem? views port ≡ some v → get_elem? views j ≡ some u → j ≢ port → length views ≢ 1
no_other port j views v u at there apart one =
    let here = (found_at views port v v at).0 in
    let other = (found_at views j u u there).0 in
    apart (omega arith)

-- a view that keeps what it knows, is alone only if it was, and then knows what the deque holds
module _ (port : ℕ) (v w : DequeView) (grains_kept : w.grains ≡ v.grains) (alone_kept : w.alone ≡ v.alone) where
  steps : (items later : List Run) (views : List DequeView) → (holds : HoldsRuns items views) → get_elem? views port ≡ some v → All (IsWithin holds.grains) later
      → (items ≡ v.held → later ≡ w.held) → HoldsRuns later (set views port w)
  steps items later views holds at runs held_kept = record {
    grains = holds.grains;
    runs = runs;
    known = known_set holds.grains port views w (grains_kept ∙ holds.known port v at) holds.known;
    alone = λ j u there is. ⊎_elim
        (λ q.
        let was = holds.alone port v at (sym alone_kept ∙ ap (λ (x : DequeView). x.alone) q.1 ∙ is) in
        (length-set views port w ∙ was.0, held_kept was.1 ∙ ap (λ (x : DequeView). x.held) q.1))
        (λ q. absurd (no_other port j views v u at q.1 q.0 (holds.alone j u q.1 is).0))
        (at_set views port j w u there);
  }

-- the worker's view at first
pub begins : HoldsRuns [] (founder ∷ [])
begins = record { grains = 0; runs = All-nil (IsWithin 0); known = knows; alone = only }
  where
    knows : (j : ℕ) (u : DequeView) → get_elem? (founder ∷ []) j ≡ some u → u.grains ≡ 0
    knows zero u there = ap (λ (x : DequeView). x.grains) (sym (some-injective founder u there))
    knows (suc j) u there = absurd (some-ne-none u (sym there))

    only : (j : ℕ) (u : DequeView) → get_elem? (founder ∷ []) j ≡ some u → u.alone ≡ true → (length (founder ∷ []) ≡ 1) × ([] ≡ u.held)
    only zero u there is = (refl, ap (λ (x : DequeView). x.held) (some-injective founder u there))
    only (suc j) u there is = absurd (some-ne-none u (sym there))

-- the run of all grains tells a deque of them that knows of none
pub tells : (port : ℕ) (v : DequeView) (run : Run) → v.grains ≡ 0 → v.alone ≡ true → 0 < run.count
    → tasks.Pushes HoldsRuns port v (run ∷ []) (λ w. w ≡ told (run ∷ []) v)
tells port v run none alone some_grain items views holds at =
    let w : DequeView = told (run ∷ []) v in
    let grains : ℕ = run.first + run.count in
    let was : holds.grains ≡ 0 = sym (holds.known port v at) ∙ none in
    let empty : items ≡ [] = none_within items (subst (λ n. All (IsWithin n) items) was holds.runs) in
    let was_alone = holds.alone port v at alone in (
      w,
      record {
        grains = grains;
        runs = subst (λ xs. All (IsWithin grains) (xs ++ run ∷ [])) (sym empty) (All-cons (IsWithin grains) run [] (some_grain, omega arith) (All-nil (IsWithin grains)));
        known = λ j u there. ⊎_elim
            (λ q. ap (λ (x : DequeView). x.grains) (sym q.1))
            (λ q. absurd (no_other port j views v u at q.1 q.0 was_alone.0))
            (at_set views port j w u there);
        alone = λ j u there is. ⊎_elim
            (λ q. (length-set views port w ∙ was_alone.0, ap (λ xs. xs ++ run ∷ []) was_alone.1 ∙ ap (λ (x : DequeView). x.held) q.1))
            (λ q. absurd (no_other port j views v u at q.1 q.0 was_alone.0))
            (at_set views port j w u there);
      },
      refl,
    )

-- what is left once some runs at the front were taken
left_over : (runs items held : List Run) → runs ++ items ≡ held → items ≡ drop (length runs) held
left_over runs items held is = sym (drop-append_seam runs items) ∙ ap (drop (length runs)) is

pub clears : (port : ℕ) (v : DequeView) → tasks.Takes HoldsRuns port v 1 (λ runs w. w ≡ cleared runs v)
clears port v runs items views some_run few holds at =
    (cleared runs v, steps port v (cleared runs v) refl refl (runs ++ items) items views holds at (parts (IsWithin holds.grains) runs items holds.runs).1 (left_over runs items v.held), refl)

-- an owner that is alone and finds its deque empty knows of no run in it
pub finds_none : (port : ℕ) (v : DequeView) → v.alone ≡ true → tasks.Finds HoldsRuns port v (v.held ≡ [])
finds_none port v alone views holds at = sym (holds.alone port v at alone).1

-- after that run was taken out, or the deque was found empty, it holds nothing
pub emptied : (found : Option Run) (v w : DequeView) (run : Run) → v.alone ≡ true → v.held ≡ run ∷ []
    → MatchOption found ((w ≡ v) × (v.held ≡ [])) (λ x. w ≡ cleared (x ∷ []) v) → (w.alone ≡ true) × (w.held ≡ [])
emptied None v w run alone held rule =
    (ap (λ (u : DequeView). u.alone) rule.0 ∙ alone, ap (λ (u : DequeView). u.held) rule.0 ∙ rule.1)
emptied (Some x) v w run alone held rule =
    (ap (λ (u : DequeView). u.alone) rule ∙ alone, ap (λ (u : DequeView). u.held) rule ∙ ap (drop 1) held)

pub pushes : (port : ℕ) (v : DequeView) (run : Run) → IsWithin v.grains run → tasks.Pushes HoldsRuns port v (run ∷ []) (λ w. w ≡ with_pushed (run ∷ []) v)
pushes port v run inside items views holds at =
    let same = holds.known port v at in (
      with_pushed (run ∷ []) v,
      steps port v (with_pushed (run ∷ []) v) refl refl items (items ++ run ∷ []) views holds at (All-push (IsWithin holds.grains) items run holds.runs (subst (λ n. IsWithin n run) same inside)) (ap (λ xs. xs ++ run ∷ [])),
      refl,
    )

pub takes : (port : ℕ) (v : DequeView) → tasks.Takes HoldsRuns port v 1 (λ runs w. (w ≡ with_taken runs v) × All (IsWithin v.grains) runs)
takes port v runs items views some_run few holds at =
    let t = parts (IsWithin holds.grains) runs items holds.runs in (
      with_taken runs v,
      steps port v (with_taken runs v) refl refl (runs ++ items) items views holds at t.1 (left_over runs items v.held),
      (refl, subst (λ n. All (IsWithin n) runs) (sym (holds.known port v at)) t.0),
    )

pub shares : (port : ℕ) (v : DequeView) → tasks.Forks HoldsRuns port v (accompanied v) (companion v)
shares port v items views holds at =
    let left : List DequeView = set views port (accompanied v) in
    let one : (j : ℕ) (u : DequeView) → get_elem? (left ++ companion v ∷ []) j ≡ some u → u.alone ≡ false = λ j u there. ⊎_elim
    (λ t. lonely j u t)
    (λ q. ap (λ (x : DequeView). x.alone) (sym q))
    (at_snoc left (companion v) u j there) in
    record {
      grains = holds.grains;
      runs = holds.runs;
      known = λ j u there. ⊎_elim
          (λ t. known_set holds.grains port views (accompanied v) (holds.known port v at) holds.known j u t)
          (λ q. ap (λ (x : DequeView). x.grains) (sym q) ∙ holds.known port v at)
          (at_snoc left (companion v) u j there);
      alone = λ j u there is. absurd (true≢false (sym is ∙ one j u there));
    }
  where
    -- each other view was not alone, or this one would be it
    lonely : (j : ℕ) (u : DequeView) → get_elem? (set views port (accompanied v)) j ≡ some u → u.alone ≡ false
    lonely j u there = ⊎_elim
        (λ q. ap (λ (x : DequeView). x.alone) (sym q.1))
        (λ q. ⊎_elim
        (λ is. absurd (no_other port j views v u at q.1 q.0 (holds.alone j u q.1 is).0))
        (λ no. no)
        (cases_Bool u.alone))
        (at_set views port j (accompanied v) u there)
