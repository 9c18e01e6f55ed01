-- What a theft leaves of the passes, and what it tells.
use Rattle.std.proofs.Common.{◌≡◌, ℕ, ◌<◌, List, [], ◌∷◌, ◌++◌, length, map, get_or, set, All, sym, ap, ◌∙◌, subst}
use Rattle.std.proofs.Math.Seq.{map-set_same}
use Rattle.std.proofs.lemmas.List.{map-set, get_or-map}
use Rattle.std.proofs.lemmas.List.Elements.{All-set, All-get_or, All-head}
use Rattle.crossbeam_deque.specs.Handles.{view, SamePass}
use Rattle.crossbeam_deque.specs.Steals.{MatchSteal}
use Rattle.crossbeam_deque.specs.declared.steal.Steal.{Steal}
use Rattle.crossbeam_deque.specs.declared.steal.Steal.TheVariants as deque
use Rattle.iam_work.specs.declared.run.Run.{Run}
use Rattle.iam_work.specs.declared.view.DequeView.{DequeView}
use Rattle.iam_work.specs.declared.stolen.Stolen.{Stolen}
use Rattle.iam_work.specs.Code.RunRule.{with_taken}
use Rattle.iam_work.specs.Work.{IfTook, IfNothing, IsWithin}
use Rattle.iam_work.specs.Code.Fields.{RunPass, pass_deque, pass_taken, IsReady}
use Rattle.iam_work.specs.Code.Thefts.{stolen_of}

-- what a theft says of the view before and after
abbrev Told : Steal Run → DequeView → DequeView → Type 0 → Type 0
Told found v w lost = MatchSteal found ((w ≡ v) × Unit {0}) ((w ≡ v) × lost) (λ run. (w ≡ with_taken (run ∷ []) v) × All (IsWithin v.grains) (run ∷ []))

module _ (found : Steal Run) (v w : DequeView) (lost : Type 0) where
  -- a pass knows the grains as before
  pub still_knows : Told found v w lost → w.grains ≡ v.grains
  still_knows told = knows found told
    where
      knows : (s : Steal Run) → Told s v w lost → w.grains ≡ v.grains
      knows deque.Empty t = ap (λ (u : DequeView). u.grains) t.0
      knows deque.Retry t = ap (λ (u : DequeView). u.grains) t.0
      knows (deque.Success run) t = ap (λ (u : DequeView). u.grains) t.0

  -- a fact that follows from the run that was taken
  pub if_took : (P : Run → Type 0) (answer : Stolen) → answer ≡ stolen_of found → Told found v w lost → ((run : Run) → w ≡ with_taken (run ∷ []) v → IsWithin v.grains run → P run) → IfTook answer P
  if_took P answer is told then = subst (λ a. IfTook a P) (sym is) (took found told)
    where
      took : (s : Steal Run) → Told s v w lost → IfTook (stolen_of s) P
      took deque.Empty t = tt
      took deque.Retry t = tt
      took (deque.Success run) t = then run t.0 (All-head (IsWithin v.grains) run [] t.1)

  -- a fact that follows where nothing was taken
  pub if_nothing : (P : Type 0) (answer : Stolen) → answer ≡ stolen_of found → Told found v w lost → (w ≡ v → P) → IfNothing answer P
  if_nothing P answer is told then = subst (λ a. IfNothing a P) (sym is) (nothing found told)
    where
      nothing : (s : Steal Run) → Told s v w lost → IfNothing (stolen_of s) P
      nothing deque.Empty t = then t.0
      nothing deque.Retry t = then t.0
      nothing (deque.Success run) t = tt

-- the pass that was looked up
pub ready_before : (grains : ℕ) (passes : List RunPass) (from : ℕ) (p : RunPass) → from < length passes → p ≡ get_or passes from p → All (IsReady grains) passes → IsReady grains p
ready_before grains passes from p inside is all = subst (IsReady grains) (sym is) (All-get_or (IsReady grains) passes from p inside all)

module _ (passes : List RunPass) (from : ℕ) (p q : RunPass) (inside : from < length passes) (is : p ≡ get_or passes from p) (same : SamePass p q) where
  -- the deques stay
  pub deques_stay : map pass_deque (set passes from q) ≡ map pass_deque passes
  deques_stay = map-set_same pass_deque passes from q p ((λ i. (same.0 i, same.1 i)) ∙ ap pass_deque is)

  pub ready_after : (grains : ℕ) → All (IsReady grains) passes → (view q).grains ≡ (view p).grains → All (IsReady grains) (set passes from q)
  ready_after grains all knows = All-set (IsReady grains) passes from q (same.3, same.4, knows ∙ (ready_before grains passes from p inside is all).2) all

  -- what was taken, where a run was and where none was
  pub takes_more : (run : Run) → view q ≡ with_taken (run ∷ []) (view p) → map pass_taken (set passes from q) ≡ set (map pass_taken passes) from (get_or (map pass_taken passes) from [] ++ run ∷ [])
  takes_more run took =
      map-set pass_taken passes from q
      ∙ ap (set (map pass_taken passes) from) (ap (λ (u : DequeView). u.taken) took ∙ ap (λ u. pass_taken u ++ run ∷ []) is ∙ ap (λ xs. xs ++ run ∷ []) (sym (get_or-map pass_taken passes from p [] inside)))

  pub takes_none : view q ≡ view p → map pass_taken (set passes from q) ≡ map pass_taken passes
  takes_none nothing = map-set_same pass_taken passes from q p (ap (λ (u : DequeView). u.taken) nothing ∙ ap pass_taken is)
