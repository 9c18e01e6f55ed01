-- Slots, one for each tile, as outputs are put into them, and the outputs of all tiles as they are made of the slots.
use Rattle.std.proofs.Common.{◌≡◌, ℕ, zero, suc, Option, None, Some, ◌<◌, Contains, List, [], ◌∷◌, ◌++◌, length, set, replicate, slice_get, ◌⊎◌, inl, inr, refl, sym, ap, ◌∙◌, subst, ⊎_elim, arith}
use Rattle.std.proofs.lemmas.Option.{same_Some, none-some}
use Rattle.std.proofs.lemmas.List.Elements.{All-nil, All-push, All-weaker, Contains-push, Contains-append_left}
use Rattle.iam_crew.specs.declared.worker.Made.{Made}
use Rattle.iam_crew.specs.Code.Order.{IsPlaced, IsFilled, IsKept, IsCompleted, AreBrought, made_of}

module _ {X : Type 0} where
  -- what stands in a list after one place was written
  get_set : (xs : List X) (i j : ℕ) (x y : X) → slice_get (set xs i x) j ≡ Some y → ((i ≡ j) × (x ≡ y)) ⊎ (slice_get xs j ≡ Some y)
  get_set [] i j x y h = inr h
  get_set (z ∷ zs) zero zero x y h = inl (refl, same_Some x y h)
  get_set (z ∷ zs) zero (suc j) x y h = inr h
  get_set (z ∷ zs) (suc i) zero x y h = inr h
  get_set (z ∷ zs) (suc i) (suc j) x y h = ⊎_elim (λ e. inl (ap suc e.0, e.1)) (λ e. inr e) (get_set zs i j x y h)

  -- what was written stands in its place, and what stood in another is as it was
  set_here : (xs : List X) (i : ℕ) (x : X) → i < length xs → slice_get (set xs i x) i ≡ Some x
  set_here [] i x inside = absurd (omega arith)
  set_here (z ∷ zs) zero x inside = refl
  set_here (z ∷ zs) (suc i) x inside = set_here zs i x (omega arith)

  set_there : (xs : List X) (i j : ℕ) (x y : X) → slice_get xs j ≡ Some y → (i ≡ j) ⊎ (slice_get (set xs i x) j ≡ Some y)
  set_there [] i j x y h = inr h
  set_there (z ∷ zs) zero zero x y h = inl refl
  set_there (z ∷ zs) zero (suc j) x y h = inr h
  set_there (z ∷ zs) (suc i) zero x y h = inr h
  set_there (z ∷ zs) (suc i) (suc j) x y h = ⊎_elim (λ e. inl (ap suc e)) (λ e. inr e) (set_there zs i j x y h)

  -- what stands in a list with one more at its end
  get_push : (xs : List X) (i : ℕ) (x y : X) → slice_get (xs ++ x ∷ []) i ≡ Some y → ((length xs ≡ i) × (x ≡ y)) ⊎ (slice_get xs i ≡ Some y)
  get_push [] zero x y h = inl (refl, same_Some x y h)
  get_push [] (suc i) x y h = inr h
  get_push (z ∷ zs) zero x y h = inr h
  get_push (z ∷ zs) (suc i) x y h = ⊎_elim (λ e. inl (ap suc e.0, e.1)) (λ e. inr e) (get_push zs i x y h)

  get_before : (xs : List X) (i : ℕ) (x y : X) → slice_get xs i ≡ Some y → slice_get (xs ++ x ∷ []) i ≡ Some y
  get_before [] i x y h = absurd (none-some y h)
  get_before (z ∷ zs) zero x y h = h
  get_before (z ∷ zs) (suc i) x y h = get_before zs i x y h

  get_last : (xs : List X) (x : X) → slice_get (xs ++ x ∷ []) (length xs) ≡ Some x
  get_last [] x = refl
  get_last (z ∷ zs) x = get_last zs x

  -- slots without an output have none
  no_output : (n k : ℕ) (x : X) → slice_get (replicate n (let o : Option X = None in o)) k ≡ Some (Some x) → ⊥
  no_output zero k x h = none-some (Some x) h
  no_output (suc n) zero x h = none-some x (same_Some None (Some x) h)
  no_output (suc n) (suc k) x h = no_output n k x h

module _ {O : Type 0} where
  pub placed_none : (n : ℕ) → IsPlaced (replicate n (let o : Option O = None in o)) []
  placed_none n = record {
    from = λ tile output h. absurd (no_output n tile output h);
    filled = All-nil (λ (m : Made O). IsFilled (replicate n (let o : Option O = None in o)) m.tile);
  }

  made_same : (one : Made O) (tile : ℕ) (output : O) → one.tile ≡ tile → one.output ≡ output → one ≡ made_of tile output
  made_same one tile output same_tile same_output = ap (λ t. made_of t one.output) same_tile ∙ ap (λ o. made_of tile o) same_output

  -- a slot that has an output has one after another was put into a slot
  filled_more : (slots : List (Option O)) (tile i : ℕ) (output : O) → i < length slots → IsFilled slots tile → IsFilled (set slots i (Some output)) tile
  filled_more slots tile i output inside filled = ⊎_elim
      (λ same. (output, subst (λ k. slice_get (set slots i (Some output)) k ≡ Some (Some output)) same (set_here slots i (Some output) inside)))
      (λ other. (filled.0, other))
      (set_there slots i tile (Some output) (Some filled.0) filled.1)

  -- one more output put into its slot
  pub placed_more : (slots : List (Option O)) (made : List (Made O)) (one : Made O) → one.tile < length slots → IsPlaced slots made
      → IsPlaced (set slots one.tile (Some one.output)) (made ++ one ∷ [])
  placed_more slots made one inside placed = record {
    filled =
        let after = set slots one.tile (Some one.output) in
        All-push (λ (m : Made O). IsFilled after m.tile) made one
        (All-weaker (λ (m : Made O). IsFilled slots m.tile) (λ (m : Made O). IsFilled after m.tile)
        (λ m filled. filled_more slots m.tile one.tile one.output inside filled) made placed.filled)
        (one.output, set_here slots one.tile (Some one.output) inside);
    from = λ tile output h. ⊎_elim
        (λ e. subst (λ (m : Made O). Contains (made ++ one ∷ []) m) (made_same one tile output e.0 (same_Some one.output output e.1)) (Contains-push made one))
        (λ e. Contains-append_left made (one ∷ []) (made_of tile output) (placed.from tile output e))
        (get_set slots one.tile tile (Some one.output) (Some output) h);
  }

  -- the output of one more slot, at a floor that has not risen
  pub completed_more : (gives : ℕ → O → ℕ → Type 0) (floor lower : ℕ) (slots : List (Option O)) (outputs : List O) (slot : Option O) (output : O)
      → ((tile : ℕ) (o : O) → gives tile o floor → gives tile o lower)
      → length outputs ≡ length slots
      → (slot ≡ Some output) ⊎ gives (length outputs) output lower
      → ((brought : O) → slot ≡ Some brought → output ≡ brought)
      → IsCompleted gives floor slots outputs
      → IsCompleted gives lower (slots ++ slot ∷ []) (outputs ++ output ∷ [])
  completed_more gives floor lower slots outputs slot output lasts count here same so_far =
      let At : ℕ → O → Type 0 = λ k o. (slice_get (slots ++ slot ∷ []) k ≡ Some (Some o)) ⊎ gives k o lower in
      record {
        each = λ tile o h. ⊎_elim
            (λ e. subst (λ k. At k o) e.0 (subst (λ p. At (length outputs) p) e.1
            (⊎_elim
            (λ brought. inl (subst (λ k. slice_get (slots ++ slot ∷ []) k ≡ Some (Some output)) (sym count) (get_last slots slot ∙ ap (λ s. Some s) brought)))
            (λ given. inr given)
            here)))
            (λ e. ⊎_elim
            (λ brought. inl (get_before slots tile slot (Some o) brought))
            (λ given. inr (lasts tile o given))
            (so_far.each tile o e))
            (get_push outputs tile output o h);
        kept = λ tile o h. ⊎_elim
            (λ e. subst (λ k. slice_get (outputs ++ output ∷ []) k ≡ Some o) (count ∙ e.0)
            (get_last outputs output ∙ ap (λ p. Some p) (same o e.1)))
            (λ e. get_before outputs tile output o (so_far.kept tile o e))
            (get_push slots tile slot (Some o) h);
      }

  -- what was placed, and kept, was brought
  pub brought_all : (slots : List (Option O)) (made : List (Made O)) (outputs : List O) → IsPlaced slots made → IsKept slots outputs → AreBrought made outputs
  brought_all slots made outputs placed kept =
      All-weaker (λ (m : Made O). IsFilled slots m.tile)
      (λ (m : Made O). (output : O) × (slice_get outputs m.tile ≡ Some output) × Contains made (made_of m.tile output))
      (λ m filled. (filled.0, kept m.tile filled.0 filled.1, placed.from m.tile filled.0 filled.1))
      made placed.filled
