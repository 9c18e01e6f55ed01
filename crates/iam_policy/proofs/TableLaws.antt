-- The first line of the table that passes a test has the least number of those that do.
use Rattle.std.proofs.Common.{◌≡◌, ◌≢◌, ◌⊎◌, inl, inr, ℕ, suc, zero, ◌+◌, ◌-◌, ◌≤◌, List, [], ◌∷◌, ◌++◌, Bool, true, false, Option, Some, None, refl, sym, ap, ◌∙◌, arith, cond}
use Rattle.std.specs.List.{find, slice_get}
use Rattle.iam_policy.specs.declared.fault.Fault.{Fault}
use Rattle.iam_policy.specs.declared.fault.Fault.TheVariants.{OutOfMemory}
use Rattle.iam_policy.specs.Table.{number_of, table}

-- where no element passes, each fails
find_none : {X : Type 0} (p : X → Bool) (xs : List X) (k : ℕ) (x : X) → find p xs ≡ None → slice_get xs k ≡ Some x → p x ≡ false
find_none p [] k x e at = cc
find_none p (y ∷ xs) zero x e at = go (p y) refl e
  where
    go : (b : Bool) → p y ≡ b → cond b (Some y) (find p xs) ≡ None → p x ≡ false
    go true same e = cc
    go false same e = let here : y ≡ x = cc in ap p (sym here) ∙ same
find_none p (y ∷ xs) (suc k) x e at = go (p y) (λ rest. find_none p xs k x rest at) e
  where
    go : (b : Bool) → (find p xs ≡ None → p x ≡ false) → cond b (Some y) (find p xs) ≡ None → p x ≡ false
    go true later e = cc
    go false later e = later e

-- the element that is found passes
find_passes : {X : Type 0} (p : X → Bool) (xs : List X) (x : X) → find p xs ≡ Some x → p x ≡ true
find_passes p [] x e = cc
find_passes p (y ∷ xs) x e = go (p y) refl (find_passes p xs x) e
  where
    go : (b : Bool) → p y ≡ b → (find p xs ≡ Some x → p x ≡ true) → cond b (Some y) (find p xs) ≡ Some x → p x ≡ true
    go true same later e = let here : y ≡ x = cc in ap p (sym here) ∙ same
    go false same later e = later e

-- the faults of the list have the numbers from n on
abbrev HaveNumbersFrom : ℕ → List Fault → Type 0
HaveNumbersFrom n [] = Unit {0}
HaveNumbersFrom n (f ∷ fs) = (number_of f ≡ n) × HaveNumbersFrom (suc n) fs

numbered_at : (n : ℕ) (fs : List Fault) (k : ℕ) (f : Fault) → HaveNumbersFrom n fs → slice_get fs k ≡ Some f → number_of f ≡ n + k
numbered_at n [] k f h at = cc
numbered_at n (g ∷ fs) zero f h at = let here : g ≡ f = cc in let number : number_of g ≡ n = h.0 in let same : number_of g ≡ number_of f = ap number_of here in omega arith
numbered_at n (g ∷ fs) (suc k) f h at = let later : number_of f ≡ suc n + k = numbered_at (suc n) fs k f h.1 at in omega arith

-- the first that passes has the least number of those that pass
find_least : (p : Fault → Bool) (n : ℕ) (fs : List Fault) (f g : Fault) (k : ℕ) → HaveNumbersFrom n fs → find p fs ≡ Some f → slice_get fs k ≡ Some g
    → p g ≡ true → number_of f ≤ number_of g
find_least p n [] f g k h e at passes = cc
find_least p n (x ∷ fs) f g k h e at passes = go (p x) refl (λ found j rest. find_least p (suc n) fs f g j h.1 found rest passes) e
  where
    first : (k : ℕ) → number_of x ≡ n → slice_get (x ∷ fs) k ≡ Some g → number_of x ≤ number_of g
    first k number at = let later : number_of g ≡ n + k = numbered_at n (x ∷ fs) k g h at in omega arith

    at_rest : (k : ℕ) → p x ≡ false → slice_get (x ∷ fs) k ≡ Some g → (j : ℕ) × (slice_get fs j ≡ Some g)
    at_rest zero fails at = let here : x ≡ g = cc in let wrong : true ≡ false = sym passes ∙ ap p (sym here) ∙ fails in cc
    at_rest (suc j) fails at = (j, at)

    go : (b : Bool) → p x ≡ b → (find p fs ≡ Some f → (j : ℕ) → slice_get fs j ≡ Some g → number_of f ≤ number_of g)
        → cond b (Some x) (find p fs) ≡ Some f → number_of f ≤ number_of g
    go true same later e = let here : x ≡ f = cc in let least : number_of x ≤ number_of g = first k h.0 at in let equal : number_of x ≡ number_of f = ap number_of here in omega arith
    go false same later e = let rest = at_rest k same at in later e rest.0 rest.1

numbered : HaveNumbersFrom 1 table
numbered = (refl, (refl, (refl, (refl, (refl, (refl, (refl, (refl, (refl, (refl, (refl, (refl, (refl, (refl, (refl, (refl, (refl, (refl, (refl, (refl, (refl, tt)))))))))))))))))))))

-- each fault but want of memory stands in the table
in_table : (f : Fault) → (f ≡ OutOfMemory) ⊎ (slice_get table (number_of f - 1) ≡ Some f)
in_table OutOfMemory = inl refl
in_table _ = inr refl

-- a test that no want of memory passes, and that nothing in the table passes, is passed by no fault
pub none_passes : (p : Fault → Bool) → p OutOfMemory ≡ false → find p table ≡ None → (f : Fault) → p f ≡ false
none_passes p memory e f = elim (in_table f) [ inl is ↦ ap p is ∙ memory | inr at ↦ find_none p table (number_of f - 1) f e at ]

pub least_passes : (p : Fault → Bool) → p OutOfMemory ≡ false → (f : Fault) → find p table ≡ Some f → (g : Fault) → p g ≡ true → number_of f ≤ number_of g
least_passes p memory f e g passes =
    elim (in_table g)
    [ inl is ↦ (let wrong : true ≡ false = sym passes ∙ ap p is ∙ memory in cc) | inr at ↦ find_least p 1 table f g (number_of g - 1) numbered e at passes ]

pub found_passes : (p : Fault → Bool) (f : Fault) → find p table ≡ Some f → p f ≡ true
found_passes p f e = find_passes p table f e

pub found_not_memory : (p : Fault → Bool) → p OutOfMemory ≡ false → (f : Fault) → find p table ≡ Some f → f ≢ OutOfMemory
found_not_memory p memory f e is =
    let holds : p f ≡ true = find_passes p table f e in
    let fails : p f ≡ false = ap p is ∙ memory in
    cc

-- a fault by its number
abbrev nth : ℕ → Option Fault
nth n = slice_get (table ++ (OutOfMemory ∷ [])) (n - 1)

nth_number_of : (f : Fault) → nth (number_of f) ≡ Some f
nth_number_of OutOfMemory = refl
nth_number_of _ = refl

pub same_number : (f g : Fault) → number_of f ≡ number_of g → f ≡ g
same_number f g e = some_is f g (sym (nth_number_of f) ∙ ap nth e ∙ nth_number_of g)
  where
    some_is : (f g : Fault) → Some f ≡ Some g → f ≡ g
    some_is f g e = cc
