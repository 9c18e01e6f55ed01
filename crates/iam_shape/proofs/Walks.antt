-- The walk of checks along a list, and what it finds.
use Rattle.std.proofs.Common.{◌≡◌, ℕ, suc, zero, ◌+◌, ◌<◌, List, [], ◌∷◌, ◌++◌, map, length, take, drop, get_or, Bool, true, false, cond, Some, None, refl, ap, ◌∙◌, sym, subst, arith}
use Rattle.std.specs.List.{AllZip}
use Rattle.std.proofs.lemmas.List.{at_drop_more, map-append}
use Rattle.serde_json.specs.Data.{Data}
use Rattle.iam_shape.specs.Shape.{Check, IsShapeFault, first_bad, each}
use Rattle.iam_shape.specs.declared.fault.ShapeFault.{ShapeFault}
use Rattle.iam_shape.specs.declared.fault.ShapeFault.TheVariants.{At, OutOfMemory}
use Rattle.iam_shape.specs.declared.path.Path.{Path}

-- where the first check that fails among some is that among others, so is the fault
pub shape_fault_from : (cs ds : List Check) → ((path : Path) → first_bad cs ≡ Some path → first_bad ds ≡ Some path) → (fault : ShapeFault) → IsShapeFault cs fault → IsShapeFault ds fault
shape_fault_from cs ds step (At path) bad = step path bad
shape_fault_from cs ds step OutOfMemory bad = bad

-- the first check that fails in the first of two lists, or else in the second
pub first_bad_here : (cs ds : List Check) (path : Path) → first_bad cs ≡ Some path → first_bad (cs ++ ds) ≡ Some path
first_bad_here [] ds path e = cc
first_bad_here (c ∷ cs) ds path e = go c.1 (first_bad_here cs ds path) e
  where
    go : (b : Bool) → (first_bad cs ≡ Some path → first_bad (cs ++ ds) ≡ Some path) → cond b (first_bad cs) (Some c.0) ≡ Some path
        → cond b (first_bad (cs ++ ds)) (Some c.0) ≡ Some path
    go true later e = later e
    go false later e = e

pub first_bad_later : (cs ds : List Check) → first_bad cs ≡ None → first_bad (cs ++ ds) ≡ first_bad ds
first_bad_later [] ds e = refl
first_bad_later (c ∷ cs) ds e = go c.1 (first_bad_later cs ds) e
  where
    go : (b : Bool) → (first_bad cs ≡ None → first_bad (cs ++ ds) ≡ first_bad ds) → cond b (first_bad cs) (Some c.0) ≡ None
        → cond b (first_bad (cs ++ ds)) (Some c.0) ≡ first_bad ds
    go true later e = later e
    go false later e = cc

-- the same of three lists of checks: the first that fails is in the second, or in the third
pub first_bad_among : (front among back : List Check) → first_bad front ≡ None → (path : Path) → first_bad among ≡ Some path
    → first_bad (front ++ (among ++ back)) ≡ Some path
first_bad_among front among back clear path bad = first_bad_later front (among ++ back) clear ∙ first_bad_here among back path bad

pub first_bad_behind : (front among back : List Check) → first_bad front ≡ None → first_bad among ≡ None
    → first_bad (front ++ (among ++ back)) ≡ first_bad back
first_bad_behind front among back clear also = first_bad_later front (among ++ back) clear ∙ first_bad_later among back also

-- the values of a list from i on: that at i, and the rest
pub drop_at : {X Y : Type 0} (f : X → Y) (xs : List X) (i : ℕ) (x : X) → i < length xs → x ≡ get_or xs i x → map f (drop i xs) ≡ f x ∷ map f (drop (i + 1) xs)
drop_at f xs i x below is = at_drop_more (map f) xs i x below ∙ ap (λ z. f z ∷ map f (drop (i + 1) xs)) (sym is)

-- the checks of the values from i on: those of that at i, then the others
pub each_here : {X : Type 0} (f : X → Data) (checks : ℕ → Data → List Check) (xs : List X) (i : ℕ) (x : X) (path : Path) → i < length xs → x ≡ get_or xs i x
    → first_bad (checks i (f x)) ≡ Some path → first_bad (each checks i (map f (drop i xs))) ≡ Some path
each_here f checks xs i x path below is bad =
    ap (λ ds. first_bad (each checks i ds)) (drop_at f xs i x below is)
    ∙ first_bad_here (checks i (f x)) (each checks (i + 1) (map f (drop (i + 1) xs))) path bad

pub each_later : {X : Type 0} (f : X → Data) (checks : ℕ → Data → List Check) (xs : List X) (i : ℕ) (x : X) → i < length xs → x ≡ get_or xs i x
    → first_bad (checks i (f x)) ≡ None → first_bad (each checks i (map f (drop i xs))) ≡ first_bad (each checks (i + 1) (map f (drop (i + 1) xs)))
each_later f checks xs i x below is clear =
    ap (λ ds. first_bad (each checks i ds)) (drop_at f xs i x below is)
    ∙ first_bad_later (checks i (f x)) (each checks (i + 1) (map f (drop (i + 1) xs))) clear

-- one more element that is read
pub zip_more : {V D Y : Type 0} (R : D → Y → Type 0) (f : V → D) (vs : List V) (i : ℕ) (v : V) (ys : List Y) (y : Y) → i < length vs → v ≡ get_or vs i v
    → AllZip R (map f (take i vs)) ys → R (f v) y → AllZip R (map f (take (i + 1) vs)) (ys ++ (y ∷ []))
zip_more R f [] i v ys y below is zip r = absurd (omega arith)
zip_more R f (x ∷ vs) zero v [] y below is zip r = (subst (λ z. R (f z) y) is r, tt)
zip_more R f (x ∷ vs) zero v (z ∷ zs) y below is zip r = absurd zip
zip_more R f (x ∷ vs) (suc i) v [] y below is zip r = absurd zip
zip_more R f (x ∷ vs) (suc i) v (z ∷ zs) y below is zip r =
    let rest : i < length vs = omega arith in
    let number : suc (i + 1) ≡ suc i + 1 = omega arith in
    subst (λ n. AllZip R (map f (take n (x ∷ vs))) (z ∷ (zs ++ (y ∷ [])))) number (zip.0, zip_more R f vs i v zs y rest is zip.1 r)

-- the same where what is read is a part of what the code holds
pub zip_more_of : {V D Y Z : Type 0} (R : D → Z → Type 0) (f : V → D) (g : Y → Z) (vs : List V) (i : ℕ) (v : V) (ys : List Y) (y : Y) → i < length vs
    → v ≡ get_or vs i v → AllZip R (map f (take i vs)) (map g ys) → R (f v) (g y) → AllZip R (map f (take (i + 1) vs)) (map g (ys ++ (y ∷ [])))
zip_more_of R f g vs i v ys y below is zip r =
    subst (AllZip R (map f (take (i + 1) vs))) (sym (map-append g ys (y ∷ []))) (zip_more R f vs i v (map g ys) (g y) below is zip r)
