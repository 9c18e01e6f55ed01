-- Lists that are read element by element.
use Rattle.std.proofs.Common.{◌≡◌, ℕ, suc, zero, ◌+◌, ◌<◌, List, [], ◌∷◌, ◌++◌, map, length, take, drop, get_or, refl, ap, ◌∙◌, sym, subst, arith}
use Rattle.std.proofs.lemmas.List.{at_drop_more}
use Rattle.std.specs.List.{AllZip}

-- the values of a list from i on: that at i, and the rest
pub drop_at : {X Y : Type 0} (f : X → Y) (xs : List X) (i : ℕ) (x : X) → i < length xs → x ≡ get_or xs i x → map f (drop i xs) ≡ f x ∷ map f (drop (i + 1) xs)
drop_at f xs i x below is = at_drop_more (map f) xs i x below ∙ ap (λ z. f z ∷ map f (drop (i + 1) xs)) (sym is)

-- one more element that is read
pub zip_more : {V D Y : Type 0} (R : D → Y → Type 0) (f : V → D) (vs : List V) (i : ℕ) (v : V) (ys : List Y) (y : Y) → i < length vs → v ≡ get_or vs i v
    → AllZip R (map f (take i vs)) ys → R (f v) y → AllZip R (map f (take (i + 1) vs)) (ys ++ (y ∷ []))
zip_more R f [] i v ys y below is zip r = absurd (omega arith)
zip_more R f (x ∷ vs) zero v [] y below is zip r = (subst (λ z. R (f z) y) is r, tt)
zip_more R f (x ∷ vs) zero v (z ∷ zs) y below is zip r = absurd zip
zip_more R f (x ∷ vs) (suc i) v [] y below is zip r = absurd zip
zip_more R f (x ∷ vs) (suc i) v (z ∷ zs) y below is zip r =
    let rest : i < length vs = omega arith in
    let number : suc (i + 1) ≡ suc i + 1 = omega arith in
    subst (λ n. AllZip R (map f (take n (x ∷ vs))) (z ∷ (zs ++ (y ∷ [])))) number (zip.0, zip_more R f vs i v zs y rest is zip.1 r)

-- where each element has one reading, so has a list
pub zip_unique : {X Y : Type 0} (R : X → Y → Type 0) → ((x : X) (y z : Y) → R x y → R x z → y ≡ z) → (xs : List X) (ys zs : List Y) → AllZip R xs ys → AllZip R xs zs → ys ≡ zs
zip_unique R step [] [] [] one two = refl
zip_unique R step [] [] (z ∷ zs) one two = absurd two
zip_unique R step [] (y ∷ ys) zs one two = absurd one
zip_unique R step (x ∷ xs) [] zs one two = absurd one
zip_unique R step (x ∷ xs) (y ∷ ys) [] one two = absurd two
zip_unique R step (x ∷ xs) (y ∷ ys) (z ∷ zs) one two =
    ap (λ a. a ∷ ys) (step x y z one.0 two.0) ∙ ap (λ rest. z ∷ rest) (zip_unique R step xs ys zs one.1 two.1)

-- a list and what is read of it are as long
pub zip_length : {X Y : Type 0} (R : X → Y → Type 0) (xs : List X) (ys : List Y) → AllZip R xs ys → length xs ≡ length ys
zip_length R [] [] zip = refl
zip_length R [] (y ∷ ys) zip = absurd zip
zip_length R (x ∷ xs) [] zip = absurd zip
zip_length R (x ∷ xs) (y ∷ ys) zip = ap suc (zip_length R xs ys zip.1)

-- what is read of lent values is read of what they say
pub zip_map : {V D Y : Type 0} (R : D → Y → Type 0) (f : V → D) (vs : List V) (ys : List Y) → AllZip (λ v y. R (f v) y) vs ys → AllZip R (map f vs) ys
zip_map R f [] [] zip = tt
zip_map R f [] (y ∷ ys) zip = absurd zip
zip_map R f (v ∷ vs) [] zip = absurd zip
zip_map R f (v ∷ vs) (y ∷ ys) zip = (zip.0, zip_map R f vs ys zip.1)

-- one more element that is read, where nothing is lent
pub zip_whole : {V Y : Type 0} (R : V → Y → Type 0) (vs : List V) (i : ℕ) (v : V) (ys : List Y) (y : Y) → i < length vs → v ≡ get_or vs i v → AllZip R (take i vs) ys → R v y
    → AllZip R (take (i + 1) vs) (ys ++ (y ∷ []))
zip_whole R [] i v ys y below is zip r = absurd (omega arith)
zip_whole R (x ∷ vs) zero v [] y below is zip r = (subst (λ z. R z y) is r, tt)
zip_whole R (x ∷ vs) zero v (z ∷ zs) y below is zip r = absurd zip
zip_whole R (x ∷ vs) (suc i) v [] y below is zip r = absurd zip
zip_whole R (x ∷ vs) (suc i) v (z ∷ zs) y below is zip r =
    let rest : i < length vs = omega arith in
    let number : suc (i + 1) ≡ suc i + 1 = omega arith in
    subst (λ n. AllZip R (take n (x ∷ vs)) (z ∷ (zs ++ (y ∷ [])))) number (zip.0, zip_whole R vs i v zs y rest is zip.1 r)

-- the same where both sides are lent
pub zip_both : {V D Y Z : Type 0} (R : D → Z → Type 0) (f : V → D) (g : Y → Z) (vs : List V) (ys : List Y) → AllZip (λ v y. R (f v) (g y)) vs ys → AllZip R (map f vs) (map g ys)
zip_both R f g [] [] zip = tt
zip_both R f g [] (y ∷ ys) zip = absurd zip
zip_both R f g (v ∷ vs) [] zip = absurd zip
zip_both R f g (v ∷ vs) (y ∷ ys) zip = (zip.0, zip_both R f g vs ys zip.1)
