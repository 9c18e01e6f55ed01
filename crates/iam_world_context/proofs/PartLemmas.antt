-- The parts of the context of a world, and the first that is faulty.
use Rattle.std.proofs.Common.{◌≡◌, inl, inr, ℕ, ◌+◌, ◌<◌, List, [], ◌∷◌, ◌++◌, map, take, drop, get_or, length, suc, zero, true, false, refl, sym, ap, ◌∙◌, subst, arith}
use Rattle.std.specs.List.{AllByRecursion, flat_map}
use Rattle.std.proofs.lemmas.List.{append-nil, append_assoc}
use Rattle.iam_context.specs.Context.{ContextValue, keys_of}
use Rattle.iam_context.specs.ContextFault.{IsClean, IsPartFault}
use Rattle.iam_context.specs.declared.fault.ContextFault.{ContextFault}
use Rattle.iam_shape.specs.First.{with_paths}
use Rattle.iam_shape.specs.declared.path.Name.TheVariants.{Context, Principals, Resources}
use Rattle.iam_shape.specs.declared.path.Path.{Path}
use Rattle.iam_shape.specs.declared.path.Path.TheVariants.{Field, Member}
use Rattle.iam_world_context.specs.Clean.{AllClean, AreClean}
use Rattle.iam_world_context.specs.Contexts.{Beside, IsFaulty, IsFaultyAmong, all_parts, parts_of}
use Rattle.iam_world_context.specs.declared.fault.PartFault.{PartFault}
use Rattle.iam_world_context.specs.declared.fault.PartFault.TheVariants.{At}
use Rattle.iam_world_context.proofs.Lists.{drop_at, first_here, first_later, none_append}

-- this is the fault of the part at this path
abbrev pub IsFaultyPart : Path → List (List ℕ) → ContextValue → PartFault → Type 0
IsFaultyPart path keys part fault = (found : ContextFault) × (fault ≡ At path found) × IsPartFault keys part found

-- a part with a fault is not clean
pub not_clean : (others : List (List ℕ)) (part : ContextValue) (fault : ContextFault) → IsPartFault others part fault → ¬ IsClean others part
not_clean others part fault is clean = let wrong : true ≡ false = sym is.holds ∙ clean fault in cc

-- the first faulty of two lists is that of the first, or else that of the second
pub faulty_here : (front back : List (Path × Beside)) (fault : PartFault) → IsFaultyAmong front fault → IsFaultyAmong (front ++ back) fault
faulty_here front back fault (path, found, is, (beside, first, at)) =
    (path, found, is, (beside, first_here (λ (p : Path × Beside). IsFaulty p.1) front back (path, beside) first, at))

pub faulty_later : (front back : List (Path × Beside)) (fault : PartFault) → AllByRecursion (λ (p : Path × Beside). ¬ IsFaulty p.1) front → IsFaultyAmong back fault
    → IsFaultyAmong (front ++ back) fault
faulty_later front back fault clean (path, found, is, (beside, first, at)) =
    (path, found, is, (beside, first_later (λ (p : Path × Beside). IsFaulty p.1) front back (path, beside) clean first, at))

-- ---- along a list

abbrev pub beside : List (List ℕ) → ContextValue → Beside
beside others part = record { others = others; part = part }

-- the part at i is the first that is faulty
pub part_here : {V : Type 0} (f : V → ContextValue) (others : List (List ℕ)) (at : ℕ → Path) (vs : List V) (i : ℕ) (v : V) (fault : PartFault) → i < length vs → v ≡ get_or vs i v
    → IsFaultyPart (at i) others (f v) fault → IsFaultyAmong (with_paths at i (map (beside others) (map f (drop i vs)))) fault
part_here f others at vs i v fault below is (found, fault_is, holds) =
    subst (λ parts. IsFaultyAmong (with_paths at i (map (beside others) parts)) fault) (sym (drop_at f vs i v below is))
    (at i, found, fault_is, (beside others (f v), inl ((λ clean. not_clean others (f v) found holds clean), refl), holds))

-- the part at i is clean
pub part_later : {V : Type 0} (f : V → ContextValue) (others : List (List ℕ)) (at : ℕ → Path) (vs : List V) (i : ℕ) (v : V) → i < length vs → v ≡ get_or vs i v
    → IsClean others (f v) → (fault : PartFault) → IsFaultyAmong (with_paths at (i + 1) (map (beside others) (map f (drop (i + 1) vs)))) fault
    → IsFaultyAmong (with_paths at i (map (beside others) (map f (drop i vs)))) fault
part_later f others at vs i v below is clean fault (path, found, fault_is, (b, first, holds)) =
    subst (λ parts. IsFaultyAmong (with_paths at i (map (beside others) parts)) fault) (sym (drop_at f vs i v below is))
    (path, found, fault_is, (b, inr ((λ off. off clean), first), holds))

-- clean parts are not faulty
pub clean_parts : (others : List (List ℕ)) (at : ℕ → Path) (i : ℕ) (parts : List ContextValue) → AreClean others parts
    → AllByRecursion (λ (p : Path × Beside). ¬ IsFaulty p.1) (with_paths at i (map (beside others) parts))
clean_parts others at i [] clean = tt
clean_parts others at i (p ∷ ps) clean = ((λ off. off clean.0), clean_parts others at (i + 1) ps clean.1)

-- the parts before i are clean, and so is that at i
pub clean_next : {V : Type 0} (f : V → ContextValue) (others : List (List ℕ)) (vs : List V) (i : ℕ) (v : V) → i < length vs → v ≡ get_or vs i v
    → AreClean others (map f (take i vs)) → IsClean others (f v) → AreClean others (map f (take (i + 1) vs))
clean_next f others [] i v below is clean one = absurd (omega arith)
clean_next f others (x ∷ vs) zero v below is clean one = (subst (λ z. IsClean others (f z)) is one, tt)
clean_next f others (x ∷ vs) (suc i) v below is clean one =
    let rest : i < length vs = omega arith in
    let number : suc (i + 1) ≡ suc i + 1 = omega arith in
    subst (λ n. AreClean others (map f (take n (x ∷ vs)))) number (clean.0, clean_next f others vs i v rest is clean.1 one)

-- ---- the keys of parts

-- those of the parts before i, and those of that at i
pub keys_next : {V : Type 0} (f : V → ContextValue) (before : List (List ℕ)) (vs : List V) (i : ℕ) (v : V) → i < length vs → v ≡ get_or vs i v
    → before ++ flat_map keys_of (map f (take (i + 1) vs)) ≡ before ++ flat_map keys_of (map f (take i vs)) ++ keys_of (f v)
keys_next {V} f before vs i v below is = ap (λ ks. before ++ ks) (next vs i below is) ∙ sym (append_assoc before (flat_map keys_of (map f (take i vs))) (keys_of (f v)))
  where
    next : (vs : List V) (i : ℕ) → i < length vs → v ≡ get_or vs i v → flat_map keys_of (map f (take (i + 1) vs)) ≡ flat_map keys_of (map f (take i vs)) ++ keys_of (f v)
    next [] i below is = absurd (omega arith)
    next (x ∷ vs) zero below is = append-nil (keys_of (f x)) ∙ ap (λ z. keys_of (f z)) (sym is)
    next (x ∷ vs) (suc i) below is =
        let rest : i < length vs = omega arith in
        let number : suc i + 1 ≡ suc (i + 1) = omega arith in
        ap (λ n. flat_map keys_of (map f (take n (x ∷ vs)))) number
        ∙ ap (λ ks. keys_of (f x) ++ ks) (next vs i rest is)
        ∙ sym (append_assoc (keys_of (f x)) (flat_map keys_of (map f (take i vs))) (keys_of (f v)))

-- ---- the parts of a world, in order

pub in_own : (world : ContextValue) (ps rs : List ContextValue) (fault : PartFault) → IsFaultyPart (Member Context) [] world fault
    → IsFaultyAmong (all_parts world ps rs) fault
in_own world ps rs fault (found, is, holds) = (Member Context, found, is, (beside [] world, inl (not_clean [] world found holds, refl), holds))

pub in_principals : (world : ContextValue) (ps rs : List ContextValue) (fault : PartFault) → IsClean [] world
    → IsFaultyAmong (parts_of Principals (keys_of world) ps) fault → IsFaultyAmong (all_parts world ps rs) fault
in_principals world ps rs fault own faulty =
    faulty_later ((Member Context, beside [] world) ∷ []) (parts_of Principals (keys_of world) ps ++ parts_of Resources (keys_of world ++ flat_map keys_of ps) rs) fault
    ((λ off. off own), tt) (faulty_here (parts_of Principals (keys_of world) ps) (parts_of Resources (keys_of world ++ flat_map keys_of ps) rs) fault faulty)

pub in_resources : (world : ContextValue) (ps rs : List ContextValue) (fault : PartFault) → IsClean [] world → AreClean (keys_of world) ps
    → IsFaultyAmong (parts_of Resources (keys_of world ++ flat_map keys_of ps) rs) fault → IsFaultyAmong (all_parts world ps rs) fault
in_resources world ps rs fault own clean faulty =
    faulty_later ((Member Context, beside [] world) ∷ []) (parts_of Principals (keys_of world) ps ++ parts_of Resources (keys_of world ++ flat_map keys_of ps) rs) fault
    ((λ off. off own), tt)
    (faulty_later (parts_of Principals (keys_of world) ps) (parts_of Resources (keys_of world ++ flat_map keys_of ps) rs) fault
    (clean_parts (keys_of world) (λ i. Field Principals i Context) 0 ps clean) faulty)

-- where all are clean, none is faulty
pub none_faulty : (world : ContextValue) (ps rs : List ContextValue) → AllClean world ps rs → AllByRecursion (λ (p : Path × Beside). ¬ IsFaulty p.1) (all_parts world ps rs)
none_faulty world ps rs clean = (
  (λ off. off clean.own),
  none_append (λ (p : Path × Beside). ¬ IsFaulty p.1) (parts_of Principals (keys_of world) ps) (parts_of Resources (keys_of world ++ flat_map keys_of ps) rs)
      (clean_parts (keys_of world) (λ i. Field Principals i Context) 0 ps clean.principals_clean)
      (clean_parts (keys_of world ++ flat_map keys_of ps) (λ i. Field Resources i Context) 0 rs clean.resources_clean),
)

-- the parts of lent contexts are those of what the document says
pub parts_are : {V C X : Type 0} (g : C → ContextValue) (context : V → C) (f : V → X) (h : X → ContextValue) → ((v : V) → g (context v) ≡ h (f v)) → (vs : List V)
    → map g (map context vs) ≡ map h (map f vs)
parts_are g context f h same [] = refl
parts_are g context f h same (v ∷ vs) = ap (λ c. c ∷ map g (map context vs)) (same v) ∙ ap (λ rest. h (f v) ∷ rest) (parts_are g context f h same vs)

-- the same parts have the same first faulty one
pub faulty_same : (w x : ContextValue) (ps qs rs ss : List ContextValue) → w ≡ x → ps ≡ qs → rs ≡ ss → (fault : PartFault) → IsFaultyAmong (all_parts w ps rs) fault
    → IsFaultyAmong (all_parts x qs ss) fault
faulty_same w x ps qs rs ss one two three fault faulty =
    subst (λ y. IsFaultyAmong (all_parts y qs ss) fault) one
    (subst (λ y. IsFaultyAmong (all_parts w y ss) fault) two (subst (λ y. IsFaultyAmong (all_parts w ps y) fault) three faulty))
