-- What is certain of two, and of what is the same.
use Rattle.std.proofs.Common.{◌≡◌, ◌⊎◌, ◌↔◌, ◌+◌, ◌<◌, ◌≤◌, [], inl, inr, ℕ, List, All, Any, Bool, true, false, IsTrue, arith, get_or, length, refl, subst, sym, take}
use Rattle.std.proofs.lemmas.List.{take_all}
use Rattle.iam_context.specs.Context.{ContextValue}
use Rattle.iam_open.specs.Code.Certain.{Contexts, Tells, both, certain_of, either}
use Rattle.iam_open.proofs.ListLemmas.{all_pushed, none_of_none, push_all, push_some, some_pushed, taken_more}
use Rattle.iam_open.specs.declared.certain.Certain.{Certain}
use Rattle.iam_open.specs.declared.certain.Certain.TheVariants.{Always, Never, Open}

pub tells_both : (a b : Certain) (Are P Q : Contexts) → Tells a Are P → Tells b Are Q → Tells (both a b) Are (λ context. P context × Q context)
tells_both Never b Are P Q p q = λ context is h. p context is h.0
tells_both Always Always Are P Q p q = λ context is. (p context is, q context is)
tells_both Always Never Are P Q p q = λ context is h. q context is h.1
tells_both Always Open Are P Q p q = tt
tells_both Open Never Are P Q p q = λ context is h. q context is h.1
tells_both Open Always Are P Q p q = tt
tells_both Open Open Are P Q p q = tt

pub tells_either : (a b : Certain) (Are P Q : Contexts) → Tells a Are P → Tells b Are Q → Tells (either a b) Are (λ context. P context ⊎ Q context)
tells_either Always b Are P Q p q = λ context is. inl (p context is)
tells_either Never Always Are P Q p q = λ context is. inr (q context is)
tells_either Never Never Are P Q p q = λ context is h. elim h [ inl x ↦ p context is x | inr y ↦ q context is y ]
tells_either Never Open Are P Q p q = tt
tells_either Open Always Are P Q p q = λ context is. inr (q context is)
tells_either Open Never Are P Q p q = tt
tells_either Open Open Are P Q p q = tt

-- the same said of what holds where the other does
pub tells_same : (a : Certain) (Are P Q : Contexts) → ((context : ContextValue) → Are context → P context ↔ Q context) → Tells a Are P → Tells a Are Q
tells_same Always Are P Q same p = λ context is. (same context is).0 (p context is)
tells_same Never Are P Q same p = λ context is h. p context is ((same context is).1 h)
tells_same Open Are P Q same p = tt

-- what holds in all of them or in none, as is known
pub tells_known : (held : Bool) (Are P : Contexts) → ((context : ContextValue) → Are context → IsTrue held ↔ P context) → Tells (certain_of held) Are P
tells_known true Are P known = λ context is. (known context is).0 refl
tells_known false Are P known = λ context is h. let wrong : IsTrue false = (known context is).1 h in cc

-- what is seen to hold in no context
pub tells_seen : (certain : Certain) (Are P : Contexts) → (certain ≡ Open) ⊎ ((certain ≡ Never) × ((context : ContextValue) → ¬ P context))
    → Tells certain Are P
tells_seen certain Are P (inl open') = subst (λ (x : Certain). Tells x Are P) (sym open') tt
tells_seen certain Are P (inr (never, none)) = subst (λ (x : Certain). Tells x Are P) (sym never) (λ context is. none context)

-- and in fewer contexts
pub tells_fewer : (a : Certain) (Are These P : Contexts) → ((context : ContextValue) → These context → Are context) → Tells a Are P → Tells a These P
tells_fewer Always Are These P fewer told = λ context is. told context (fewer context is)
tells_fewer Never Are These P fewer told = λ context is. told context (fewer context is)
tells_fewer Open Are These P fewer told = tt

-- ---- of all of a list, and of some

abbrev Each : Type 0 → Type 1
Each X = ContextValue → X → Type 0

pub tells_all_none : {X : Type 0} (P : Each X) (Are : Contexts) → Tells Always Are (λ context. All (P context) [])
tells_all_none P Are = λ context is k d below. absurd (let wrong : ⊥ = omega (arith, below) in wrong)

pub tells_some_none : {X : Type 0} (P : Each X) (Are : Contexts) → Tells Never Are (λ context. Any (P context) [])
tells_some_none P Are = λ context is some. none_of_none (P context) some

pub tells_all_more : {X : Type 0} (P : Each X) (Are : Contexts) (xs : List X) (i : ℕ) (x : X) (a b : Certain) → i < length xs → x ≡ get_or xs i x
    → Tells a Are (λ context. All (P context) (take i xs)) → Tells b Are (λ context. P context x)
    → Tells (both a b) Are (λ context. All (P context) (take (i + 1) xs))
tells_all_more {X} P Are xs i x a b below at before here =
    let more = taken_more xs i x below at in
    tells_same (both a b) Are (λ context. All (P context) (take i xs) × P context x) (λ context. All (P context) (take (i + 1) xs))
    (λ context is. (
      λ parts. subst (λ (l : List X). All (P context) l) (sym more) (push_all (P context) (take i xs) x parts.0 parts.1),
      λ all. all_pushed (P context) (take i xs) x (subst (λ (l : List X). All (P context) l) more all),
    ))
    (tells_both a b Are (λ context. All (P context) (take i xs)) (λ context. P context x) before here)

pub tells_some_more : {X : Type 0} (P : Each X) (Are : Contexts) (xs : List X) (i : ℕ) (x : X) (a b : Certain) → i < length xs → x ≡ get_or xs i x
    → Tells a Are (λ context. Any (P context) (take i xs)) → Tells b Are (λ context. P context x)
    → Tells (either a b) Are (λ context. Any (P context) (take (i + 1) xs))
tells_some_more {X} P Are xs i x a b below at before here =
    let more = taken_more xs i x below at in
    tells_same (either a b) Are (λ context. Any (P context) (take i xs) ⊎ P context x) (λ context. Any (P context) (take (i + 1) xs))
    (λ context is. (
      λ parts. subst (λ (l : List X). Any (P context) l) (sym more) (push_some (P context) (take i xs) x parts),
      λ some. some_pushed (P context) (take i xs) x (subst (λ (l : List X). Any (P context) l) more some),
    ))
    (tells_either a b Are (λ context. Any (P context) (take i xs)) (λ context. P context x) before here)

pub tells_taken_all : {X : Type 0} (P : Each X) (Are : Contexts) (xs : List X) (i : ℕ) (a : Certain) → length xs ≤ i
    → Tells a Are (λ context. All (P context) (take i xs)) → Tells a Are (λ context. All (P context) xs)
tells_taken_all {X} P Are xs i a past told = subst (λ (l : List X). Tells a Are (λ context. All (P context) l)) (take_all i xs past) told

pub tells_taken_some : {X : Type 0} (P : Each X) (Are : Contexts) (xs : List X) (i : ℕ) (a : Certain) → length xs ≤ i
    → Tells a Are (λ context. Any (P context) (take i xs)) → Tells a Are (λ context. Any (P context) xs)
tells_taken_some {X} P Are xs i a past told = subst (λ (l : List X). Tells a Are (λ context. Any (P context) l)) (take_all i xs past) told
