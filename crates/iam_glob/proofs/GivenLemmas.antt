-- Patterns without wildcards: they match the text that they are.
use Rattle.std.proofs.Common.{◌≡◌, ℕ, List, [], ◌∷◌, map, refl}
use Rattle.std.proofs.lemmas.List.Elements.{All-nil, All-head, All-tail, All-cons}
use Rattle.iam_glob.specs.Glob.{Equals, sign_by}
use Rattle.iam_glob.specs.Code.Walk.{AreGiven, IsGiven, Walks}
use Rattle.iam_glob.specs.declared.sign.Sign.{Sign}
use Rattle.iam_glob.specs.declared.sign.Sign.TheVariants.{Given, One, Any}

-- a pattern that is a text has given characters alone
pub equal_given : (f : ℕ → ℕ) (signs : List Sign) (text : List ℕ) → Equals (map (sign_by f) signs) text → AreGiven signs
equal_given f [] text e = All-nil IsGiven
equal_given f (Given c ∷ signs) [] e = cc
equal_given f (Given c ∷ signs) (d ∷ text) e = All-cons IsGiven (Given c) signs tt (equal_given f signs text cc)
equal_given f (One ∷ signs) [] e = cc
equal_given f (One ∷ signs) (d ∷ text) e = cc
equal_given f (Any ∷ signs) [] e = cc
equal_given f (Any ∷ signs) (d ∷ text) e = cc

-- the walk of such a pattern
pub given_walks : (f : ℕ → ℕ) (signs : List Sign) (text : List ℕ) → AreGiven signs → Walks f signs text → Equals (map (sign_by f) signs) (map f text)
given_walks f [] [] given w = refl
given_walks f [] (d ∷ text) given w = absurd w
given_walks f (Given c ∷ signs) [] given w = absurd w
given_walks f (Given c ∷ signs) (d ∷ text) given w =
    let rest = given_walks f signs text (All-tail IsGiven (Given c) signs given) w.1 in
    let here = w.0 in cc
given_walks f (One ∷ signs) text given w = absurd (All-head IsGiven One signs given)
given_walks f (Any ∷ signs) text given w = absurd (All-head IsGiven Any signs given)

-- a pattern that is a text walks along it
pub equal_walks : (f : ℕ → ℕ) (signs : List Sign) (text : List ℕ) → Equals (map (sign_by f) signs) (map f text) → Walks f signs text
equal_walks f [] [] e = tt
equal_walks f [] (d ∷ text) e = cc
equal_walks f (Given c ∷ signs) [] e = cc
equal_walks f (Given c ∷ signs) (d ∷ text) e = let rest = equal_walks f signs text cc in let here : f c ≡ f d = cc in (here, rest)
equal_walks f (One ∷ signs) [] e = cc
equal_walks f (One ∷ signs) (d ∷ text) e = cc
equal_walks f (Any ∷ signs) [] e = cc
equal_walks f (Any ∷ signs) (d ∷ text) e = cc
