-- Patterns in which each wildcard is given as a character.
use Rattle.std.proofs.Common.{◌≡◌, ◌≢◌, ℕ, Bool, true, false, ◌==◌, ◌&&◌, ◌||◌, ◌∙◌, ap, subst, sym, refl, List, [], ◌∷◌, if◌then◌else◌, map, arith}
use Rattle.std.proofs.lemmas.List.Elements.{All-head, All-tail}
use Rattle.iam_glob.specs.Glob.{Matches, plain_sign, wild_sign}
use Rattle.iam_glob.specs.Code.Walk.{Walks}
use Rattle.iam_glob.specs.declared.sign.Sign.TheVariants.{Given, One, Any}
use Rattle.iam_glob.proofs.WalkLemmas.{kept_matches}
use Rattle.iam_selection.specs.Selection.{is_escapable, signs_of}
use Rattle.iam_selection.specs.Laws.{EachTextIsNamed, ReadsAsPolicies, escaped}

walks_name : (name text : List ℕ) → Walks (λ c. c) (map plain_sign name) text → text ≡ name
walks_name [] [] w = refl
walks_name [] (d ∷ text) w = absurd w
walks_name (c ∷ name) [] w = absurd w
walks_name (c ∷ name) (d ∷ text) w = let rest = walks_name name text w.1 in let here = w.0 in cc

name_walks : (name : List ℕ) → Walks (λ c. c) (map plain_sign name) name
name_walks [] = tt
name_walks (c ∷ name) = (refl, name_walks name)

-- a character that no `\` gives is none of the three
no_wild : (c : ℕ) → is_escapable c ≡ false → wild_sign c ≡ plain_sign c
no_wild c e = three (c == 42) (c == 63) (c == 92) e
  where
    three : (star one back : Bool) → (star || (one || back)) ≡ false
        → (if star then Any else (if one then One else Given c)) ≡ Given c
    three true one back e = cc
    three false true back e = cc
    three false false back e = refl

-- nor a `\`
no_escape : (c : ℕ) → is_escapable c ≡ false → (c == 92) ≡ false
no_escape c e = three (c == 42) (c == 63) (c == 92) e
  where
    three : (star one back : Bool) → (star || (one || back)) ≡ false → back ≡ false
    three true one back e = cc
    three false true back e = cc
    three false false back e = e

-- the first sign of such a character
first_plain : (c : ℕ) (rest : List ℕ) → is_escapable c ≡ false → signs_of (c ∷ rest) ≡ plain_sign c ∷ signs_of rest
first_plain c [] e = ap (λ s. s ∷ []) (no_wild c e)
first_plain c (d ∷ rest) e =
    ap (λ b. if b && is_escapable d then plain_sign d ∷ signs_of rest else wild_sign c ∷ signs_of (d ∷ rest)) (no_escape c e)
    ∙ ap (λ s. s ∷ signs_of (d ∷ rest)) (no_wild c e)

-- the signs of an escaped text, by those of what stands behind its first character
escaped_more : (c : ℕ) (name : List ℕ) (b : Bool) → is_escapable c ≡ b → signs_of (escaped name) ≡ map plain_sign name
    → signs_of (escaped (c ∷ name)) ≡ map plain_sign (c ∷ name)
escaped_more c name true e rest =
    ap (λ b. signs_of (if b then 92 ∷ c ∷ escaped name else c ∷ escaped name)) e
    ∙ ap (λ b. if b then plain_sign c ∷ signs_of (escaped name) else wild_sign 92 ∷ signs_of (c ∷ escaped name)) e
    ∙ ap (λ s. plain_sign c ∷ s) rest
escaped_more c name false e rest =
    ap (λ b. signs_of (if b then 92 ∷ c ∷ escaped name else c ∷ escaped name)) e
    ∙ first_plain c (escaped name) e
    ∙ ap (λ s. plain_sign c ∷ s) rest

signs_escaped : (name : List ℕ) → signs_of (escaped name) ≡ map plain_sign name
signs_escaped [] = refl
signs_escaped (c ∷ name) = escaped_more c name (is_escapable c) refl (signs_escaped name)

pub each_text_is_named : EachTextIsNamed
each_text_is_named name text =
    let signs = signs_escaped name in
    let walks = kept_matches (map plain_sign name) text in (
      (λ m. walks_name name text (walks.1 (subst (λ s. Matches s text) signs m))),
      (λ is. subst (λ s. Matches s text) (sym signs) (walks.0 (subst (λ t. Walks (λ c. c) (map plain_sign name) t) (sym is) (name_walks name)))),
    )

-- where a `\` is not the first character, the first sign is that of a policy
unescaped : (c : ℕ) (rest : List ℕ) → c ≢ 92 → signs_of (c ∷ rest) ≡ wild_sign c ∷ signs_of rest
unescaped c [] other = refl
unescaped c (d ∷ rest) other =
    let no : (c == 92) ≡ false = grind (arith, other) in
    ap (λ b. if b && is_escapable d then plain_sign d ∷ signs_of rest else wild_sign c ∷ signs_of (d ∷ rest)) no

pub reads_as_policies : ReadsAsPolicies
reads_as_policies [] none = refl
reads_as_policies (c ∷ text) none =
    unescaped c text (All-head (λ d. d ≢ 92) c text none)
    ∙ ap (λ s. wild_sign c ∷ s) (reads_as_policies text (All-tail (λ d. d ≢ 92) c text none))
