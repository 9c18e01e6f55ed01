-- Patterns cut at their first given colon.
use Rattle.std.proofs.Common.{◌≡◌, ◌↔◌, ℕ, List, [], ◌∷◌, ◌++◌, refl, sym, ◌∙◌, subst, All}
use Rattle.std.proofs.lemmas.List.Elements.{All-head, All-tail}
use Rattle.std.specs.Str.{chars}
use Rattle.iam_text.specs.Arn.{colon}
use Rattle.iam_glob.specs.Glob.{Matches}
use Rattle.iam_glob.specs.declared.sign.Sign.{Sign}
use Rattle.iam_glob.specs.declared.sign.Sign.TheVariants as sign
use Rattle.iam_match.specs.Entry.{IsNoColon, PartsMatch}

-- the tails of equal lists
cons_tail : {X : Type 0} (x y : X) (xs ys : List X) → x ∷ xs ≡ y ∷ ys → xs ≡ ys
cons_tail x y xs ys e = cc

cons_head : {X : Type 0} (x y : X) (xs ys : List X) → x ∷ xs ≡ y ∷ ys → x ≡ y
cons_head x y xs ys e = cc

-- where a pattern is cut twice at its first colon, the cuts are the same
one_cut : (a b c d : List Sign) → All IsNoColon a → All IsNoColon c → a ++ (sign.Given colon ∷ b) ≡ c ++ (sign.Given colon ∷ d)
    → (a ≡ c) × (b ≡ d)
one_cut [] b [] d na nc e = (refl, cons_tail (sign.Given colon) (sign.Given colon) b d e)
one_cut [] b (s ∷ c) d na nc e =
    absurd (All-head IsNoColon s c nc (sym (cons_head (sign.Given colon) s b (c ++ (sign.Given colon ∷ d)) e)))
one_cut (s ∷ a) b [] d na nc e =
    absurd (All-head IsNoColon s a na (cons_head s (sign.Given colon) (a ++ (sign.Given colon ∷ b)) d e))
one_cut (s ∷ a) b (t ∷ c) d na nc e =
    let tails = cons_tail s t (a ++ (sign.Given colon ∷ b)) (c ++ (sign.Given colon ∷ d)) e in
    let rest = one_cut a b c d (All-tail IsNoColon s a na) (All-tail IsNoColon t c nc) tails in
    let front : a ≡ c = rest.0 in
    let here : s ≡ t = cons_head s t (a ++ (sign.Given colon ∷ b)) (c ++ (sign.Given colon ∷ d)) e in
    (cc, rest.1)

-- a pattern without a colon is not cut
no_cut : (signs a b : List Sign) → All IsNoColon signs → signs ≡ a ++ (sign.Given colon ∷ b) → ⊥
no_cut [] [] b none e = cc
no_cut [] (s ∷ a) b none e = cc
no_cut (s ∷ signs) [] b none e = All-head IsNoColon s signs none (cons_head s (sign.Given colon) signs b e)
no_cut (s ∷ signs) (t ∷ a) b none e =
    no_cut signs a b (All-tail IsNoColon s signs none) (cons_tail s t signs (a ++ (sign.Given colon ∷ b)) e)

-- where the cut is known, the part before it and those behind it match
pub parts_cut : (signs first rest : List Sign) (part next : List ℕ) (parts : List (List ℕ)) → All IsNoColon first
    → signs ≡ first ++ (sign.Given colon ∷ rest)
    → (Matches first (chars part) × PartsMatch rest (next ∷ parts)) ↔ PartsMatch signs (part ∷ next ∷ parts)
parts_cut signs first rest part next parts none is = (
  λ both. (first, rest, is, none, both.0, both.1),
  λ matched.
      let same = one_cut first rest matched.0 matched.1 none matched.3 (sym is ∙ matched.2) in
      let P : List Sign → Type 0 = λ s. Matches s (chars part) in
      let Q : List Sign → Type 0 = λ s. PartsMatch s (next ∷ parts) in
      (subst P (sym same.0) matched.4, subst Q (sym same.1) matched.5),
)

-- without a colon, no pattern is left for the next part
pub parts_uncut : (signs : List Sign) (part next : List ℕ) (parts : List (List ℕ)) → All IsNoColon signs → ¬ PartsMatch signs (part ∷ next ∷ parts)
parts_uncut signs part next parts none matched = no_cut signs matched.0 matched.1 none matched.2
