-- Pieces that are walked stretch by stretch: plain text, a form, and what is left behind it.
use Rattle.std.proofs.Common.{◌≡◌, ◌≢◌, ◌↔◌, List, [], ◌∷◌, ◌++◌, Bool, false, IsTrue, refl, sym, ap, ◌∙◌, subst}
use Rattle.iam_glob.specs.declared.sign.Sign.{Sign}
use Rattle.iam_text.specs.declared.draft.Piece.{Piece}
use Rattle.iam_text.specs.declared.draft.Piece.TheVariants.{Plain, Escaped, Variable}
use Rattle.iam_text.specs.declared.form.Form.{Form}
use Rattle.iam_text.specs.declared.form.Form.TheVariants.{Literal, Named}
use Rattle.iam_text.specs.Draft.{plain_draft}
use Rattle.iam_text.specs.Stretches.{piece_of}
use Rattle.iam_equal.proofs.ListLemmas.{told_off}

abbrev IsForm : Piece → Type 0
IsForm (Plain sign) = ⊥
IsForm (Escaped c) = Unit {0}
IsForm (Variable key default) = Unit {0}

form_piece : (f : Form) → IsForm (piece_of f)
form_piece (Literal c) = tt
form_piece (Named key default) = tt

-- plain pieces are of the same signs
pub plain_same : (xs ys : List Sign) → plain_draft xs ≡ plain_draft ys → xs ≡ ys
plain_same [] [] e = refl
plain_same [] (y ∷ ys) e = absurd (let wrong : ⊥ = cc in wrong)
plain_same (x ∷ xs) [] e = absurd (let wrong : ⊥ = cc in wrong)
plain_same (x ∷ xs) (y ∷ ys) e =
    let heads : x ≡ y = cc in
    let tails : xs ≡ ys = plain_same xs ys (let rest : plain_draft xs ≡ plain_draft ys = cc in rest) in
    cc

-- up to their first form, pieces are the same in one way
stretch_same : (xs ys : List Sign) (f g : Piece) (r s : List Piece) → IsForm f → IsForm g → plain_draft xs ++ (f ∷ r) ≡ plain_draft ys ++ (g ∷ s)
    → (xs ≡ ys) × (f ≡ g) × (r ≡ s)
stretch_same [] [] f g r s one other e = (refl, (let heads : f ≡ g = cc in heads), (let tails : r ≡ s = cc in tails))
stretch_same [] (y ∷ ys) f g r s one other e = absurd (subst IsForm (let head : f ≡ Plain y = cc in head) one)
stretch_same (x ∷ xs) [] f g r s one other e = absurd (subst IsForm (let head : g ≡ Plain x = cc in head) other)
stretch_same (x ∷ xs) (y ∷ ys) f g r s one other e =
    let rest = stretch_same xs ys f g r s one other (let tails : plain_draft xs ++ (f ∷ r) ≡ plain_draft ys ++ (g ∷ s) = cc in tails) in
    let heads : x ≡ y = cc in
    let fronts : xs ≡ ys = rest.0 in
    ((let same : x ∷ xs ≡ y ∷ ys = cc in same), rest.1, rest.2)

-- pieces with a form are not plain
stretch_plain : (xs ys : List Sign) (f : Piece) (r : List Piece) → IsForm f → plain_draft xs ++ (f ∷ r) ≢ plain_draft ys
stretch_plain [] [] f r form e = let wrong : ⊥ = cc in wrong
stretch_plain [] (y ∷ ys) f r form e = subst IsForm (let head : f ≡ Plain y = cc in head) form
stretch_plain (x ∷ xs) [] f r form e = let wrong : ⊥ = cc in wrong
stretch_plain (x ∷ xs) (y ∷ ys) f r form e = stretch_plain xs ys f r form (let tails : plain_draft xs ++ (f ∷ r) ≡ plain_draft ys = cc in tails)

-- behind a stretch and a form that are the same, what is left decides
pub stretches_on : (P : Type 0) (one other : List Piece) (xs ys : List Sign) (f g : Form) (r s : List Piece) → P ↔ one ≡ other
    → one ≡ plain_draft xs ++ (piece_of f ∷ r) → other ≡ plain_draft ys ++ (piece_of g ∷ s) → xs ≡ ys → piece_of f ≡ piece_of g → P ↔ r ≡ s
stretches_on P one other xs ys f g r s same one_is other_is fronts forms = (
  λ p. (stretch_same xs ys (piece_of f) (piece_of g) r s (form_piece f) (form_piece g) (sym one_is ∙ same.0 p ∙ other_is)).2,
  λ e. same.1 (
      one_is ∙ ap (λ zs. plain_draft zs ++ (piece_of f ∷ r)) fronts ∙ ap (λ h. plain_draft ys ++ (h ∷ r)) forms
      ∙ ap (λ t. plain_draft ys ++ (piece_of g ∷ t)) e ∙ sym other_is
      ),
)

-- unlike stretches or forms tell pieces apart
pub stretches_off : (P : Type 0) (one other : List Piece) (xs ys : List Sign) (f g : Form) (r s : List Piece) → P ↔ one ≡ other
    → one ≡ plain_draft xs ++ (piece_of f ∷ r) → other ≡ plain_draft ys ++ (piece_of g ∷ s) → (xs ≡ ys → piece_of f ≢ piece_of g) → IsTrue false ↔ P
stretches_off P one other xs ys f g r s same one_is other_is off =
    told_off P
    (λ p.
    let all = stretch_same xs ys (piece_of f) (piece_of g) r s (form_piece f) (form_piece g) (sym one_is ∙ same.0 p ∙ other_is) in
    off all.0 all.1)

-- so does a form in one alone
pub form_in_one : (P : Type 0) (one other : List Piece) (xs ys : List Sign) (f : Form) (r : List Piece) → P ↔ one ≡ other
    → one ≡ plain_draft xs ++ (piece_of f ∷ r) → other ≡ plain_draft ys → IsTrue false ↔ P
form_in_one P one other xs ys f r same one_is other_is =
    told_off P (λ p. stretch_plain xs ys (piece_of f) r (form_piece f) (sym one_is ∙ same.0 p ∙ other_is))

pub form_in_other : (P : Type 0) (one other : List Piece) (xs ys : List Sign) (f : Form) (r : List Piece) → P ↔ one ≡ other
    → one ≡ plain_draft xs → other ≡ plain_draft ys ++ (piece_of f ∷ r) → IsTrue false ↔ P
form_in_other P one other xs ys f r same one_is other_is =
    told_off P (λ p. stretch_plain ys xs (piece_of f) r (form_piece f) (sym other_is ∙ sym (same.0 p) ∙ one_is))

-- where both are plain, their signs decide
pub plain_told : (told : Bool) (P : Type 0) (one other : List Piece) (xs ys : List Sign) → P ↔ one ≡ other → one ≡ plain_draft xs
    → other ≡ plain_draft ys → IsTrue told ↔ xs ≡ ys → IsTrue told ↔ P
plain_told told P one other xs ys same one_is other_is tells = (
  λ t. same.1 (one_is ∙ ap plain_draft (tells.0 t) ∙ sym other_is),
  λ p. tells.1 (plain_same xs ys (sym one_is ∙ same.0 p ∙ other_is)),
)
