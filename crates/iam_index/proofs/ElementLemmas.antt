-- What is kept of action elements stays right where more is kept.
use Rattle.std.proofs.Common.{◌≡◌, ◌⊎◌, ◌+◌, ◌*◌, ◌/◌, ◌%◌, ◌<◌, inl, inr, ℕ, zero, suc, get_or, refl, arith, Bool, Bor, List, [], ◌∷◌, ◌++◌, length, MatchOption, Option, Some, sym, take, ap, subst, ◌∙◌}
use Rattle.std.proofs.lemmas.List.{take_more}
use Rattle.std.proofs.lemmas.Option.{slice_get-get_or}
use Rattle.std.proofs.lemmas.Slice.Zip.{AllZip-right, all_zipped_more}
use Rattle.std.specs.List.{slice_get}
use Rattle.std.specs.Option.{IsSomeAnd}
use Rattle.iam_element.specs.Reading.{ActionElement}
use Rattle.iam_match.specs.Statement.{ActionMatches}
use Rattle.iam_decision.specs.Living.{LivingValue}
use Rattle.iam_layers.specs.Cell.{IsAction}
use Rattle.iam_world.specs.World.{WorldValue}
use Rattle.iam_index.specs.Elements.{AreActRows, AreActs, AreElements, IsElement, MatchesNone, TellActs}
use Rattle.iam_index.specs.declared.elements.Element.{Element}
use Rattle.iam_index.proofs.ListLemmas.{get_back, some_same}

-- none of the first actions of the world is matched
abbrev pub MatchesNoneBelow : WorldValue → ActionElement → ℕ → Type 0
MatchesNoneBelow world element n = (a : ℕ) (text : List ℕ) → a < n → IsAction world a text → ¬ ActionMatches element text

pub none_more : (world : WorldValue) (element : ActionElement) (n : ℕ) (text : List ℕ) → IsAction world n text → ¬ ActionMatches element text
    → MatchesNoneBelow world element n → MatchesNoneBelow world element (n + 1)
none_more world element n text at idle none a other below there matched =
    elim (lt_or_eq a n below) [
      | inl before ↦ none a other before there matched
      | inr same ↦
          let A : ℕ → Type 0 = λ k. IsAction world k other in
          let M : List ℕ → Type 0 = ActionMatches element in
          idle (subst M (some_same other text (sym (subst A same there) ∙ at)) matched)
    ]
  where
    lt_or_eq : (a n : ℕ) → a < n + 1 → (a < n) ⊎ (a ≡ n)
    lt_or_eq zero zero below = inr refl
    lt_or_eq zero (suc n) below = inl (omega arith)
    lt_or_eq (suc a) zero below = absurd (omega (arith, below))
    lt_or_eq (suc a) (suc n) below =
        let less : a < n + 1 = omega (arith, below) in
        elim (lt_or_eq a n less) [ inl before ↦ inl (omega (arith, before)) | inr same ↦ inr (ap suc same) ]

pub none_of_all : (world : WorldValue) (element : ActionElement) (n : ℕ) → length world.actions ≡ n → MatchesNoneBelow world element n
    → MatchesNone world element
none_of_all world element n long none k d below =
    let within : k < n = omega (arith, long, below) in
    none k (get_or world.actions k d) within (slice_get-get_or world.actions k d below)

-- one more element
pub elements_more : (world : WorldValue) (elements : List Element) (element : Element) → IsElement world element → AreElements world elements
    → AreElements world (elements ++ element ∷ [])
elements_more world elements element is all n other at =
    elim (get_back elements element n other at) [
      | inl before ↦ all n other before
      | inr (last, same) ↦ let E : Element → Type 0 = IsElement world in subst E (sym same) is
    ]

-- one more statement
pub row_more : (world : WorldValue) (living : List LivingValue) (i : ℕ) (x : LivingValue) (rows : List (Bor (List Bool))) (row : Bor (List Bool))
    → i < length living → x ≡ get_or living i x → AreActRows world (take i living) rows → TellActs world x.action row.now
    → AreActRows world (take (i + 1) living) (rows ++ row ∷ [])
row_more world living i x rows row below is all tells =
    let R : LivingValue → Bor (List Bool) → Type 0 = λ s r. TellActs world s.action r.now in
    let Q : List LivingValue → Type 0 = λ l. AreActRows world l (rows ++ row ∷ []) in
    let next : take (i + 1) living ≡ take i living ++ x ∷ [] =
    take_more living i x below ∙ ap (λ (z : LivingValue). take i living ++ z ∷ []) (sym is) in
    subst Q (sym next) (all_zipped_more R (take i living) rows x row all tells)

-- what the row of a statement tells
pub row_at : (world : WorldValue) (living : List LivingValue) (rows : List (Bor (List Bool))) (i : ℕ) (s : LivingValue) (row : Bor (List Bool))
    → AreActRows world living rows → slice_get living i ≡ Some s → slice_get rows i ≡ Some row → TellActs world s.action row.now
row_at world living rows i s row all at there =
    let R : LivingValue → Bor (List Bool) → Type 0 = λ l r. TellActs world l.action r.now in
    let H : Option (Bor (List Bool)) → Type 0 = λ o. MatchOption o (Unit {0}) (λ r. IsSomeAnd (slice_get living i) (λ l. R l r)) in
    let S : Option LivingValue → Type 0 = λ o. IsSomeAnd o (λ l. R l row) in
    subst S at (subst H there (AllZip-right R living rows all i))

-- one more statement before those of a word, on which the action acts or does not
pub acting_first : (text : List ℕ) (s : LivingValue) (living : List LivingValue) (word next : ℕ) → next ≡ word * 2 + 1 → ActionMatches s.action text
    → AreActs text living word → AreActs text (s ∷ living) next
acting_first text s living word next is acts bits =
    let half : word ≡ next / 2 = omega (arith, is) in
    let odd : next % 2 ≡ 1 = omega (arith, is) in
    (((λ _. acts), (λ _. odd)), subst (λ (w : ℕ). AreActs text living w) half bits)

pub idle_first : (text : List ℕ) (s : LivingValue) (living : List LivingValue) (word next : ℕ) → next ≡ word * 2 → ¬ ActionMatches s.action text
    → AreActs text living word → AreActs text (s ∷ living) next
idle_first text s living word next is idle bits =
    let half : word ≡ next / 2 = omega (arith, is) in
    let even : next % 2 ≡ 0 = omega (arith, is) in
    (((λ odd. absurd (omega (arith, odd, even))), (λ acts. absurd (idle acts))), subst (λ (w : ℕ). AreActs text living w) half bits)
