-- Words before and behind a name, and its row.
use Rattle.std.proofs.Common.{◌≡◌, ℕ, ◌-◌, List, [], ◌∷◌, Bool, true, false, Bor, Option, Some, None, length, map, take, drop, option_map, MatchOption, refl, sym, ap, ◌∙◌, arith, if◌then◌else◌}
use Rattle.std.specs.List.{find}
use Rattle.std.specs.Str.{bytes_eq}
use Rattle.std.specs.Str.Pattern.{FindsTextPrefix, FindsTextSuffix, StripsPrefix, StripsSuffix}
use Rattle.std.proofs.lemmas.Str.Pattern.{starts_text, ends_text}
use Rattle.iam_condition.specs.declared.operator.Base.{Base}
use Rattle.iam_condition.specs.Code.Names.{base_among, row_of, text_before, text_behind}
use Rattle.iam_condition.specs.declared.operator.Quantifier.{Quantifier}
use Rattle.iam_condition.specs.Operator.{Row, operator_with, rows, single_operator}

pub behind_word : (text word : List ℕ) (r : Option (Bor (List ℕ)))
    → MatchOption r (FindsTextPrefix word text None) (λ x. StripsPrefix (FindsTextPrefix word) text x.now)
    → option_map (λ rest. rest.now) r ≡ text_behind text word
behind_word text word None lacks = rw (sym (starts_text false word text lacks)) refl
behind_word text word (Some x) strips =
    let is = strips.1 in
    let starts = starts_text true word text (length word, (refl, rw is.0 at is.1, is.2), is.2) in
    rw (sym starts) (ap Some (strips.2 ∙ ap (λ n. drop n text) is.0))

pub before_word : (text word : List ℕ) (r : Option (Bor (List ℕ)))
    → MatchOption r (FindsTextSuffix word text None) (λ x. StripsSuffix (FindsTextSuffix word) text x.now)
    → option_map (λ front. front.now) r ≡ text_before text word
before_word text word None lacks = rw (sym (ends_text false word text lacks)) refl
before_word text word (Some x) strips =
    let is = strips.1 in
    let ends = ends_text true word text (length word, (refl, rw is.0 at is.1, is.2), omega (arith, strips.3, is.0), is.2) in
    rw (sym ends) (ap Some (strips.2 ∙ ap (λ n. take (length text - n) text) is.0))

-- what is found in a list of images is the image of what is found
find_map : {X Y : Type 0} (f : X → Y) (p : Y → Bool) (xs : List X) → find p (map f xs) ≡ option_map f (find (λ x. p (f x)) xs)
find_map f p [] = refl
find_map f p (x ∷ xs) = go (p (f x)) (find_map f p xs)
  where
    go : (b : Bool) → find p (map f xs) ≡ option_map f (find (λ x. p (f x)) xs)
        → (if b then Some (f x) else find p (map f xs)) ≡ option_map f (if b then Some x else find (λ x. p (f x)) xs)
    go true later = refl
    go false later = later

-- the base of a row that is found
pub base_found : (table : List (Bor (List ℕ) × Base × Bool)) (name : List ℕ) (r : Option (Bor (List ℕ) × Base × Bool))
    → r ≡ find (λ row. bytes_eq name row.0.now) table → option_map {U = Base × Bool} (λ row. (row.1, row.2)) r ≡ base_among (map row_of table) name
base_found table name r is =
    rw is (
    rw (find_map row_of (λ row. bytes_eq name row.name) table)
    (twice (find (λ row. bytes_eq name row.0.now) table)))
  where
    twice : (found : Option (Bor (List ℕ) × Base × Bool)) → option_map {U = Base × Bool} (λ row. (row.1, row.2)) found ≡ option_map (λ row. (row.base, row.negated)) (option_map row_of found)
    twice None = refl
    twice (Some x) = refl

-- the operator of a name with a base
pub with_base : (quantifier : Option Quantifier) (parts : List ℕ × Bool) (o : Option (Base × Bool)) → o ≡ base_among rows parts.0
    → option_map {T = Base × Bool} (λ b. record { quantifier = quantifier; base = b.0; is_negated = b.1; if_exists = parts.1 }) o ≡ single_operator quantifier parts
with_base quantifier parts o is = rw is (twice (find (λ row. bytes_eq parts.0 row.name) rows))
  where
    twice : (found : Option Row) → option_map {T = Base × Bool} (λ b. record { quantifier = quantifier; base = b.0; is_negated = b.1; if_exists = parts.1 }) (option_map {U = Base × Bool} (λ row. (row.base, row.negated)) found)
        ≡ option_map (operator_with quantifier parts.1) found
    twice None = refl
    twice (Some x) = refl
