-- The order of the grant kinds.
use Rattle.std.proofs.Common.{◌≡◌, ℕ, ◌<◌, ◌≤◌, zero, suc, List, [], ◌∷◌, ◌++◌, Bool, true, false, cond, nat_lt, max, refl, sym, ap, ◌∙◌, arith}
use Rattle.std.proofs.lemmas.Bool.{ltb-true, ltb-false}
use Rattle.std.specs.Ordering.{ord_max}
use Rattle.iam_match.specs.declared.principal.Grant.{Grant}
use Rattle.iam_match.specs.declared.principal.Grant.TheVariants.{None, Account, Role, Direct}
use Rattle.iam_match.specs.Principal.{greatest, higher, rank}
use Rattle.iam_match.specs.contracts.principal.GrantOrd.TheImpl

-- the grant kind of a rank
abbrev kind_at : ℕ → Grant
kind_at zero = None
kind_at (suc zero) = Account
kind_at (suc (suc zero)) = Role
kind_at (suc (suc (suc n))) = Direct

kind_at_rank : (g : Grant) → kind_at (rank g) ≡ g
kind_at_rank None = refl
kind_at_rank Account = refl
kind_at_rank Role = refl
kind_at_rank Direct = refl

-- grant kinds of one rank are the same
same_rank : (a b : Grant) → rank a ≡ rank b → a ≡ b
same_rank a b e = sym (kind_at_rank a) ∙ ap kind_at e ∙ kind_at_rank b

rank_higher : (a b : Grant) → rank (higher a b) ≡ max (rank a) (rank b)
rank_higher a b = go (nat_lt (rank b) (rank a)) refl
  where
    go : (below : Bool) → nat_lt (rank b) (rank a) ≡ below → rank (cond below a b) ≡ max (rank a) (rank b)
    go true e = let lt : rank b < rank a = ltb-true (rank b) (rank a) e in omega arith
    go false e = let le : rank a ≤ rank b = ltb-false (rank b) (rank a) e in omega arith

higher_swap : (a b c : Grant) → higher a (higher b c) ≡ higher b (higher a c)
higher_swap a b c =
    same_rank (higher a (higher b c)) (higher b (higher a c))
    (
    let left = rank_higher a (higher b c) in
    let inner = rank_higher b c in
    let right = rank_higher b (higher a c) in
    let other = rank_higher a c in
    omega (arith, left, inner, right, other)
    )

-- one more grant kind at the end
pub greatest_push : (grants : List Grant) (grant : Grant) → greatest (grants ++ grant ∷ []) ≡ higher grant (greatest grants)
greatest_push [] grant = refl
greatest_push (first ∷ grants) grant = ap (higher first) (greatest_push grants grant) ∙ higher_swap first grant (greatest grants)

-- `max` of two grant kinds is the higher one
pub max_is : (a b : Grant) → ord_max (TheImpl.cmp-value).it a b ≡ higher b a
max_is None None = refl
max_is None Account = refl
max_is None Role = refl
max_is None Direct = refl
max_is Account None = refl
max_is Account Account = refl
max_is Account Role = refl
max_is Account Direct = refl
max_is Role None = refl
max_is Role Account = refl
max_is Role Role = refl
max_is Role Direct = refl
max_is Direct None = refl
max_is Direct Account = refl
max_is Direct Role = refl
max_is Direct Direct = refl
