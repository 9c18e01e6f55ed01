-- Equal signs, and lists of them, are the same.
use Rattle.std.proofs.Common.{◌≡◌, List, refl, ap, true}
use Rattle.std.proofs.lemmas.Slice.Eq.{slice_eq-Decides}
use Rattle.std.specs.Bool.{Decides}
use Rattle.std.specs.Cmp.{unsigned_Decides}
use Rattle.std.specs.Cmp.Lexicographic.{pointwise}
use Rattle.iam_glob.specs.contracts.sign.SignPartialEq as signs
use Rattle.iam_glob.specs.declared.sign.Sign.{Sign}
use Rattle.iam_glob.specs.declared.sign.Sign.TheVariants.{Given, One, Any}

-- equal signs are the same
same_sign : (one other : Sign) → Decides ((signs.TheImpl.eq-value).it one other) (one ≡ other)
same_sign (Given c) (Given d) = ((λ t. ap Given ((unsigned_Decides c d).0 t)), (λ same. let is : c ≡ d = cc in (unsigned_Decides c d).1 is))
same_sign (Given c) One = ((λ t. absurd (let wrong : ⊥ = cc in wrong)), (λ same. absurd (let wrong : ⊥ = cc in wrong)))
same_sign (Given c) Any = ((λ t. absurd (let wrong : ⊥ = cc in wrong)), (λ same. absurd (let wrong : ⊥ = cc in wrong)))
same_sign One (Given c) = ((λ t. absurd (let wrong : ⊥ = cc in wrong)), (λ same. absurd (let wrong : ⊥ = cc in wrong)))
same_sign One One = ((λ t. refl), (λ same. refl))
same_sign One Any = ((λ t. absurd (let wrong : ⊥ = cc in wrong)), (λ same. absurd (let wrong : ⊥ = cc in wrong)))
same_sign Any (Given c) = ((λ t. absurd (let wrong : ⊥ = cc in wrong)), (λ same. absurd (let wrong : ⊥ = cc in wrong)))
same_sign Any One = ((λ t. absurd (let wrong : ⊥ = cc in wrong)), (λ same. absurd (let wrong : ⊥ = cc in wrong)))
same_sign Any Any = ((λ t. refl), (λ same. refl))

-- lists of equal signs are the same
pub same_signs : (ones others : List Sign) → pointwise (signs.TheImpl.eq-value).it ones others ≡ true → ones ≡ others
same_signs ones others told = (slice_eq-Decides same_sign ones others (pointwise (signs.TheImpl.eq-value).it ones others) refl).0 told
