-- What holds by whether there is a principal.
use Rattle.std.proofs.Common.{◌≡◌, Option, Some, MatchOption, sym, subst}

pub some_at : {X : Type 0} (o : Option X) (x : X) (N : Type 0) (S : X → Type 0) → o ≡ Some x → S x → MatchOption o N S
some_at {X} o x N S is holds = subst (λ (p : Option X). MatchOption p N S) (sym is) holds

pub of_some : {X : Type 0} (o : Option X) (x : X) (N : Type 0) (S : X → Type 0) → o ≡ Some x → MatchOption o N S → S x
of_some {X} o x N S is holds = subst (λ (p : Option X). MatchOption p N S) is holds
