-- Lists that are walked side by side, and are told to be the same or not.
use Rattle.std.proofs.Common.{◌↔◌, false, IsTrue}

-- what is not so is told by `false`
pub told_off : (P : Type 0) → ¬ P → IsTrue false ↔ P
told_off P off = (λ t. absurd (let wrong : ⊥ = cc in wrong), λ p. absurd (off p))
