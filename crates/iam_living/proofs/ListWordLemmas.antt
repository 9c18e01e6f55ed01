-- What is told of the lists of statements that stand with resources.
use Rattle.std.proofs.Common.{◌≡◌, ◌⊎◌, ◌/◌, inl, inr, ℕ, zero, suc, List, [], ◌∷◌, All, Option, Some, arith, map, sym, subst}
use Rattle.std.specs.List.{slice_get}
use Rattle.iam_context.specs.Context.{ContextValue}
use Rattle.iam_match.specs.Principal.{PrincipalMatches}
use Rattle.iam_match.specs.Requester.{RequesterValue}
use Rattle.iam_match.specs.Statement.{AccessValue, ResourceMatches}
use Rattle.iam_decision.specs.Code.Scan.{placed_value}
use Rattle.iam_decision.specs.Living.{Lives}
use Rattle.iam_decision.specs.declared.scan.Standing.{Standing}
use Rattle.iam_layers.specs.Cell.{IsContextAt}
use Rattle.iam_columns.specs.Slots.{Keeps}
use Rattle.iam_world.specs.World.{WorldValue}
use Rattle.iam_index.specs.declared.lists.Listed.{Listed}
use Rattle.iam_index.proofs.GivenLemmas.{held_alike}
use Rattle.iam_living.specs.Asker.{AreListWords, AsksForNone}
use Rattle.iam_living.specs.Word.{AreBits}

-- each of the statements lives in both of two requests of a requester that have the same derived keys, or in neither
bits_alike : (world : WorldValue) (p r other : ℕ) (derived : ContextValue) (one two : AccessValue) (statements : List Standing) (word : ℕ)
    → All (λ s. AsksForNone world (placed_value s)) statements → one.requester ≡ two.requester → IsContextAt world p r derived one.context
    → IsContextAt world p other derived two.context → AreBits one (map placed_value statements) word
    → AreBits two (map placed_value statements) word
bits_alike world p r other derived one two [] word free asks at also bits = bits
bits_alike world p r other derived one two (s ∷ statements) word free asks at also (bit, bits) =
    let (none, unasked) = free zero s (omega arith) in
    let like = held_alike world p r other derived one.context two.context s.statement.now unasked at also in
    let P : RequesterValue → Type 0 = PrincipalMatches s.statement.now.principal in
    let M : AccessValue → _ → Type 0 = λ access element. ResourceMatches element access.resource access.context in
    let there : Lives one (placed_value s) → Lives two (placed_value s) = λ lives.
    record { principal = subst P asks lives.principal; resource = subst (M two) (sym none) tt; conditions = like.0 lives.conditions } in
    let back : Lives two (placed_value s) → Lives one (placed_value s) = λ lives.
    record { principal = subst P (sym asks) lives.principal; resource = subst (M one) (sym none) tt; conditions = like.1 lives.conditions } in (
      (λ set. there (bit.0 set), λ lives. bit.1 (back lives)),
      bits_alike world p r other derived one two statements (word / 2) (λ k d below. free (suc k) d (omega (arith, below))) asks at also bits,
    )

-- more is told, of list n
pub lists_told_more : (world : WorldValue) (p r n : ℕ) (derived : ContextValue) (access : AccessValue) (lists : List Listed)
    (statements : List Standing) (old new : List (Option ℕ)) (word : ℕ)
    → ((it : Listed) → slice_get lists n ≡ Some it → statements ≡ it.statements.items) → IsContextAt world p r derived access.context
    → AreBits access (map placed_value statements) word → All (λ s. AsksForNone world (placed_value s)) statements
    → ((i kept : ℕ) → Keeps new i kept → ((i ≡ n) × (kept ≡ word)) ⊎ Keeps old i kept)
    → AreListWords world p derived access.requester lists old → AreListWords world p derived access.requester lists new
lists_told_more world p r n derived access lists statements old new word listed at bits free gains told m w it kept there other another asks also =
    elim (gains m w kept) [
      | inr before ↦ told m w it before there other another asks also
      | inl (same, is) ↦
          let S : ℕ → Type 0 = λ k. slice_get lists k ≡ Some it in
          let W : ℕ → Type 0 = λ k. AreBits another (map placed_value it.statements.items) k in
          let Z : List Standing → Type 0 = λ z. AreBits another (map placed_value z) word in
          subst W (sym is)
          (subst Z (listed it (subst S same there)) (bits_alike world p r other derived access another statements word free (sym asks) at also bits))
    ]
