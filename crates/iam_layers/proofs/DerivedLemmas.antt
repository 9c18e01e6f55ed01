-- The derived keys, one behind the other, and those of resources of one account.
use Rattle.std.proofs.Common.{◌≡◌, ℕ, List, ◌++◌, Some, sym, ap, ◌∙◌}
use Rattle.std.proofs.lemmas.List.{append_assoc}
use Rattle.std.specs.List.{slice_get}
use Rattle.iam_context.specs.Context.{ContextValue}
use Rattle.iam_world.specs.World.{ResourceValue, WorldValue}
use Rattle.iam_layers.specs.Cell.{IsDerivedAt}
use Rattle.iam_layers.specs.Derived.{derived_of}

-- four lists, one behind the other
pub four_appended : {X : Type 0} (x0 x1 x2 x3 x4 a b c d : List X) → x1 ≡ x0 ++ a → x2 ≡ x1 ++ b → x3 ≡ x2 ++ c → x4 ≡ x3 ++ d → x4 ≡ x0 ++ (a ++ (b ++ (c ++ d)))
four_appended x0 x1 x2 x3 x4 a b c d one two three four =
    four ∙ ap (λ x. x ++ d) (three ∙ ap (λ x. x ++ c) (two ∙ ap (λ x. x ++ b) one))
    ∙ append_assoc (x0 ++ a ++ b) c d ∙ append_assoc (x0 ++ a) b (c ++ d) ∙ append_assoc x0 a (b ++ (c ++ d))

-- two resources of one account have the same derived keys
pub same_derived : (world : WorldValue) (r other : ℕ) (x y : ResourceValue) → slice_get world.resources r ≡ Some x → slice_get world.resources other ≡ Some y
    → x.account ≡ y.account → (p : ℕ) (derived : ContextValue) → IsDerivedAt world p r derived → IsDerivedAt world p other derived
same_derived world r other x y at there same p derived (principal, who, (z, here, (stamp, written, is))) =
    let found : Some z ≡ Some x = sym here ∙ at in
    let one : z ≡ x = cc in
    let account : z.account ≡ y.account = ap (λ (v : ResourceValue). v.account) one ∙ same in
    (principal, who, (y, there, (stamp, written, is ∙ ap (λ a. derived_of principal.requester a world.moment stamp) account)))
