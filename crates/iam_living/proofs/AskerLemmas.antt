-- A principal that asks, and the lists of the resources that it asks for.
use Rattle.std.proofs.Common.{◌≡◌, ◌≢◌, ◌∙◌, ◌<◌, inl, inr, ℕ, Bool, IsTrue, true, List, Option, Some, arith, length, map, refl, sym, ap, subst}
use Rattle.std.proofs.lemmas.Option.{slice_get_within}
use Rattle.std.specs.List.{slice_get}
use Rattle.iam_context.specs.Context.{ContextValue}
use Rattle.iam_match.specs.Requester.{RequesterValue}
use Rattle.iam_match.specs.Statement.{AccessValue}
use Rattle.iam_decision.specs.Applicable.{ApplicableValue}
use Rattle.iam_decision.specs.Code.Scan.{placed_value}
use Rattle.iam_layers.specs.Cell.{IsAccessAt}
use Rattle.iam_columns.specs.Slots.{Keeps}
use Rattle.iam_world.specs.World.{PrincipalValue, WorldValue}
use Rattle.iam_index.specs.declared.lists.Listed.{Listed}
use Rattle.iam_index.proofs.ListLemmas.{some_same}
use Rattle.iam_living.specs.Asker.{AreConcerns, AreListWords, IsAsker}
use Rattle.iam_living.specs.Living.{ConcernNone, NoneConcerns}
use Rattle.iam_living.specs.declared.asker.Asker.{Asker}
use Rattle.iam_living.proofs.MarkLemmas.{same_or_apart}

-- who asks is the requester
pub asked_by : (world : WorldValue) (p r : ℕ) (asker : Asker) (a : ApplicableValue) (access : AccessValue) → IsAsker world p asker
    → IsAccessAt world p r a access → access.requester ≡ asker.requester.now
asked_by world p r asker a access is at =
    let (principal, there, own) = is.asks in
    ap (λ (x : AccessValue). x.requester) at.access_is
    ∙ ap (λ (z : PrincipalValue). z.requester) (some_same at.principal principal (sym at.principal_is ∙ there)) ∙ sym own

-- each resource has a number, and each number that a resource has a list
pub has_number : (world : WorldValue) (p r : ℕ) (asker : Asker) → IsAsker world p asker → r < length world.resources
    → r < length asker.lists.now.numbers.items
has_number world p r asker is below = let count = is.count in omega (arith, below, count)

pub has_list : (world : WorldValue) (p r n : ℕ) (asker : Asker) → IsAsker world p asker → slice_get asker.lists.now.numbers.items r ≡ Some n
    → n < length asker.lists.now.lists.items
has_list world p r n asker is at =
    let (listed, there, lists) = is.resources r n at in slice_get_within asker.lists.now.lists.items n listed there

-- where the list of a resource concerns the requester in nothing, none of its statements does
pub none_concern : (world : WorldValue) (p r n : ℕ) (asker : Asker) → IsAsker world p asker → slice_get asker.lists.now.numbers.items r ≡ Some n
    → ((listed : Listed) → slice_get asker.lists.now.lists.items n ≡ Some listed
    → ConcernNone asker.requester.now (map placed_value listed.statements.items)) → NoneConcerns world p r
none_concern world p r n asker is at none access (x, x_at, same) =
    let (listed, there, lists) = is.resources r n at in
    let (y, y_at, own) = is.asks in (
      listed.statements.items,
      lists,
      none listed there access (same ∙ ap (λ (z : PrincipalValue). z.requester) (some_same x y (sym x_at ∙ y_at)) ∙ sym own),
    )

-- it is kept of list n
pub concerns_more : (asker : Asker) (n : ℕ) (old new : List (Option Bool)) (none : Bool)
    → ((listed : Listed) → slice_get asker.lists.now.lists.items n ≡ Some listed → IsTrue none
    → ConcernNone asker.requester.now (map placed_value listed.statements.items)) → (n < length old → Keeps new n none)
    → ((j : ℕ) → j ≢ n → slice_get new j ≡ slice_get old j) → length new ≡ length old → AreConcerns asker old → AreConcerns asker new
concerns_more asker n old new none is put others count are m listed kept there =
    elim (same_or_apart m n) [
      | inr apart ↦ are m listed (sym (others m apart) ∙ kept) there
      | inl same ↦
          let K : ℕ → Type 0 = λ k. Keeps new k true in
          let S : ℕ → Type 0 = λ k. slice_get asker.lists.now.lists.items k ≡ Some listed in
          let here = subst K same kept in
          let within = slice_get_within new n (Some true) here in
          let below : n < length old = omega (arith, within, count) in
          let yes : none ≡ true = some_same none true (some_same (Some none) (Some true) (sym (put below) ∙ here)) in
          let B : Bool → Type 0 = IsTrue in
          is listed (subst S same there) (subst B (sym yes) refl)
    ]

-- what is told of lists is so in requests of the requester
pub told_to : (world : WorldValue) (p : ℕ) (derived : ContextValue) (asker : Asker) (requester : RequesterValue) (told : List (Option ℕ))
    → asker.listing.world ≡ world → requester ≡ asker.requester.now
    → AreListWords asker.listing.world p derived asker.requester.now asker.lists.now.lists.items told
    → AreListWords world p derived requester asker.lists.now.lists.items told
told_to world p derived asker requester told of asks right =
    let W : WorldValue → Type 0 = λ w. AreListWords w p derived asker.requester.now asker.lists.now.lists.items told in
    let R : RequesterValue → Type 0 = λ x. AreListWords world p derived x asker.lists.now.lists.items told in
    subst R (sym asks) (subst W of right)

pub told_back : (world : WorldValue) (p : ℕ) (derived : ContextValue) (asker : Asker) (requester : RequesterValue) (told : List (Option ℕ))
    → asker.listing.world ≡ world → requester ≡ asker.requester.now
    → AreListWords world p derived requester asker.lists.now.lists.items told
    → AreListWords asker.listing.world p derived asker.requester.now asker.lists.now.lists.items told
told_back world p derived asker requester told of asks right =
    let W : WorldValue → Type 0 = λ w. AreListWords w p derived asker.requester.now asker.lists.now.lists.items told in
    let R : RequesterValue → Type 0 = λ x. AreListWords world p derived x asker.lists.now.lists.items told in
    subst W (sym of) (subst R asks right)
