-- What is told of conditions, one statement at a time.
use mathlib.Core.Bool.{beq}
use Rattle.std.proofs.Common.{◌≡◌, ◌≢◌, ◌↔◌, ◌⊎◌, ◌∙◌, ◌<◌, inl, inr, ℕ, zero, suc, List, [], ◌∷◌, All, Bool, IsTrue, true, false, Option, None, Some, arith, get_or, length, map, refl, sym, ap, subst}
use Rattle.std.proofs.lemmas.Option.{get_or_from_slice_get, slice_get_within}
use Rattle.std.specs.List.{slice_get}
use Rattle.std.specs.Option.{option_eq}
use Rattle.iam_context.specs.Context.{ContextValue}
use Rattle.iam_match.specs.Entry.{EntryHolds}
use Rattle.iam_decision.specs.Code.Scan.{placed_value}
use Rattle.iam_decision.specs.Matched.{Placed}
use Rattle.iam_decision.specs.declared.scan.Standing.{Standing}
use Rattle.iam_layers.specs.Cell.{IsContextAt}
use Rattle.iam_columns.specs.Slots.{Keeps}
use Rattle.iam_index.specs.Given.{IsFree}
use Rattle.iam_index.specs.Known.{KnownValue}
use Rattle.iam_index.proofs.GivenLemmas.{held_alike}
use Rattle.iam_index.proofs.ListLemmas.{some_same}
use Rattle.iam_world.specs.World.{WorldValue}
use Rattle.iam_living.specs.Listing.{ListingValue}
use Rattle.iam_living.specs.Marks.{AreMarks, AreListingMarks}
use Rattle.iam_living.specs.declared.marks.Mark.{Mark}
use Rattle.iam_living.specs.declared.marks.Mark.TheVariants.{Held}
use Rattle.iam_living.specs.declared.marks.ListingMarks.{ListingMarks}

pub same_or_apart : (a b : ℕ) → (a ≡ b) ⊎ (a ≢ b)
same_or_apart zero zero = inl refl
same_or_apart zero (suc b) = inr (λ e. omega (arith, e))
same_or_apart (suc a) zero = inr (λ e. omega (arith, e))
same_or_apart (suc a) (suc b) = elim (same_or_apart a b) [ inl same ↦ inl (ap suc same) | inr apart ↦ inr (λ e. apart (omega (arith, e))) ]

-- what stands in a list of images is an image
pub get_map : {X Y : Type 0} (f : X → Y) (xs : List X) (i : ℕ) (x : X) → slice_get xs i ≡ Some x → slice_get (map f xs) i ≡ Some (f x)
get_map f [] i x at = let within = slice_get_within [] i x at in absurd (omega (arith, within))
get_map f (y ∷ xs) zero x at = ap (λ z. Some (f z)) (some_same y x at)
get_map f (y ∷ xs) (suc i) x at = get_map f xs i x at

pub get_unmap : {X Y : Type 0} (f : X → Y) (xs : List X) (i : ℕ) (y : Y) → slice_get (map f xs) i ≡ Some y
    → (x : X) × (slice_get xs i ≡ Some x) × (f x ≡ y)
get_unmap f [] i y at = let within = slice_get_within [] i y at in absurd (omega (arith, within))
get_unmap f (x ∷ xs) zero y at = (x, refl, some_same (f x) y at)
get_unmap f (x ∷ xs) (suc i) y at = get_unmap f xs i y at

-- the statement that was read is that of this place
pub read_at : (statements known : List Standing) (i : ℕ) (found standing : Standing) → statements ≡ known → slice_get known i ≡ Some standing
    → get_or statements i found ≡ standing
read_at statements known i found standing same at =
    get_or_from_slice_get statements i standing found (ap (λ (z : List Standing). slice_get z i) same ∙ at)

-- more is told, of statement i
pub told_more : (known : KnownValue) (p r i : ℕ) (derived context : ContextValue) (old new : List (Option Mark)) (mark : Mark) (held : Bool)
    → IsContextAt known.world p r derived context
    → ((standing : Standing) → slice_get known.statements i ≡ Some standing → IsTrue held ↔ All (EntryHolds context) standing.statement.now.conditions)
    → ((standing : Standing) (told : Bool) → slice_get known.statements i ≡ Some standing → mark ≡ Held told
    → (told ≡ held) × IsFree known.world standing.statement.now)
    → (i < length old → Keeps new i mark) → ((j : ℕ) → j ≢ i → slice_get new j ≡ slice_get old j) → length new ≡ length old
    → AreMarks known.world p derived (map placed_value known.statements) old
    → AreMarks known.world p derived (map placed_value known.statements) new
told_more known p r i derived context old new mark held at holds marks put others count told j b s kept there other another also =
    elim (same_or_apart j i) [
      | inr apart ↦ told j b s (sym (others j apart) ∙ kept) there other another also
      | inl same ↦
          let K : ℕ → Type 0 = λ k. Keeps new k (Held b) in
          let kept_here = subst K same kept in
          let within = slice_get_within new i (Some (Held b)) kept_here in
          let below : i < length old = omega (arith, within, count) in
          let (standing, found, is) = get_unmap placed_value known.statements j s there in
          let S : ℕ → Type 0 = λ k. slice_get known.statements k ≡ Some standing in
          let found_here = subst S same found in
          let marked : mark ≡ Held b = some_same mark (Held b) (some_same (Some mark) (Some (Held b)) (sym (put below) ∙ kept_here)) in
          let free = marks standing b found_here marked in
          let here = holds standing found_here in
          let like = held_alike known.world p r other derived context another standing.statement.now free.1 at also in
          let B : Bool → Type 0 = λ told_here. IsTrue told_here ↔ All (EntryHolds another) standing.statement.now.conditions in
          let P : Placed → Type 0 = λ placed. IsTrue b ↔ All (EntryHolds another) placed.statement.conditions in
          subst P is (subst B (sym free.0) (λ yes. like.0 (here.0 yes), λ all. here.1 (like.1 all)))
    ]

pub is_known : (found : Option Bool) → option_eq beq found (Some true) ≡ true → found ≡ Some true
is_known (Some true) same = refl
is_known (Some false) same = absurd (let wrong : ⊥ = cc in wrong)
is_known None same = absurd (let wrong : ⊥ = cc in wrong)

-- nothing is told
pub none_told : (world : WorldValue) (p : ℕ) (derived : ContextValue) (statements : List Placed) (told : List (Option Mark)) → told ≡ []
    → AreMarks world p derived statements told
none_told world p derived statements told none i held s kept there =
    let K : List (Option Mark) → Type 0 = λ z. Keeps z i (Held held) in
    let within = slice_get_within [] i (Some (Held held)) (subst K none kept) in absurd (omega (arith, within))

-- what is told stays right
abbrev pub StaysTold : KnownValue → ℕ → ℕ → ContextValue → ContextValue → List (Option Mark) → List (Option Mark) → Type 0
StaysTold known p r derived context old new =
    IsContextAt known.world p r derived context → AreMarks known.world p derived (map placed_value known.statements) old
    → AreMarks known.world p derived (map placed_value known.statements) new

-- the statements of a listing
abbrev pub listing_of : WorldValue → KnownValue → KnownValue → List (Option ℕ) → ListingValue
listing_of world org own alikes =
    record { world = world; org = map placed_value org.statements; own = map placed_value own.statements; alikes = alikes }

told_in : (world : WorldValue) (known : KnownValue) (p r : ℕ) (derived context : ContextValue) (told : List (Option Mark)) → known.world ≡ world
    → IsContextAt world p r derived context → AreMarks world p derived (map placed_value known.statements) told
    → IsContextAt known.world p r derived context × AreMarks known.world p derived (map placed_value known.statements) told
told_in world known p r derived context told same at right =
    let W : WorldValue → Type 0 = λ w. IsContextAt w p r derived context in
    let A : WorldValue → Type 0 = λ w. AreMarks w p derived (map placed_value known.statements) told in
    (subst W (sym same) at, subst A (sym same) right)

pub told_org : (world : WorldValue) (org own : KnownValue) (alikes : List (Option ℕ)) (v : ListingValue) (p r : ℕ) (derived context : ContextValue)
    (told : ListingMarks) → listing_of world org own alikes ≡ v → org.world ≡ world → IsContextAt v.world p r derived context → AreListingMarks v p derived told
    → IsContextAt org.world p r derived context × AreMarks org.world p derived (map placed_value org.statements) told.org.items
told_org world org own alikes v p r derived context told view same at right =
    let C : ListingValue → Type 0 = λ l. IsContextAt l.world p r derived context in
    let T : ListingValue → Type 0 = λ l. AreListingMarks l p derived told in
    told_in world org p r derived context told.org.items same (subst C (sym view) at) (subst T (sym view) right).org

pub told_own : (world : WorldValue) (org own : KnownValue) (alikes : List (Option ℕ)) (v : ListingValue) (p r : ℕ) (derived context : ContextValue)
    (told : ListingMarks) → listing_of world org own alikes ≡ v → own.world ≡ world → IsContextAt v.world p r derived context → AreListingMarks v p derived told
    → IsContextAt own.world p r derived context × AreMarks own.world p derived (map placed_value own.statements) told.own.items
told_own world org own alikes v p r derived context told view same at right =
    let C : ListingValue → Type 0 = λ l. IsContextAt l.world p r derived context in
    let T : ListingValue → Type 0 = λ l. AreListingMarks l p derived told in
    told_in world own p r derived context told.own.items same (subst C (sym view) at) (subst T (sym view) right).own

pub told_after : (world : WorldValue) (org own : KnownValue) (alikes : List (Option ℕ)) (v : ListingValue) (p r : ℕ) (derived context : ContextValue)
    (old new : ListingMarks) → listing_of world org own alikes ≡ v → org.world ≡ world → own.world ≡ world
    → StaysTold org p r derived context old.org.items new.org.items → StaysTold own p r derived context old.own.items new.own.items
    → IsContextAt v.world p r derived context → AreListingMarks v p derived old → AreListingMarks v p derived new
told_after world org own alikes v p r derived context old new view same_org same_own org_stays own_stays at right =
    let one = told_org world org own alikes v p r derived context old view same_org at right in
    let two = told_own world org own alikes v p r derived context old view same_own at right in
    let A : WorldValue → Type 0 = λ w. AreMarks w p derived (map placed_value org.statements) new.org.items in
    let B : WorldValue → Type 0 = λ w. AreMarks w p derived (map placed_value own.statements) new.own.items in
    let T : ListingValue → Type 0 = λ l. AreListingMarks l p derived new in
    subst T view (record { org = subst A same_org (org_stays one.0 one.1); own = subst B same_own (own_stays two.0 two.1) })
