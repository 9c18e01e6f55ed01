-- The classes of an engine, and what holds of each principal and resource of a class.
use Rattle.std.proofs.Common.{◌≡◌, ℕ, ◌<◌, List, [], Some, get_or, length, refl, sym, ◌∙◌, subst}
use Rattle.std.proofs.lemmas.Option.{slice_get-get_or, slice_get_within}
use Rattle.std.specs.List.{slice_get}
use Rattle.iam_match.specs.Statement.{request_for}
use Rattle.iam_layers.specs.Cell.{IsSharedAt}
use Rattle.iam_world.specs.World.{WorldValue}
use Rattle.iam_index.proofs.ListLemmas.{get_more, some_same}
use Rattle.iam_classes.specs.Engine.{EngineValue, HasMore, IsClassAt, IsNumberAt, IsNumberOf, OfClass}
use Rattle.iam_classes.specs.Memo.{HasClass}
use Rattle.iam_classes.specs.declared.memo.Class.{Class}

-- a class that principal p and resource r have is there
pub class_there : (engine : EngineValue) (p r n : ℕ) → IsClassAt engine p r n → n < length engine.classes
class_there engine p r n (class, at, shared) = slice_get_within engine.classes n class at

-- principal p and resource r have the same class where no class came and none went
pub same_class : (old new : EngineValue) (p r n : ℕ) → new.world ≡ old.world → new.classes ≡ old.classes → IsClassAt old p r n → IsClassAt new p r n
same_class old new p r n world classes is =
    let W : WorldValue → Type 0 = λ w. HasClass w new.classes p r n in
    let C : List Class → Type 0 = λ cs. HasClass old.world cs p r n in
    subst W (sym world) (subst C (sym classes) is)

-- what holds of each principal and resource of a class holds of these
pub of_class : (engine : EngineValue) (p r n : ℕ) (P : ℕ → ℕ → Type 0) → IsClassAt engine p r n → OfClass engine n P → P p r
of_class engine p r n P (class, at, shared) (other, there, all) =
    let S : Class → Type 0 = λ k. IsSharedAt engine.world p r k.shared in all p r (subst S (some_same class other (sym at ∙ there)) shared)

-- it stays so where there are more classes
pub of_class_more : (old new : EngineValue) (n : ℕ) (P : ℕ → ℕ → Type 0) → new.world ≡ old.world → HasMore old.classes new.classes → OfClass old n P
    → OfClass new n P
of_class_more old new n P world (more, is) (class, at, all) =
    let C : List Class → Type 0 = λ cs. slice_get cs n ≡ Some class in
    let W : WorldValue → Type 0 = λ w. (p r : ℕ) → IsSharedAt w p r class.shared → P p r in
    (class, subst C (sym is) (get_more old.classes more n class at), subst W (sym world) all)

-- the number of the verdict on the requests of a class is that on each of them
pub of_number : (engine : EngineValue) (n a number : ℕ) → a < length engine.world.actions → IsNumberOf engine n a number
    → OfClass engine n (λ p r. IsNumberAt engine p a r number)
of_number engine n a number below (class, at, (ruling, there, answer)) =
    let action = get_or engine.world.actions a [] in
    let asked = slice_get-get_or engine.world.actions a [] below in (
      class,
      at,
      λ p r (applicable, access, accessed, own).
          (ruling, there, (applicable, request_for access action, (access, action, accessed, asked, refl), answer action applicable access asked own)),
    )
