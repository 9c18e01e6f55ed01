-- Elements of a statement as the code holds them.
use mathlib.Core.Bool.{beq}
use Rattle.std.proofs.Common.{◌≡◌, ◌↔◌, ◌∙◌, not, Option, None, IfSome, Any, ℕ, ◌+◌, ◌<◌, ◌≤◌, List, [], ◌∷◌, ◌++◌, All, Bool, true, false, Some, IsSome, length, get_or, take, MatchBool, refl, sym, ap, subst, IsTrue, option_map}
use Rattle.std.proofs.lemmas.List.{get_or_default, take_all}
use Rattle.std.proofs.lemmas.List.Elements.{All-more}
use Rattle.std.specs.Option.{option_eq}
use Rattle.std.specs.Str.{chars}
use Rattle.iam_glob.specs.Glob.{Matches}
use Rattle.iam_glob.specs.declared.sign.Sign.{Sign}
use Rattle.iam_text.specs.declared.draft.Piece.{Piece}
use Rattle.iam_text.specs.Draft.{plain_draft}
use Rattle.iam_context.specs.Context.{ContextValue}
use Rattle.iam_context.specs.Resolve.{resolved}
use Rattle.iam_element.specs.Reading.{ResourceElement}
use Rattle.iam_match.specs.Statement.{ResourceMatches, TextMatches}
use Rattle.iam_match.specs.Code.Compared.{TellsOfPattern, TextDiffers}

-- a text without variables becomes its pattern
pub plain_resolved : (context : ContextValue) (signs : List Sign) → resolved context (plain_draft signs) ≡ Some signs
plain_resolved context [] = refl
plain_resolved context (sign ∷ signs) = ap (λ rest. option_map (λ more. (sign ∷ []) ++ more) rest) (plain_resolved context signs)

-- one text more, and all of them
pub one_more : {X : Type 0} (P : X → Type 0) (xs : List X) (i : ℕ) (x : X) → i < length xs → x ≡ get_or xs i x → All P (take i xs) → P x
    → All P (take (i + 1) xs)
one_more P xs i x below is all p = All-more P xs i x below all (subst P is p)

pub all_taken : {X : Type 0} (P : X → Type 0) (xs : List X) (i : ℕ) → length xs ≤ i → All P (take i xs) → All P xs
all_taken P xs i past all = subst (λ ys. All P ys) (take_all i xs past) all

pub none_any : {X : Type 0} (P : X → Type 0) (xs : List X) → All (λ x. ¬ P x) xs → ¬ Any P xs
none_any P xs none (k, x, below, at, p) = none k x below (subst P (sym at) p)

pub some_is : {X : Type 0} (P : X → Type 0) (xs : List X) (i : ℕ) (x : X) → i < length xs → x ≡ get_or xs i x → P x → Any P xs
some_is P xs i x below is p = (i, x, below, sym is, p)

-- all are P where that is asked, and else none
pub as_asked : {P : Type 0} (every told : Bool) → IsTrue told ↔ P → not (beq told every) ≡ false → MatchBool every P (¬ P)
as_asked true true is same = is.0 refl
as_asked true false is same = absurd (let wrong : ⊥ = cc in wrong)
as_asked false true is same = absurd (let wrong : ⊥ = cc in wrong)
as_asked false false is same = λ p. let held = is.1 p in let wrong : ⊥ = cc in wrong

pub not_asked : {P : Type 0} (every told : Bool) → IsTrue told ↔ P → not (beq told every) ≡ true → MatchBool every (¬ P) P
not_asked true true is differs = absurd (let wrong : ⊥ = cc in wrong)
not_asked true false is differs = λ p. let held = is.1 p in let wrong : ⊥ = cc in wrong
not_asked false true is differs = is.0 refl
not_asked false false is differs = absurd (let wrong : ⊥ = cc in wrong)

pub all_or_any : {X : Type 0} (P : X → Type 0) (every : Bool) (xs : List X) → All (λ x. MatchBool every (P x) (¬ P x)) xs
    → IsTrue every ↔ MatchBool every (All P xs) (Any P xs)
all_or_any P true xs all = (λ t. all, λ a. refl)
all_or_any P false xs none = (λ t. absurd (let wrong : ⊥ = cc in wrong), λ some. absurd (none_any P xs none some))

pub not_as_asked : {X : Type 0} (P : X → Type 0) (every : Bool) (xs : List X) (i : ℕ) (x : X) → i < length xs → x ≡ get_or xs i x
    → MatchBool every (¬ P x) (P x) → IsTrue (not every) ↔ MatchBool every (All P xs) (Any P xs)
not_as_asked P true xs i x below is fails = (λ t. absurd (let wrong : ⊥ = cc in wrong), λ all. absurd (fails (subst P (sym is) (all i x below))))
not_as_asked P false xs i x below is p = (λ t. some_is P xs i x below is p, λ some. refl)

-- nothing where R does not hold, else whether M does
abbrev pub Tells : Type 0 → Type 0 → Option Bool → Type 0
Tells R M None = ¬ R × ¬ M
Tells R M (Some matched) = R × (IsTrue matched ↔ M)

pub tells_match : (R M : Type 0) (answer : Option Bool) → Tells R M answer → option_eq beq answer (Some true) ≡ true → M
tells_match R M None told is = absurd (let wrong : ⊥ = cc in wrong)
tells_match R M (Some true) told is = told.1.0 refl
tells_match R M (Some false) told is = absurd (let wrong : ⊥ = cc in wrong)

pub tells_none : (R M : Type 0) (answer : Option Bool) → Tells R M answer → option_eq beq answer (Some true) ≡ false → ¬ M
tells_none R M None told is = told.1
tells_none R M (Some true) told is = absurd (let wrong : ⊥ = cc in wrong)
tells_none R M (Some false) told is = λ m. let held = told.1.1 m in let wrong : ⊥ = cc in wrong

pub tells_other : {R M : Type 0} (answer : Option Bool) → Tells R M answer → not (option_eq beq answer (Some false)) ≡ false → R × ¬ M
tells_other None told is = absurd (let wrong : ⊥ = cc in wrong)
tells_other (Some true) told is = absurd (let wrong : ⊥ = cc in wrong)
tells_other (Some false) told is = (told.0, λ m. let held = told.1.1 m in let wrong : ⊥ = cc in wrong)

pub tells_no_other : {R M : Type 0} (answer : Option Bool) → Tells R M answer → not (option_eq beq answer (Some false)) ≡ true → ¬ (R × ¬ M)
tells_no_other None told is = λ both. told.0 both.0
tells_no_other (Some true) told is = λ both. both.1 (told.1.0 refl)
tells_no_other (Some false) told is = absurd (let wrong : ⊥ = cc in wrong)

same_signs : (signs others : List Sign) → Some signs ≡ Some others → signs ≡ others
same_signs signs others e = cc

pub of_pattern : (context : ContextValue) (text : List Piece) (resource : List ℕ) (answer : Option Bool)
    → TellsOfPattern (resolved context text) (λ signs. Matches signs (chars resource)) answer
    → Tells (IsSome (resolved context text)) (TextMatches context resource text) answer
of_pattern context text resource None is = (
  λ some. let none : IsSome {T = List Sign} None = subst IsSome is some in let wrong : ⊥ = cc in wrong,
  λ m. let none : None ≡ Some m.0 = sym is ∙ m.1 in let wrong : ⊥ = cc in wrong,
)
of_pattern context text resource (Some holds) (signs, is, agrees) = (
  subst IsSome (sym is) refl,
  (
    λ yes. (signs, is, agrees.0 yes),
    λ m. agrees.1 (subst (λ s. Matches s (chars resource)) (sym (same_signs signs m.0 (sym is ∙ m.1))) m.2),
  ),
)

-- all are P and none is Q
pub all_but : {X : Type 0} (P Q : X → Type 0) (xs : List X) → All (λ x. P x × ¬ Q x) xs ↔ (All P xs × ¬ Any Q xs)
all_but P Q xs = (
  λ all. (λ k d below. (all k d below).0, none_any Q xs (λ k d below. (all k d below).1)),
  λ both k d below. (both.0 k d below, λ q. both.1 (k, get_or xs k d, below, get_or_default xs k (get_or xs k d) d below, q)),
)

-- an element that is not negated, and one that is
pub plain_element : (element : ResourceElement) (texts : List (List Piece)) (resource : List ℕ) (context : ContextValue) (matched : Bool)
    → element.negated ≡ false → texts ≡ element.texts → IsTrue matched ↔ Any (TextMatches context resource) texts
    → IsTrue matched ↔ ResourceMatches (Some element) resource context
plain_element element texts resource context matched plain same agrees =
    let some = Any (TextMatches context resource) element.texts in
    subst (λ (negated : Bool). IsTrue matched ↔ MatchBool negated (All (λ text. IsSome (resolved context text)) element.texts × ¬ some) some)
    (sym plain) (subst (λ (ts : List (List Piece)). IsTrue matched ↔ Any (TextMatches context resource) ts) same agrees)

pub negated_element : (element : ResourceElement) (texts : List (List Piece)) (resource : List ℕ) (context : ContextValue) (differ : Bool)
    → element.negated ≡ true → texts ≡ element.texts → IsTrue differ ↔ All (TextDiffers context resource) texts
    → IsTrue differ ↔ ResourceMatches (Some element) resource context
negated_element element texts resource context differ negated same agrees =
    let some = Any (TextMatches context resource) element.texts in
    let both = all_but (λ text. IsSome (resolved context text)) (TextMatches context resource) element.texts in
    let here = subst (λ (ts : List (List Piece)). IsTrue differ ↔ All (TextDiffers context resource) ts) same agrees in
    subst (λ (negated : Bool). IsTrue differ ↔ MatchBool negated (All (λ text. IsSome (resolved context text)) element.texts × ¬ some) some)
    (sym negated) (λ t. both.0 (here.0 t), λ b. here.1 (both.1 b))
