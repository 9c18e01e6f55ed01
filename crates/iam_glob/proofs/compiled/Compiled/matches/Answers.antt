use Rattle.std.proofs.Common.{◌≡◌, ◌∙◌, ◌↔◌, ◌++◌, ◌∷◌, [], ℕ, List, Bool, IsTrue, false, ap, map, subst, sym}
use Rattle.std.proofs.lemmas.Str.{chars-IsAscii}
use Rattle.std.specs.Str.{chars}
use Rattle.iam_glob.specs.Code.Compiled.{before_any, way_signs}
use Rattle.iam_glob.specs.Code.Walk.{Later, Walks}
use Rattle.iam_glob.specs.Glob.{Matches, plain_sign}
use Rattle.iam_glob.specs.Signs.{signs_in}
use Rattle.iam_glob.specs.declared.sign.Sign.{Sign}
use Rattle.iam_glob.specs.declared.sign.Sign.TheVariants.{Any}
use Rattle.iam_glob.proofs.CompiledLemmas.{front_any, front_matches, front_unlike, front_walks, literal_matches}
use Rattle.iam_glob.proofs.compiled.Compiled.matches.Goals as goal

pub returns-in-Literal : goal.returns-in-Literal
returns-in-Literal c =
    let M : List Sign → Type 0 = λ s. IsTrue c.eq.result ↔ Matches s (chars c.args.text.now) in
    let whole = sym c.self.view_is ∙ c.self.invariant.same ∙ ap way_signs c.in-Literal.is in
    subst M (sym whole)
    (literal_matches c.in-Literal.literal.now c.args.text.now c.eq.result (rw c.in-Literal.is at c.self.invariant.ascii) c.utf8.text
    (rw c.as_bytes.ensures.value at c.eq.ensures))

pub returns-in-Front : goal.returns-in-Front
returns-in-Front c =
    let M : List Sign → Type 0 = λ s. IsTrue c.is_some.result ↔ Matches s (chars c.args.text.now) in
    let whole = sym c.self.view_is ∙ c.self.invariant.same ∙ ap way_signs c.in-Front.is in
    let B : Bool → Type 0 = λ b. IsTrue b ↔ Matches (map plain_sign c.in-Front.front.now ++ (Any ∷ [])) (chars c.args.text.now) in
    subst M (sym whole) (subst B (sym c.is_some.ensures) (front_any c.in-Front.front.now (chars c.args.text.now) c.behind.result c.behind.ensures))

pub returns-in-Some : goal.returns-in-Some
returns-in-Some c =
    let M : List Sign → Type 0 = λ s. IsTrue c.matches.result ↔ Matches s (chars c.args.text.now) in
    let whole = sym c.self.view_is ∙ c.self.invariant.same ∙ ap way_signs c.in-Walked.is in
    let both = front_matches c.in-Walked.front.now (signs_in c.in-Walked.signs) (chars c.args.text.now) (chars c.in-Some.rest.now) c.in-Some.ensures in
    subst M (sym whole) (λ t. both.0 (c.matches.ensures.0 t), λ m. c.matches.ensures.1 (both.1 m))

pub returns-in-None : goal.returns-in-None
returns-in-None c =
    let M : List Sign → Type 0 = λ s. IsTrue false ↔ Matches s (chars c.args.text.now) in
    let whole = sym c.self.view_is ∙ c.self.invariant.same ∙ ap way_signs c.in-Walked.is in
    subst M (sym whole) (
      λ t. absurd (let wrong : ⊥ = cc in wrong),
      λ m. absurd (front_unlike c.in-Walked.front.now (signs_in c.in-Walked.signs) (chars c.args.text.now) c.in-None.ensures m),
    )

pub returns-in-Some-behind : goal.returns-in-Some-behind
returns-in-Some-behind c =
    let M : List Sign → Type 0 = λ s. IsTrue c.end_fits.result ↔ Matches s (chars c.args.text.now) in
    let whole = sym c.self.view_is ∙ c.self.invariant.same ∙ ap way_signs c.in-Pieces.is in
    let rest = c.in-Some-behind.rest.now in
    let signs = before_any c.in-Pieces.pieces.items ++ map plain_sign c.in-Pieces.back.now in
    let both = front_walks c.in-Pieces.front.now (Any ∷ signs) (chars c.args.text.now) (chars rest) c.in-Some-behind.ensures in
    let ends : IsTrue c.end_fits.result ↔ Later (Walks (λ d. d) signs) rest =
    rw (c.as_bytes-in-Some-behind.ensures.value, c.deref.ensures.value) at c.end_fits.ensures in
    let T : List ℕ → Type 0 = λ t. Later (Walks (λ d. d) signs) t in
    let letters : chars rest ≡ rest = chars-IsAscii rest c.if-is_ascii.ensures.cases in
    subst M (sym whole) (λ t. both.0 (subst T (sym letters) (ends.0 t)), λ m. ends.1 (subst T letters (both.1 m)))

pub returns-in-None-behind : goal.returns-in-None-behind
returns-in-None-behind c =
    let M : List Sign → Type 0 = λ s. IsTrue false ↔ Matches s (chars c.args.text.now) in
    let whole = sym c.self.view_is ∙ c.self.invariant.same ∙ ap way_signs c.in-Pieces.is in
    subst M (sym whole) (
      λ t. absurd (let wrong : ⊥ = cc in wrong),
      λ m. absurd (front_unlike c.in-Pieces.front.now (Any ∷ (before_any c.in-Pieces.pieces.items ++ map plain_sign c.in-Pieces.back.now))
          (chars c.args.text.now) c.in-None-behind.ensures m),
    )
