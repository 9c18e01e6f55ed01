-- Lines of the world after are said of the world before one by one.
use Rattle.std.proofs.Common.{◌≡◌, ◌<◌, ◌+◌, ◌∷◌, [], ◌++◌, ◌∙◌, zero, suc, ℕ, All, List, Some, ap, arith, get_or, length, map, refl, subst, sym, take}
use Rattle.std.proofs.lemmas.List.{get_or-map, length-map, map-append, take_more}
use Rattle.std.proofs.lemmas.List.Elements.{All-get_or}
use Rattle.std.proofs.lemmas.Slice.Zip.{all_zipped_more}
use Rattle.std.specs.List.{slice_get}
use Rattle.iam_layers.specs.Cell.{IsResource}
use Rattle.iam_world.specs.World.{ResourceValue, WorldValue}
use Rattle.iam_asked.specs.Before.{AreLinesBefore, IsFirstUnsaid, IsLineBefore, IsUnsaidBefore}
use Rattle.iam_asked.specs.TextLines.{IsKnown, TextLineValue, text_line_of}
use Rattle.iam_asked.specs.Texts.{IsAt, resource_texts}
use Rattle.iam_asked.specs.declared.text_fault.FaultyText.{FaultyText}
use Rattle.iam_asked.specs.declared.texts.TextLine.{TextLine}

-- an element of a mapped list
pub image_at : {X Y : Type 0} (g : X → Y) (xs : List X) (i : ℕ) (x : X) → slice_get xs i ≡ Some x → slice_get (map g xs) i ≡ Some (g x)
image_at g [] i x at = absurd (let wrong : ⊥ = cc in wrong)
image_at {X} {Y} g (y ∷ xs) zero x at = let same : y ≡ x = cc in ap (λ (z : X). Some (g z)) same
image_at g (y ∷ xs) (suc i) x at = image_at g xs i x at

pub resource_at : (world : WorldValue) (n : ℕ) (text : List ℕ) → IsResource world n (λ resource. text ≡ resource.arn) → IsAt (resource_texts world) text n
resource_at world n text (resource, at, is) = image_at (λ (x : ResourceValue). x.arn) world.resources n resource at ∙ ap (λ (t : List ℕ). Some t) (sym is)

pub here_at : {X : Type 0} (xs : List X) (i : ℕ) (x : X) → i < length xs → x ≡ get_or xs i x → slice_get xs i ≡ Some x
here_at [] i x inside is = absurd (omega (arith, inside))
here_at {X} (y ∷ xs) zero x inside is = ap (λ (z : X). Some z) (sym is)
here_at (y ∷ xs) (suc i) x inside is = here_at xs i x (omega (arith, inside)) is

-- what a line says is there
pub known_at : (after : WorldValue) (lines : List TextLine) (i : ℕ) (line : TextLine) → All (λ value. IsKnown after value.said) (map text_line_of lines)
    → i < length lines → line ≡ get_or lines i line → IsKnown after (text_line_of line).said
known_at after lines i line known inside is =
    let K : TextLineValue → Type 0 = λ value. IsKnown after value.said in
    let below : i < length (map text_line_of lines) = let long = length-map lines text_line_of in omega (arith, inside, long) in
    subst K (get_or-map text_line_of lines i line (text_line_of line) inside ∙ ap text_line_of (sym is))
    (All-get_or K (map text_line_of lines) i (text_line_of line) below known)

-- one line more
pub lines_more : (before after : WorldValue) (lines : List TextLine) (i : ℕ) (line was : TextLine) (old new : List TextLine)
    → AreLinesBefore before after (map text_line_of (take i lines)) (map text_line_of old) → i < length lines → line ≡ get_or lines i line
    → IsLineBefore before after (text_line_of line) (text_line_of was) → new ≡ old ++ (was ∷ [])
    → AreLinesBefore before after (map text_line_of (take (i + 1) lines)) (map text_line_of new)
lines_more before after lines i line was old new so_far inside is one added =
    let P = IsLineBefore before after in
    let both = all_zipped_more P (map text_line_of (take i lines)) (map text_line_of old) (text_line_of line) (text_line_of was) so_far one in
    let more : map text_line_of (take (i + 1) lines) ≡ map text_line_of (take i lines) ++ (text_line_of line ∷ []) =
    ap (map text_line_of) (take_more lines i line inside ∙ ap (λ (x : TextLine). take i lines ++ (x ∷ [])) (sym is)) ∙ map-append text_line_of (take i lines) (line ∷ []) in
    let kept : map text_line_of new ≡ map text_line_of old ++ (text_line_of was ∷ []) = ap (map text_line_of) added ∙ map-append text_line_of old (was ∷ []) in
    subst (λ (vs : List TextLineValue). AreLinesBefore before after vs (map text_line_of new)) (sym more)
    (subst (λ (vs : List TextLineValue). AreLinesBefore before after (map text_line_of (take i lines) ++ (text_line_of line ∷ [])) vs) (sym kept) both)

take_map : {X Y : Type 0} (g : X → Y) (xs : List X) (i : ℕ) → take i (map g xs) ≡ map g (take i xs)
take_map g xs zero = refl
take_map g [] (suc i) = refl
take_map g (x ∷ xs) (suc i) = ap (λ rest. g x ∷ rest) (take_map g xs i)

-- one that can't be said
pub first_unsaid : (before after : WorldValue) (lines : List TextLine) (i : ℕ) (line : TextLine) (were : List TextLine) (faulty : FaultyText)
    → AreLinesBefore before after (map text_line_of (take i lines)) (map text_line_of were) → i < length lines → line ≡ get_or lines i line → faulty.line ≡ i
    → IsUnsaidBefore before after (text_line_of line).said faulty.fault → IsFirstUnsaid before after (map text_line_of lines) faulty
first_unsaid before after lines i line were faulty so_far inside is number unsaid = record {
  line = text_line_of line;
  at = subst (λ k. slice_get (map text_line_of lines) k ≡ Some (text_line_of line)) (sym number) (image_at text_line_of lines i line (here_at lines i line inside is));
  is = unsaid;
  were = map text_line_of were;
  said =
      subst (λ k. AreLinesBefore before after (take k (map text_line_of lines)) (map text_line_of were)) (sym number)
      (subst (λ (vs : List TextLineValue). AreLinesBefore before after vs (map text_line_of were)) (sym (take_map text_line_of lines i)) so_far);
}
