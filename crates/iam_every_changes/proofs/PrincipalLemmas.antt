-- The principals of two worlds are found one at a time.
use Rattle.std.proofs.Common.{◌≡◌, ◌+◌, ◌++◌, ◌∷◌, [], ◌∙◌, zero, suc, ℕ, Bor, true, false, List, None, Option, Some, is_none, ap, append_assoc, arith, map, subst, sym, take}
use Rattle.std.proofs.lemmas.List.{append-nil, map-append}
use Rattle.std.specs.List.{slice_get}
use Rattle.std.specs.Option.{option_copied}
use Rattle.iam_decision.specs.Matched.{Selects}
use Rattle.iam_layers.specs.Cell.{IsPrincipal, principal_text}
use Rattle.iam_world.specs.World.{WorldValue}
use Rattle.iam_asked.specs.Code.Found.{IsPlaceOf}
use Rattle.iam_asked.specs.Texts.{IsNowhere, principal_texts}
use Rattle.iam_every.proofs.ReportLemmas.{zip_more}
use Rattle.iam_every.proofs.WalkLemmas.{select_pass, select_push}
use Rattle.iam_every_changes.specs.Code.Principals.{Adds, AddsAll, AddsAlone}
use Rattle.iam_every_changes.specs.Compared.{ArePrincipals, IsWho, who_of}
use Rattle.iam_every_changes.specs.declared.compared.Who.{Who}
use Rattle.iam_asked.specs.declared.places.Place.{Place}
use Rattle.iam_asked.proofs.BeforeLemmas.{image_at}

pub adds_nothing : (before after : WorldValue) (old : List Who) → Adds before after [] old old
adds_nothing before after old = ([], sym (append-nil old), tt)

-- one more
pub adds_next : (before after : WorldValue) (texts : List (List ℕ)) (text : List ℕ) (who : Who) (old so_far new : List Who) → Adds before after texts old so_far
    → IsWho before after text (who_of who) → new ≡ so_far ++ (who ∷ []) → Adds before after (texts ++ (text ∷ [])) old new
adds_next before after texts text who old so_far new (more, is, are) one added = (
  more ++ (who ∷ []),
  added ∙ ap (λ l. l ++ (who ∷ [])) is ∙ append_assoc old more (who ∷ []),
  zip_more (IsWho before after) texts (text ∷ []) (map who_of more) (who_of who ∷ []) (map who_of (more ++ (who ∷ []))) are (one, tt) (map-append who_of more (who ∷ [])),
)

taken_at : {X : Type 0} (xs : List X) (i : ℕ) (x : X) → slice_get xs i ≡ Some x → take (i + 1) xs ≡ take i xs ++ (x ∷ [])
taken_at [] i x at = absurd (let wrong : ⊥ = cc in wrong)
taken_at {X} (y ∷ xs) zero x at = let same : y ≡ x = cc in ap (λ (z : X). z ∷ []) same
taken_at (y ∷ xs) (suc i) x at =
    let last : suc i + 1 ≡ suc (i + 1) = omega arith in
    ap (λ k. take k (y ∷ xs)) last ∙ ap (λ rest. y ∷ rest) (taken_at xs i x at)

-- the text of the next principal
pub texts_more : (world : WorldValue) (p : ℕ) (text : List ℕ) → IsPrincipal world p (λ principal. text ≡ principal_text principal)
    → take (p + 1) (principal_texts world) ≡ take p (principal_texts world) ++ (text ∷ [])
texts_more world p text (principal, at, is) =
    taken_at (principal_texts world) p text (image_at principal_text world.principals p principal at ∙ ap (λ (t : List ℕ). Some t) (sym is))

pub all_more : (before after : WorldValue) (p : ℕ) (text : List ℕ) (who : Who) (old so_far new : List Who)
    → IsPrincipal after p (λ principal. text ≡ principal_text principal) → Adds before after (take p (principal_texts after)) old so_far
    → IsWho before after text (who_of who) → new ≡ so_far ++ (who ∷ []) → Adds before after (take (p + 1) (principal_texts after)) old new
all_more before after p text who old so_far new at adds one added =
    subst (λ (texts : List (List ℕ)). Adds before after texts old new) (sym (texts_more after p text at))
    (adds_next before after (take p (principal_texts after)) text who old so_far new adds one added)

-- those that the world before alone has
abbrev pub AreAlone : WorldValue → WorldValue → ℕ → List Who → List Who → Type 0
AreAlone before after p old new =
    (alone : List (List ℕ)) × Selects (IsNowhere (principal_texts after)) (take p (principal_texts before)) alone × Adds before after alone old new

pub alone_more : (before after : WorldValue) (p : ℕ) (text : List ℕ) (who : Who) (old so_far new : List Who)
    → IsPrincipal before p (λ principal. text ≡ principal_text principal) → AreAlone before after p old so_far → IsNowhere (principal_texts after) text
    → IsWho before after text (who_of who) → new ≡ so_far ++ (who ∷ []) → AreAlone before after (p + 1) old new
alone_more before after p text who old so_far new at (alone, selects, adds) nowhere one added = (
  alone ++ (text ∷ []),
  subst (λ (texts : List (List ℕ)). Selects (IsNowhere (principal_texts after)) texts (alone ++ (text ∷ []))) (sym (texts_more before p text at))
      (select_push (IsNowhere (principal_texts after)) (take p (principal_texts before)) text alone selects nowhere),
  adds_next before after alone text who old so_far new adds one added,
)

pub alone_passed : (before after : WorldValue) (p : ℕ) (text : List ℕ) (old so_far : List Who) → IsPrincipal before p (λ principal. text ≡ principal_text principal)
    → AreAlone before after p old so_far → ¬ IsNowhere (principal_texts after) text → AreAlone before after (p + 1) old so_far
alone_passed before after p text old so_far at (alone, selects, adds) there = (
  alone,
  subst (λ (texts : List (List ℕ)). Selects (IsNowhere (principal_texts after)) texts alone) (sym (texts_more before p text at))
      (select_pass (IsNowhere (principal_texts after)) (take p (principal_texts before)) text alone selects there),
  adds,
)

-- all of them
pub principals_are : (before after : WorldValue) (first second : List Who) → AddsAll before after [] first → AddsAlone before after first second
    → ArePrincipals before after (map who_of second)
principals_are before after first second (all, is, are) (alone, selects, (more, adds, others)) =
    let those : first ≡ all = is in
    let last : map who_of second ≡ map who_of all ++ map who_of more = ap (map who_of) (adds ∙ ap (λ l. l ++ more) those) ∙ map-append who_of all more in
    (alone, selects, zip_more (IsWho before after) (principal_texts after) alone (map who_of all) (map who_of more) (map who_of second) are others last)

-- a text that has no place stands nowhere, and one that has a place stands there
pub no_place : (texts : List (List ℕ)) (text : List ℕ) (place : Option (Bor Place)) → IsPlaceOf texts text (option_copied place) → is_none place ≡ true
    → IsNowhere texts text
no_place texts text None is none = is
no_place texts text (Some place) is none = absurd (let wrong : ⊥ = cc in wrong)

pub has_place : (texts : List (List ℕ)) (text : List ℕ) (place : Option (Bor Place)) → IsPlaceOf texts text (option_copied place) → is_none place ≡ false
    → ¬ IsNowhere texts text
has_place texts text None is some = λ _. let wrong : ⊥ = cc in wrong
has_place texts text (Some place) is some = λ nowhere. nowhere place.now.first is.0.0
