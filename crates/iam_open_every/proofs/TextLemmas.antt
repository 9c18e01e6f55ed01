-- Texts of which a line is the first to speak, among those that are shown of its kinds.
use Rattle.std.proofs.Common.{◌≡◌, ◌∷◌, [], ◌++◌, ◌∙◌, ℕ, List, Some, String, ap, chars, get_or, map, refl, string_bytes, subst, sym, take}
use Rattle.std.proofs.lemmas.List.{map-append}
use Rattle.std.proofs.lemmas.List.Elements.{Contains-get_or}
use Rattle.std.specs.Global.{Global}
use Rattle.std.specs.List.{All, slice_get}
use Rattle.std.specs.Str.{IsUtf8}
use Rattle.iam_glob.specs.Glob.{Matches}
use Rattle.iam_glob.specs.declared.sign.Sign.{Sign}
use Rattle.iam_kinds.specs.Answers.{IsAnswer}
use Rattle.iam_kinds.specs.Kinds.{Agree, IsMeant, Question}
use Rattle.iam_kinds.specs.Shown.{AreKinds}
use Rattle.iam_kinds.specs.declared.kinds.Kinds.{Kinds}
use Rattle.iam_decision.specs.Matched.{Selects}
use Rattle.iam_layers.specs.declared.unnamed.Unnamed.{Unnamed}
use Rattle.iam_every.specs.Code.Rows.{IsFirstOf}
use Rattle.iam_every.specs.Every.{EveryValue, IsFirst, LineValue, arn_signs, line_question, patterns_of}
use Rattle.iam_every.specs.Groups.{AgreeOn}
use Rattle.iam_every.specs.Names.{text_question}
use Rattle.iam_every.proofs.LineLemmas.{asked_about, shown_agree, shown_first, shown_unnamed, text_scalars}
use Rattle.iam_every.proofs.ListLemmas.{here, mapped, of_mapped}
use Rattle.iam_every.proofs.MemberLemmas.{chosen_in, in_chosen, later_in}
use Rattle.iam_every.proofs.NamesLemmas.{one_some}
use Rattle.iam_every.proofs.WalkLemmas.{select_pass, select_push}
use Rattle.iam_open_every.specs.Looked.{AreOpenGroupsAt}
use Rattle.iam_open_every.specs.Texts.{AreAllTexts}
use Rattle.iam_open_every.specs.Turned.{AreTurnedAlike}

-- ---- as they are chosen, one by one
pub next_pushed : (P : List ℕ → Type 0) (done chosen : List (String Global)) (text : String Global)
    → Selects P (map string_bytes done) (map string_bytes chosen) → P (string_bytes text)
    → Selects P (map string_bytes (done ++ text ∷ [])) (map string_bytes (chosen ++ text ∷ []))
next_pushed P done chosen text so_far holds =
    subst (λ (l : List (List ℕ)). Selects P l (map string_bytes (chosen ++ text ∷ []))) (sym (map-append string_bytes done (text ∷ [])))
    (subst (Selects P (map string_bytes done ++ string_bytes text ∷ [])) (sym (map-append string_bytes chosen (text ∷ [])))
    (select_push P (map string_bytes done) (string_bytes text) (map string_bytes chosen) so_far holds))

pub next_passed : (P : List ℕ → Type 0) (done chosen : List (String Global)) (text : String Global)
    → Selects P (map string_bytes done) (map string_bytes chosen) → ¬ P (string_bytes text)
    → Selects P (map string_bytes (done ++ text ∷ [])) (map string_bytes chosen)
next_passed P done chosen text so_far not =
    subst (λ (l : List (List ℕ)). Selects P l (map string_bytes chosen)) (sym (map-append string_bytes done (text ∷ [])))
    (select_pass P (map string_bytes done) (string_bytes text) (map string_bytes chosen) so_far not)

-- ---- all that are shown
-- what is asked by the line's pattern, that of ARNs and those of the lines before is what is asked of the line
pub line_answer : (every : EveryValue) (k : ℕ) (line : LineValue) (groups : List (List (List Sign))) (kinds : Kinds) (own arn : List Sign)
    (before : List (List Sign)) → own ≡ line.pattern → arn ≡ arn_signs → before ≡ patterns_of (take k every.lines)
    → IsAnswer (text_question groups own (arn ∷ []) before (map (λ resource. resource.arn) every.world.resources)) kinds
    → IsAnswer (line_question every k line groups) kinds
line_answer every k line groups kinds own arn before own_is arn_is before_is answer =
    let Ask = λ (pattern arns : List Sign) (patterns : List (List Sign)).
    IsAnswer (text_question groups pattern (arns ∷ []) patterns (map (λ resource. resource.arn) every.world.resources)) kinds in
    subst (λ x. Ask x arn_signs (patterns_of (take k every.lines))) own_is
    (subst (λ x. Ask own x (patterns_of (take k every.lines))) arn_is (subst (λ x. Ask own arn x) before_is answer))

-- what the answer shows are texts of ARNs that no resource has; those of which the line is the first to speak are all that there are
pub are_texts : (every : EveryValue) (p k : ℕ) (line : LineValue) (groups : List (List (List Sign))) (texts first : List (List ℕ))
    → All IsUtf8 (map (λ resource. resource.arn) every.world.resources) → slice_get every.lines k ≡ Some line
    → AreKinds (line_question every k line groups) (map chars texts) → Selects (λ text. IsFirstOf every.lines text k) texts first
    → AreOpenGroupsAt every.world p line.unnamed groups → AreAllTexts every p k first
are_texts every p k line groups texts first names at kinds chosen tell = record {
  lined = λ i d below.
      let text = get_or first i d in
      let (among, (found, is_first)) = chosen_in P texts first text chosen (Contains-get_or first i d below) in
      let meant = kinds.meant (chars text) (mapped chars text texts among) in
      (found.unnamed, (shown_unnamed every k line groups text meant, arn_of text meant, (found, is_first, refl)));
  whole = λ text unnamed utf8 (no_name, arn, (found, is_first, same)).
      let one : found ≡ line = one_some (slice_get every.lines k) found line is_first.at at in
      let its : IsFirst every.lines text k line = subst (λ (x : LineValue). IsFirst every.lines text k x) one is_first in
      let its_unnamed : unnamed ≡ line.unnamed = same ∙ ap (λ (x : LineValue). x.unnamed) one in
      let asks = asked_about every k line groups text names utf8 its.matches arn no_name in
      let (spelled, there, agree) = kinds.whole (chars text) (text_scalars text utf8) asks in
      let (shown, among, is) = of_mapped chars spelled texts there in
      let meant : IsMeant question (chars shown) = subst (IsMeant question) (sym is) (kinds.meant spelled there) in
      let alike : Agree question (chars shown) (chars text) = subst (λ (x : List ℕ). Agree question x (chars text)) (sym is) agree in
      let says : AgreeOn groups (chars shown) (chars text) = shown_agree every k line groups shown text meant alike its in
      let chosen_one = in_chosen P texts first shown chosen among (line, shown_first every k line groups shown text meant alike its) in (
        shown,
        chosen_one,
        λ action. subst (λ (u : Unnamed). AreTurnedAlike every.world p u action shown text × AreTurnedAlike every.world p u action text shown)
            (sym its_unnamed) (tell action shown text says, tell action text shown (back shown text says)),
      );
}
  where
    question : Question
    question = line_question every k line groups

    P : List ℕ → Type 0
    P text = IsFirstOf every.lines text k

    arn_of : (text : List ℕ) → IsMeant question (chars text) → Matches arn_signs (chars text)
    arn_of text meant = meant.within arn_signs (later_in line.pattern (arn_signs ∷ []) arn_signs (here arn_signs []))

    back : (shown text : List ℕ) → AgreeOn groups (chars shown) (chars text) → AgreeOn groups (chars text) (chars shown)
    back shown text says = λ group in'. let both = says group in' in (both.1, both.0)
