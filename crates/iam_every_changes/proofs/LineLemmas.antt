-- What is looked at for a line tells all texts of which the line is the first to speak.
use Rattle.std.proofs.Common.{◌≡◌, [], ◌++◌, ◌⊎◌, inl, inr, ℕ, All, Contains, List, MatchOption, None, Option, Some, ap, chars, length, refl, subst, sym}
use Rattle.std.proofs.lemmas.List.{map-append}
use Rattle.std.proofs.lemmas.List.Elements.{All-append, Contains-append_cases, Contains-append_left, Contains-append_right}
use Rattle.std.proofs.lemmas.Option.{get_or_from_slice_get, slice_get_read, slice_get_within}
use Rattle.std.specs.List.{slice_get}
use Rattle.std.specs.Str.{IsUtf8}
use Rattle.iam_glob.specs.Glob.{Matches}
use Rattle.iam_glob.specs.declared.sign.Sign.{Sign}
use Rattle.iam_kinds.specs.Kinds.{Agree}
use Rattle.iam_decision.specs.declared.verdict.Verdict.{Verdict}
use Rattle.iam_layers.specs.Laws.{OneRequest}
use Rattle.iam_world.specs.World.{ResourceValue}
use Rattle.iam_asked.specs.Texts.{resource_texts}
use Rattle.iam_every.specs.Every.{AreOneKind, EveryValue, IsFirst, IsNamed, LineValue, arn_signs, line_question, patterns_of}
use Rattle.iam_every.specs.Groups.{AgreeOn}
use Rattle.iam_every.specs.OwnGroups.{AreOwnGroupsAt}
use Rattle.iam_every.proofs.AtLemmas.{groups_at}
use Rattle.iam_every.proofs.FirstLemmas.{in_firsts}
use Rattle.iam_every.proofs.LineLemmas.{asked_about, in_named, named_in, shown_agree, shown_first, shown_unnamed, text_scalars}
use Rattle.iam_every.proofs.ListLemmas.{mapped, of_mapped}
use Rattle.iam_every.proofs.NamesLemmas.{alike_names, one_some}
use Rattle.iam_every.proofs.OwnLemmas.{own_groups}
use Rattle.iam_every.proofs.RowLemmas.{decided_by}
use Rattle.iam_every_changes.specs.Changes.{Answers, AreStateGroups, ChangedValue, IsUnshownIn, TellsBoth, TellsIn}
use Rattle.iam_every_changes.specs.Code.Given.{AreUtf8}
use Rattle.iam_every_changes.specs.Made.{AreOfLine, AreOfText, AreOfTexts, IsAsked, unshown_row}
use Rattle.iam_every_changes.specs.States.{BothValue, IsNamedIn, StateValue, joint}
use Rattle.iam_asked.proofs.BeforeLemmas.{image_at}
use Rattle.iam_every_changes.proofs.JoinLemmas.{alone_in, at_image, joined_in}

-- ---- lines of the same patterns
pattern_at : (lines : List LineValue) (k : ℕ) (line : LineValue) → slice_get lines k ≡ Some line → slice_get (patterns_of lines) k ≡ Some line.pattern
pattern_at lines k line at = image_at (λ (l : LineValue). l.pattern) lines k line at

at_pattern : (lines : List LineValue) (k : ℕ) (pattern : List Sign) → slice_get (patterns_of lines) k ≡ Some pattern
    → (line : LineValue) × (slice_get lines k ≡ Some line) × (line.pattern ≡ pattern)
at_pattern lines k pattern at = at_image (λ (l : LineValue). l.pattern) lines k pattern at

-- a text that a line of the one matches is matched by one of the other
pub asked_across : (lines others : List LineValue) (text : List ℕ) → patterns_of lines ≡ patterns_of others → IsAsked lines text → IsAsked others text
asked_across lines others text same (k, line, below, is, matches) =
    let at = slice_get_read lines (length lines) k line refl below (sym is) in
    let there = subst (λ (l : List (List Sign)). slice_get l k ≡ Some line.pattern) same (pattern_at lines k line at) in
    let (other, other_at, pattern) = at_pattern others k line.pattern there in (
      k,
      other,
      slice_get_within others k other other_at,
      get_or_from_slice_get others k other other other_at,
      subst (λ (p : List Sign). Matches p (chars text)) (sym pattern) matches,
    )

pub first_across : (lines others : List LineValue) (text : List ℕ) (k : ℕ) (line : LineValue) → patterns_of lines ≡ patterns_of others
    → IsFirst lines text k line → (other : LineValue) × IsFirst others text k other
first_across lines others text k line same first =
    let there = subst (λ (l : List (List Sign)). slice_get l k ≡ Some line.pattern) same (pattern_at lines k line first.at) in
    let (other, at, is) = at_pattern others k line.pattern there in (
      other,
      record {
        at = at;
        matches = subst (λ (p : List Sign). Matches p (chars text)) (sym is) first.matches;
        first = λ j before below it matches.
            let back = subst (λ (l : List (List Sign)). slice_get l j ≡ Some before.pattern) (sym same) (pattern_at others j before it) in
            let (own, own_at, own_is) = at_pattern lines j before.pattern back in
            first.first j own below own_at (subst (λ (p : List Sign). Matches p (chars text)) (sym own_is) matches);
      },
    )

-- the line that is first on one side is first, by its number, on the other
pub first_at : (lines others : List LineValue) (text : List ℕ) (k : ℕ) (line other : LineValue) → patterns_of lines ≡ patterns_of others
    → IsFirst lines text k line → slice_get others k ≡ Some other → IsFirst others text k other
first_at lines others text k line other same first at =
    let (found, is) = first_across lines others text k line same first in
    subst (IsFirst others text k) (one_some (slice_get others k) found other is.at at) is

-- ---- names of both worlds
pub names_joint : (both : BothValue) → resource_texts (joint both).world ≡ resource_texts both.after.every.world ++ resource_texts both.before.every.world
names_joint both = map-append (λ (x : ResourceValue). x.arn) both.after.every.world.resources both.before.every.world.resources

pub joint_utf8 : (both : BothValue) → AreUtf8 both → All IsUtf8 (resource_texts (joint both).world)
joint_utf8 both utf8 =
    subst (All IsUtf8) (sym (names_joint both))
    (All-append IsUtf8 (resource_texts both.after.every.world) (resource_texts both.before.every.world) utf8.after utf8.before)

pub of_joint : (both : BothValue) (text : List ℕ) → IsNamed (joint both).world text → IsNamedIn both text
of_joint both text named =
    let among = subst (λ (l : List (List ℕ)). Contains l text) (names_joint both) (named_in (joint both).world text named) in
    elim (Contains-append_cases (resource_texts both.after.every.world) (resource_texts both.before.every.world) text among) [
      | inl after ↦ inr (in_named both.after.every.world text after)
      | inr before ↦ inl (in_named both.before.every.world text before)
    ]

pub to_joint : (both : BothValue) (text : List ℕ) → IsNamedIn both text → IsNamed (joint both).world text
to_joint both text named =
    in_named (joint both).world text (subst (λ (l : List (List ℕ)). Contains l text) (sym (names_joint both)) (elim named [
      | inl before ↦
          Contains-append_right (resource_texts both.after.every.world) (resource_texts both.before.every.world) text
          (named_in both.before.every.world text before)
      | inr after ↦
          Contains-append_left (resource_texts both.after.every.world) (resource_texts both.before.every.world) text
          (named_in both.after.every.world text after)
    ]))

-- ---- texts of one kind
-- texts that are of one kind for the line, by the groups of a state
record AreKin (every : EveryValue) (k : ℕ) (line : LineValue) (shown text : List ℕ) (groups : List (List (List Sign))) : Type 0 where
  pub at : slice_get every.lines k ≡ Some line
  pub shown_first : IsFirst every.lines shown k line
  pub text_first : IsFirst every.lines text k line
  pub shown_unnamed : ¬ IsNamed every.world shown
  pub text_unnamed : ¬ IsNamed every.world text
  pub agree : AgreeOn groups (chars shown) (chars text)

kin_with : OneRequest → (every : EveryValue) (principal : Option ℕ) (k : ℕ) (line : LineValue) (action shown text : List ℕ) (groups : List (List (List Sign)))
    (row : ChangedValue) (answer : Option Verdict) → AreKin every k line shown text groups
    → MatchOption principal (groups ≡ []) (λ p. AreOwnGroupsAt every.world p line.unnamed action groups) → row.action ≡ action → row.resource ≡ shown
    → Answers (record { every = every; principal = principal }) line.unnamed action shown answer
    → TellsIn (record { every = every; principal = principal }) action text line.unnamed row answer
kin_with one every None k line action shown text groups row answer kin own acts has is = is
kin_with one every (Some p) k line action shown text groups row answer kin own acts has (verdict, is, right) =
    let are = groups_at one every.world p line.unnamed action own.text own.applicable own.access groups own.asks
    (own_groups own.applicable own.access action groups own.are) in
    let decided = decided_by every p line.unnamed action shown verdict right in
    let kind : AreOneKind every p action shown text = record {
      number = k;
      line = line;
      one_first = kin.shown_first;
      other_first = kin.text_first;
      one_unnamed = kin.shown_unnamed;
      other_unnamed = kin.text_unnamed;
      groups = groups;
      are = are;
      agree = kin.agree;
    } in
    record {
      verdict = verdict;
      is = is;
      decides = alike_names every.world p line.unnamed action shown text groups verdict.decision are kin.agree decided;
      about = inr (subst (λ (a : List ℕ). AreOneKind every p a row.resource text) (sym acts)
          (subst (λ (x : List ℕ). AreOneKind every p action x text) (sym has) kind));
    }

-- what is looked at for the line tells the text, or says that it is not shown
pub line_tells : OneRequest → (both : BothValue) (action : List ℕ) (k : ℕ) (rows : List ChangedValue) (text : List ℕ) (was now : LineValue)
    → patterns_of both.before.every.lines ≡ patterns_of both.after.every.lines → AreUtf8 both → AreOfLine both action k rows → IsUtf8 text
    → Matches arn_signs (chars text) → IsFirst both.before.every.lines text k was → IsFirst both.after.every.lines text k now → ¬ IsNamedIn both text
    → (row : ChangedValue) × Contains rows row × (row.action ≡ action) × (TellsBoth both action text was.unnamed now.unnamed row ⊎ IsUnshownIn both text row)
line_tells one both action k rows text was now same utf8 of text_utf8 arn first_was first_now never = elim of.either [
  | inl (passes, is) ↦
      let row = unshown_row action of.now in
      let is_line : of.now ≡ now = one_some (slice_get both.after.every.lines k) of.now now of.now_at first_now.at in
      (row, alone_in row rows is, refl, inr (refl, (refl, (k, now, first_now, ap (λ (x : LineValue). x.text) is_line))))
  | inr texts ↦
      let is_was : of.was ≡ was = one_some (slice_get both.before.every.lines k) of.was was of.was_at first_was.at in
      let is_now : of.now ≡ now = one_some (slice_get both.after.every.lines k) of.now now of.now_at first_now.at in
      shown_tells one both action k rows text was now same utf8
      (subst (λ (x : LineValue). AreOfTexts both action k x now rows) is_was (subst (λ (x : LineValue). AreOfTexts both action k of.was x rows) is_now texts))
      text_utf8 arn first_was first_now never
]
  where
    shown_tells : OneRequest → (both : BothValue) (action : List ℕ) (k : ℕ) (rows : List ChangedValue) (text : List ℕ) (was now : LineValue)
        → patterns_of both.before.every.lines ≡ patterns_of both.after.every.lines → AreUtf8 both → AreOfTexts both action k was now rows → IsUtf8 text
        → Matches arn_signs (chars text) → IsFirst both.before.every.lines text k was → IsFirst both.after.every.lines text k now → ¬ IsNamedIn both text
        → (row : ChangedValue) × Contains rows row × (row.action ≡ action) × (TellsBoth both action text was.unnamed now.unnamed row ⊎ IsUnshownIn both text row)
    shown_tells one both action k rows text was now same utf8 of text_utf8 arn first_was first_now never =
        let every = joint both in
        let groups = of.groups in
        let unnamed : ¬ IsNamed every.world text = λ named. never (of_joint both text named) in
        let about = asked_about every k now groups text (joint_utf8 both utf8) text_utf8 first_now.matches arn unnamed in
        let (found, among, agree) = of.shown.kinds.whole (chars text) (text_scalars text text_utf8) about in
        let (shown, inside, spelled) = of_mapped chars found of.texts among in
        let alike : Agree (line_question every k now groups) (chars shown) (chars text) =
        subst (λ (x : List ℕ). Agree (line_question every k now groups) x (chars text)) (sym spelled) agree in
        let meant = of.shown.kinds.meant (chars shown) (mapped chars shown of.texts inside) in
        let shown_now = shown_first every k now groups shown text meant alike first_now in
        let shown_was = first_at both.after.every.lines both.before.every.lines shown k now was (sym same) shown_now first_was.at in
        let shown_never : ¬ IsNamedIn both shown = λ named. shown_unnamed every k now groups shown meant (to_joint both shown named) in
        let agrees = shown_agree every k now groups shown text meant alike first_now in
        let (old, new, own_was, own_now, firsts) = of.own in
        let (part, made, lift) = joined_in (AreOfText both action k was now) of.texts rows shown of.are inside in
        elim made [
          | inr (not_first, empty) ↦ absurd (not_first shown_now)
          | inl (is_first, (verdicts, before, after, is)) ↦
              let row : ChangedValue = record { action = action; resource = shown; verdicts = Some verdicts } in
              let old_agrees : AgreeOn old (chars shown) (chars text) =
              λ group in'. agrees group (in_firsts [] (old ++ new) groups group firsts (Contains-append_left old new group in')) in
              let new_agrees : AgreeOn new (chars shown) (chars text) =
              λ group in'. agrees group (in_firsts [] (old ++ new) groups group firsts (Contains-append_right old new group in')) in
              let tells : TellsBoth both action text was.unnamed now.unnamed row = record {
                verdicts = verdicts;
                is = refl;
                before = kin_of one both.before k was action shown text old row verdicts.before own_was refl refl (record {
                  at = first_was.at;
                  shown_first = shown_was;
                  text_first = first_was;
                  shown_unnamed = λ named. shown_never (inl named);
                  text_unnamed = λ named. never (inl named);
                  agree = old_agrees;
                }) before;
                after = kin_of one both.after k now action shown text new row verdicts.after own_now refl refl (record {
                  at = first_now.at;
                  shown_first = shown_now;
                  text_first = first_now;
                  shown_unnamed = λ named. shown_never (inr named);
                  text_unnamed = λ named. never (inr named);
                  agree = new_agrees;
                }) after;
              } in
              (row, lift row (alone_in row part is), refl, inl tells)
        ]
      where
        kin_of : OneRequest → (state : StateValue) (k : ℕ) (line : LineValue) (action shown text : List ℕ) (groups : List (List (List Sign)))
            (row : ChangedValue) (answer : Option Verdict) → AreStateGroups state k action groups → row.action ≡ action → row.resource ≡ shown
            → AreKin state.every k line shown text groups → Answers state line.unnamed action shown answer → TellsIn state action text line.unnamed row answer
        kin_of one state k line action shown text groups row answer (own, own_at, are) acts has kin answers =
            let is : own ≡ line = one_some (slice_get state.every.lines k) own line own_at kin.at in
            kin_with one state.every state.principal k line action shown text groups row answer kin
            (subst (λ (x : LineValue). MatchOption state.principal (groups ≡ []) (λ p. AreOwnGroupsAt state.every.world p x.unnamed action groups)) is are)
            acts has answers
