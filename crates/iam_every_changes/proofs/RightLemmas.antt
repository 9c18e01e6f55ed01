-- Each row that is told is right.
use Rattle.std.proofs.Common.{◌≡◌, ◌∷◌, [], ◌++◌, ◌∙◌, ◌⊎◌, inl, inr, ℕ, All, Bool, true, false, Contains, List, Some, ap, chars, codes, filter, get_or, length, refl, subst, sym}
use Rattle.std.proofs.lemmas.List.Elements.{All-contains, Contains-append_cases, Contains-get_or}
use Rattle.std.proofs.lemmas.Str.{IsUtf8-from_ascii}
use Rattle.std.specs.List.{range_with_len, slice_get}
use Rattle.std.specs.Str.{IsUtf8}
use Rattle.iam_layers.specs.declared.unnamed.Unnamed.{Unnamed}
use Rattle.iam_asked.specs.Texts.{resource_texts}
use Rattle.iam_every.specs.Every.{IsResourceText, LineValue, Says, arn_signs}
use Rattle.iam_every.proofs.FirstLemmas.{of_firsts}
use Rattle.iam_every.proofs.LineLemmas.{ascii, in_at, in_named, shown_unnamed}
use Rattle.iam_every.proofs.ListLemmas.{behind, first_or, here, mapped, none, of_mapped}
use Rattle.iam_every.proofs.MemberLemmas.{chosen_in, right_fits}
use Rattle.iam_every.proofs.TellingLemmas.{of_filter}
use Rattle.iam_every_changes.specs.Changes.{Answers, ChangedValue, HasChange, IsRightIn, is_told}
use Rattle.iam_every_changes.specs.Made.{AreMade, AreOfAction, AreOfLine, AreOfTarget, AreOfText, AreOfTexts, AreTargets, IsAsked, IsTarget, TargetValue, own_texts, unshown_row}
use Rattle.iam_every_changes.specs.States.{AreBoth, BothValue, IsMeantIn, IsNamedIn, joint}
use Rattle.iam_every_changes.specs.declared.looked.Verdicts.{Verdicts}
use Rattle.iam_every_changes.proofs.ActionLemmas.{asked_meant}
use Rattle.iam_every_changes.proofs.JoinLemmas.{joined_of, only_row}
use Rattle.iam_every_changes.proofs.LineLemmas.{first_at, to_joint}

-- what is left of a list by a test passes it
passes_filter : {X : Type 0} (p : X → Bool) (xs : List X) (x : X) → Contains (filter p xs) x → p x ≡ true
passes_filter p [] x among = absurd (none x among)
passes_filter {X} p (y ∷ xs) x among = by_test (passes_filter p xs x) (p y) refl among
  where
    by_test : (Contains (filter p xs) x → p x ≡ true) → (b : Bool) → p y ≡ b → Contains (filter p (y ∷ xs)) x → p x ≡ true
    by_test later true is there = elim (first_or y x (filter p xs) (rw is at there)) [
      | inl same ↦ sym (ap p same) ∙ is
      | inr rest ↦ later rest
    ]
    by_test later false is there = later (rw is at there)

-- ---- a row is told because access differs
change_right : (both : BothValue) (action text : List ℕ) (was now : Unnamed) (verdicts : Verdicts) (row : ChangedValue)
    → record { action = action; resource = text; verdicts = Some verdicts } ≡ row → is_told row ≡ true → IsMeantIn both action
    → IsNamedIn both text ⊎ IsResourceText text → Says both.before.every text was → Says both.after.every text now
    → Answers both.before was action text verdicts.before → Answers both.after now action text verdicts.after → IsRightIn both row
change_right both action text was now verdicts row is told meant resource says_was says_now before after =
    let its : ChangedValue = record { action = action; resource = text; verdicts = Some verdicts } in
    let has : HasChange both its verdicts = record {
      action = meant;
      resource = resource;
      was = was;
      now = now;
      says_was = says_was;
      says_now = says_now;
      before = before;
      after = after;
      changes = ap is_told is ∙ told;
    } in
    subst (IsRightIn both) is has

-- ---- of the texts that are looked at one by one
own_form : (both : BothValue) (text : List ℕ) → Contains (own_texts both) text → IsNamedIn both text ⊎ IsResourceText text
own_form both text among =
    elim (Contains-append_cases (resource_texts both.after.every.world) (resource_texts both.before.every.world ++ (codes "*" ∷ [])) text among) [
      | inl after ↦ inl (inr (in_named both.after.every.world text after))
      | inr others ↦ elim (Contains-append_cases (resource_texts both.before.every.world) (codes "*" ∷ []) text others) [
        | inl before ↦ inl (inl (in_named both.before.every.world text before))
        | inr star ↦ elim (first_or (codes "*") text [] star) [
          | inl same ↦
              inr (subst IsResourceText same (record { utf8 = IsUtf8-from_ascii (codes "*") (ascii (codes "*") refl); form = inl refl }))
          | inr never ↦ absurd (none text never)
        ]
      ]
    ]

own_right : (both : BothValue) (targets : List TargetValue) (action : List ℕ) (target : TargetValue) (part : List ChangedValue) (row : ChangedValue)
    → AreTargets both targets → IsMeantIn both action → Contains targets target → AreOfTarget both action target part → Contains part row
    → is_told row ≡ true → IsRightIn both row
own_right both targets action target part row (texts, (asked, chosen, firsts), fit) meant inside (verdicts, before, after, is) among told =
    let (text, there, its) = right_fits (IsTarget both) texts targets target fit inside in
    let own = (chosen_in (IsAsked both.after.every.lines) (own_texts both) asked text chosen (of_firsts [] asked texts text firsts there)).0 in
    change_right both action target.text target.was target.now verdicts row (only_row _ row part is among) told meant
    (subst (λ (t : List ℕ). IsNamedIn both t ⊎ IsResourceText t) (sym its.is) (own_form both text own))
    (subst (λ (t : List ℕ). Says both.before.every t target.was) (sym its.is) its.was)
    (subst (λ (t : List ℕ). Says both.after.every t target.now) (sym its.is) its.now) before after

-- ---- of a line
texts_right : (both : BothValue) (action : List ℕ) (k : ℕ) (was now : LineValue) (rows : List ChangedValue) (row : ChangedValue) → AreBoth both
    → IsMeantIn both action → slice_get both.before.every.lines k ≡ Some was → AreOfTexts both action k was now rows → Contains rows row → is_told row ≡ true
    → IsRightIn both row
texts_right both action k was now rows row is meant was_at of among told =
    let (text, there, (part, made, inside)) = joined_of (AreOfText both action k was now) of.texts rows row of.are among in
    elim made [
      | inr (not_first, empty) ↦ absurd (none row (subst (λ (l : List ChangedValue). Contains l row) empty inside))
      | inl (first, (verdicts, before, after, alone)) ↦
          let m = of.shown.kinds.meant (chars text) (mapped chars text of.texts there) in
          let never : ¬ IsNamedIn both text = λ named. shown_unnamed (joint both) k now of.groups text m (to_joint both text named) in
          let arn = m.within arn_signs (behind now.pattern arn_signs (arn_signs ∷ []) (here arn_signs [])) in
          let first_was = first_at both.after.every.lines both.before.every.lines text k now was (sym is.patterns) first was_at in
          change_right both action text was.unnamed now.unnamed verdicts row (only_row _ row part alone inside) told meant
          (inr (record { utf8 = All-contains IsUtf8 of.texts text of.shown.utf8 there; form = inr arn }))
          (k, was, first_was, inr (λ named. never (inl named), refl)) (k, now, first, inr (λ named. never (inr named), refl)) before after
    ]

line_right : (both : BothValue) (action : List ℕ) (k : ℕ) (rows : List ChangedValue) (row : ChangedValue) → AreBoth both → IsMeantIn both action
    → AreOfLine both action k rows → Contains rows row → is_told row ≡ true → IsRightIn both row
line_right both action k rows row is meant of among told = elim of.either [
  | inl (passes, alone) ↦
      subst (IsRightIn both) (only_row (unshown_row action of.now) row rows alone among) (k, of.now, of.now_at, refl, inl (meant, passes))
  | inr texts ↦ texts_right both action k of.was of.now rows row is meant of.was_at texts among told
]

-- ---- all
action_right : (both : BothValue) (targets : List TargetValue) (action : List ℕ) (rows : List ChangedValue) (row : ChangedValue) → AreBoth both
    → AreTargets both targets → IsMeantIn both action → AreOfAction both targets action rows → Contains rows row → is_told row ≡ true → IsRightIn both row
action_right both targets action rows row is are meant of among told =
    elim (Contains-append_cases of.own of.lined row (subst (λ (l : List ChangedValue). Contains l row) of.are among)) [
      | inl own ↦
          let (target, inside, (part, made, there)) = joined_of (AreOfTarget both action) targets of.own row of.are_own own in
          own_right both targets action target part row are meant inside made there told
      | inr lined ↦
          let (k, inside, (part, made, there)) =
          joined_of (AreOfLine both action) (range_with_len 0 (length both.after.every.lines)) of.lined row of.are_lined lined in
          line_right both action k part row is meant made there told
    ]

looked_right : (both : BothValue) (looked : List ChangedValue) (row : ChangedValue) → AreBoth both → AreMade both looked → Contains looked row
    → is_told row ≡ true → IsRightIn both row
looked_right both looked row is (inl (pass, rows)) among told =
    let unshown : LineValue → ChangedValue = unshown_row both.after.every.written in
    let (line, there, same) = of_mapped unshown row both.after.every.lines (subst (λ (l : List ChangedValue). Contains l row) rows among) in
    let (k, at) = in_at both.after.every.lines line there in
    subst (IsRightIn both) same (k, line, at, refl, inr (pass, refl))
looked_right both looked row is (inr (targets, actions, are, asked, joined)) among told =
    let (action, inside, (part, made, there)) = joined_of (AreOfAction both targets) actions looked row joined among in
    action_right both targets action part row is are (asked_meant both actions action is.actions asked inside) made there told

pub made_right : (both : BothValue) (looked : List ChangedValue) → AreBoth both → AreMade both looked → All (IsRightIn both) (filter is_told looked)
made_right both looked is made k d below =
    let row = get_or (filter is_told looked) k d in
    let among = Contains-get_or (filter is_told looked) k d below in
    looked_right both looked row is made (of_filter is_told looked row among) (passes_filter is_told looked row among)
