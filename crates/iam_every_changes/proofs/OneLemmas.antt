-- There is one list of what is looked at, and of what is told.
use Rattle.std.proofs.Common.{◌≡◌, ◌∷◌, [], ◌++◌, ◌∙◌, ◌⊎◌, inl, inr, ℕ, List, MatchOption, None, Option, Some, ap, chars, filter, length, map, subst, sym}
use Rattle.std.specs.List.{AllZip, range_with_len, slice_get}
use Rattle.iam_glob.specs.declared.sign.Sign.{Sign}
use Rattle.iam_kinds.specs.Kinds.{folded_question}
use Rattle.iam_kinds.specs.Laws.{OneListOfKinds, OneListOfKindsFold}
use Rattle.iam_kinds.specs.Shown.{AreKindsFold}
use Rattle.iam_kinds.specs.States.{PassesLimit}
use Rattle.iam_decision.specs.Applicable.{ApplicableValue}
use Rattle.iam_decision.specs.declared.verdict.Verdict.{Verdict}
use Rattle.iam_layers.specs.Laws.{OneRequest, OneVerdictAt}
use Rattle.iam_layers.specs.declared.unnamed.Unnamed.{Unnamed}
use Rattle.iam_every.specs.Every.{EveryValue, LineValue, line_question}
use Rattle.iam_every.specs.Made.{AreShown}
use Rattle.iam_every.specs.Names.{action_question}
use Rattle.iam_every.specs.OwnActions.{AreOwnActionGroups, AreOwnPolicies, OneListOfActionGroups}
use Rattle.iam_every.specs.OwnGroups.{AreFirsts, AreOwnGroupsAt}
use Rattle.iam_every.proofs.AtLemmas.{one_list_of_groups_at}
use Rattle.iam_every.proofs.FirstLemmas.{one_firsts, one_selected, one_zipped}
use Rattle.iam_every.proofs.NamesLemmas.{one_some}
use Rattle.iam_every.proofs.OneLemmas.{one_policies, one_said_list}
use Rattle.iam_every.proofs.OneRowsLemmas.{one_verdict, spelled_alike}
use Rattle.iam_every_changes.specs.Changes.{ActionsPassIn, Answers, AreBothActionGroups, AreBothGroups, AreStateGroups, AreStatePolicies, ChangedValue, TextsPassIn, is_told}
use Rattle.iam_every_changes.specs.Made.{AreAsked, AreJoined, AreMade, AreOfAction, AreOfLine, AreOfTarget, AreOfText, AreOfTexts, AreShownActions, AreTargets, IsAsked, IsTarget, OneListOfChanges, TargetValue, has_rows, own_texts, unshown_row}
use Rattle.iam_every_changes.specs.States.{AreBoth, BothValue, StateValue, joint}
use Rattle.iam_every_changes.specs.declared.looked.Verdicts.{Verdicts}
use Rattle.iam_every_changes.proofs.WholeLemmas.{one_says}

-- what the rows stand on has one answer
pub record Given : Type 0 where
  pub request : OneRequest
  pub verdict : OneVerdictAt
  pub kinds : OneListOfKinds
  pub actions : OneListOfKindsFold
  pub groups : OneListOfActionGroups

-- ---- parts
one_joined : {X : Type 0} (Made : X → List ChangedValue → Type 0) → ((x : X) (rows others : List ChangedValue) → Made x rows → Made x others → rows ≡ others)
    → (xs : List X) (rows others : List ChangedValue) → AreJoined Made xs rows → AreJoined Made xs others → rows ≡ others
one_joined Made alone [] rows others h k = h ∙ sym k
one_joined Made alone (x ∷ xs) rows others (one, rest, first, are, is) (other, more, too, were, same) =
    is ∙ ap (λ l. l ++ rest) (alone x one other first too) ∙ ap (λ l. other ++ l) (one_joined Made alone xs rest more are were) ∙ sym same

-- ---- what a state says
one_answer_with : OneVerdictAt → (every : EveryValue) (principal : Option ℕ) (unnamed : Unnamed) (action text : List ℕ) (one other : Option Verdict)
    → Answers (record { every = every; principal = principal }) unnamed action text one
    → Answers (record { every = every; principal = principal }) unnamed action text other → one ≡ other
one_answer_with laws every None unnamed action text one other is same = is ∙ sym same
one_answer_with laws every (Some p) unnamed action text one other (verdict, is, right) (found, same, too) =
    is ∙ ap (λ (v : Verdict). Some v) (one_verdict laws every.world p unnamed action text verdict found right too) ∙ sym same

one_answer : OneVerdictAt → (state : StateValue) (unnamed : Unnamed) (action text : List ℕ) (one other : Option Verdict)
    → Answers state unnamed action text one → Answers state unnamed action text other → one ≡ other
one_answer laws state unnamed action text one other is same =
    one_answer_with laws state.every state.principal unnamed action text one other is same

one_of_target : OneVerdictAt → (both : BothValue) (action : List ℕ) (target : TargetValue) (rows others : List ChangedValue)
    → AreOfTarget both action target rows → AreOfTarget both action target others → rows ≡ others
one_of_target laws both action target rows others (verdicts, before, after, is) (found, were, are, same) =
    let row : Verdicts → List ChangedValue =
    λ v. record { action = action; resource = target.text; verdicts = Some v } ∷ [] in
    let old = one_answer laws both.before target.was action target.text verdicts.before found.before before were in
    let new = one_answer laws both.after target.now action target.text verdicts.after found.after after are in
    is
    ∙ ap (λ (o : Option Verdict). row (record { before = o; after = verdicts.after })) old
    ∙ ap (λ (o : Option Verdict). row (record { before = found.before; after = o })) new ∙ sym same

-- ---- texts that are looked at one by one
one_target : (both : BothValue) → AreBoth both → (text : List ℕ) (one other : TargetValue) → IsTarget both text one → IsTarget both text other → one ≡ other
one_target both is text one other of its =
    let was = one_says both.before.every text one.was other.was is.before.apart of.was its.was in
    let now = one_says both.after.every text one.now other.now is.after.apart of.now its.now in
    ap (λ (t : List ℕ). record { text = t; was = one.was; now = one.now }) (of.is ∙ sym its.is)
    ∙ ap (λ (u : Unnamed). record { text = other.text; was = u; now = one.now }) was
    ∙ ap (λ (u : Unnamed). record { text = other.text; was = other.was; now = u }) now

one_targets : (both : BothValue) (one other : List TargetValue) → AreBoth both → AreTargets both one → AreTargets both other → one ≡ other
one_targets both one other is (texts, (asked, chosen, firsts), fit) (found, (wanted, selected, others), fits) =
    let same_asked = one_selected (IsAsked both.after.every.lines) (own_texts both) asked wanted chosen selected in
    let same = one_firsts [] wanted texts found (subst (λ (l : List (List ℕ)). AreFirsts [] l texts) same_asked firsts) others in
    one_zipped (IsTarget both) found one other (one_target both is)
    (subst (λ (l : List (List ℕ)). AllZip (IsTarget both) l one) same fit) fits

-- ---- groups
one_state_groups : OneRequest → (state : StateValue) (k : ℕ) (action : List ℕ) (one other : List (List (List Sign))) → AreStateGroups state k action one
    → AreStateGroups state k action other → one ≡ other
one_state_groups laws state k action one other (line, at, own) (found, there, its) =
    let same : found ≡ line = one_some (slice_get state.every.lines k) found line there at in
    with_principal state.every state.principal line.unnamed action one other own
    (subst (λ (x : LineValue). MatchOption state.principal (other ≡ []) (λ p. AreOwnGroupsAt state.every.world p x.unnamed action other)) same its)
  where
    with_principal : (every : EveryValue) (principal : Option ℕ) (unnamed : Unnamed) (action : List ℕ) (one other : List (List (List Sign)))
        → MatchOption principal (one ≡ []) (λ p. AreOwnGroupsAt every.world p unnamed action one)
        → MatchOption principal (other ≡ []) (λ p. AreOwnGroupsAt every.world p unnamed action other) → one ≡ other
    with_principal every None unnamed action one other h k = h ∙ sym k
    with_principal every (Some p) unnamed action one other h k = one_list_of_groups_at laws every.world p unnamed action one other h k

one_both_groups : OneRequest → (both : BothValue) (k : ℕ) (action : List ℕ) (one other : List (List (List Sign))) → AreBothGroups both k action one
    → AreBothGroups both k action other → one ≡ other
one_both_groups laws both k action one other (was, now, own_was, own_now, firsts) (old, new, own_old, own_new, others) =
    let before = one_state_groups laws both.before k action was old own_was own_old in
    let after = one_state_groups laws both.after k action now new own_now own_new in
    one_firsts [] (old ++ new) one other
    (subst (λ (l : List (List (List Sign))). AreFirsts [] l one) (ap (λ l. l ++ now) before ∙ ap (λ l. old ++ l) after) firsts) others

one_state_policies : (every : EveryValue) (principal : Option ℕ) (one other : List ApplicableValue)
    → AreStatePolicies (record { every = every; principal = principal }) one → AreStatePolicies (record { every = every; principal = principal }) other
    → one ≡ other
one_state_policies every None one other h k = h ∙ sym k
one_state_policies every (Some p) one other (said, are, own) (found, were, its) =
    let same = one_said_list every said found are were in
    one_policies every.world p found one other (subst (λ (l : List Unnamed). AreOwnPolicies every.world p l one) same own) its

one_action_groups : OneListOfActionGroups → (both : BothValue) (one other : List (List (List Sign))) → AreBothActionGroups both one
    → AreBothActionGroups both other → one ≡ other
one_action_groups laws both one other (was, now, own_was, own_now, are) (old, new, own_old, own_new, were) =
    let before = one_state_policies both.before.every both.before.principal was old own_was own_old in
    let after = one_state_policies both.after.every both.after.principal now new own_now own_new in
    laws (old ++ new) one other
    (subst (λ (l : List ApplicableValue). AreOwnActionGroups l one) (ap (λ l. l ++ now) before ∙ ap (λ l. old ++ l) after) are) were

-- ---- lines
one_of_text : OneVerdictAt → (both : BothValue) (action : List ℕ) (k : ℕ) (was now : LineValue) (text : List ℕ) (rows others : List ChangedValue)
    → AreOfText both action k was now text rows → AreOfText both action k was now text others → rows ≡ others
one_of_text laws both action k was now text rows others (inl (first, of)) (inl (too, its)) =
    one_of_target laws both action (record { text = text; was = was.unnamed; now = now.unnamed }) rows others of its
one_of_text laws both action k was now text rows others (inl (first, of)) (inr (never, is)) = absurd (never first)
one_of_text laws both action k was now text rows others (inr (never, is)) (inl (first, of)) = absurd (never first)
one_of_text laws both action k was now text rows others (inr (never, is)) (inr (nor, same)) = is ∙ sym same

-- what passes a limit is not shown
never_both : OneRequest → (both : BothValue) (action : List ℕ) (k : ℕ) (was now : LineValue) (rows : List ChangedValue) → TextsPassIn both action k now
    → ¬ AreOfTexts both action k was now rows
never_both laws both action k was now rows passes of =
    let same = one_both_groups laws both k action passes.groups of.groups passes.own of.own in
    of.shown.all (subst (λ (gs : List (List (List Sign))). PassesLimit (line_question (joint both) k now gs)) same passes.passes)

one_of_texts : Given → (both : BothValue) (action : List ℕ) (k : ℕ) (was now : LineValue) (rows others : List ChangedValue)
    → AreOfTexts both action k was now rows → AreOfTexts both action k was now others → rows ≡ others
one_of_texts g both action k was now rows others of too =
    let same = one_both_groups g.request both k action too.groups of.groups too.own of.own in
    let shown : AreShown (line_question (joint both) k now of.groups) too.texts =
    subst (λ (gs : List (List (List Sign))). AreShown (line_question (joint both) k now gs) too.texts) same too.shown in
    let kinds = g.kinds (line_question (joint both) k now of.groups) (map chars too.texts) (map chars of.texts) shown.kinds of.shown.kinds in
    let texts : too.texts ≡ of.texts = spelled_alike too.texts of.texts shown.utf8 of.shown.utf8 kinds in
    one_joined (AreOfText both action k was now) (one_of_text g.verdict both action k was now) of.texts rows others of.are
    (subst (λ (l : List (List ℕ)). AreJoined (AreOfText both action k was now) l others) texts too.are)

abbrev Way : BothValue → List ℕ → ℕ → LineValue → LineValue → List ChangedValue → Type 0
Way both action k was now rows =
    (TextsPassIn both action k now × (rows ≡ unshown_row action now ∷ [])) ⊎ AreOfTexts both action k was now rows

one_way : Given → (both : BothValue) (action : List ℕ) (k : ℕ) (was now : LineValue) (rows others : List ChangedValue) → Way both action k was now rows
    → Way both action k was now others → rows ≡ others
one_way g both action k was now rows others (inl (passes, is)) (inl (too, same)) = is ∙ sym same
one_way g both action k was now rows others (inl (passes, is)) (inr of) = absurd (never_both g.request both action k was now others passes of)
one_way g both action k was now rows others (inr of) (inl (passes, is)) = absurd (never_both g.request both action k was now rows passes of)
one_way g both action k was now rows others (inr of) (inr its) = one_of_texts g both action k was now rows others of its

one_of_line : Given → (both : BothValue) (action : List ℕ) (k : ℕ) (rows others : List ChangedValue) → AreOfLine both action k rows
    → AreOfLine both action k others → rows ≡ others
one_of_line g both action k rows others of its =
    let was : its.was ≡ of.was = one_some (slice_get both.before.every.lines k) its.was of.was its.was_at of.was_at in
    let now : its.now ≡ of.now = one_some (slice_get both.after.every.lines k) its.now of.now its.now_at of.now_at in
    one_way g both action k of.was of.now rows others of.either
    (subst (λ (x : LineValue). Way both action k x of.now others) was (subst (λ (x : LineValue). Way both action k its.was x others) now its.either))

one_of_action : Given → (both : BothValue) (targets : List TargetValue) (action : List ℕ) (rows others : List ChangedValue)
    → AreOfAction both targets action rows → AreOfAction both targets action others → rows ≡ others
one_of_action g both targets action rows others of its =
    let own = one_joined (AreOfTarget both action) (one_of_target g.verdict both action) targets of.own its.own of.are_own its.are_own in
    let lined = one_joined (AreOfLine both action) (one_of_line g both action) (range_with_len 0 (length both.after.every.lines)) of.lined its.lined
    of.are_lined its.are_lined in
    of.are ∙ ap (λ l. l ++ of.lined) own ∙ ap (λ l. its.own ++ l) lined ∙ sym its.are

-- ---- actions
one_shown : Given → (both : BothValue) (pattern : List Sign) (actions others : List (List ℕ)) → AreShownActions both pattern actions
    → AreShownActions both pattern others → actions ≡ others
one_shown g both pattern actions others of too =
    let same = one_action_groups g.groups both too.groups of.groups too.own of.own in
    let shown = subst (λ (gs : List (List (List Sign))). AreKindsFold (action_question gs pattern) (map chars others)) same too.shown.kinds in
    spelled_alike actions others of.shown.utf8 too.shown.utf8
    (g.actions (action_question of.groups pattern) (map chars actions) (map chars others) of.shown.kinds shown)

one_asked : Given → (both : BothValue) (actions others : List (List ℕ)) → AreAsked both actions → AreAsked both others → actions ≡ others
one_asked g both actions others (inl (none, is)) (inl (too, same)) =
    one_firsts [] (both.after.every.world.actions ++ both.before.every.world.actions) actions others is same
one_asked g both actions others (inl (none, is)) (inr (pattern, some, shown)) = absurd (let wrong : ⊥ = cc in wrong)
one_asked g both actions others (inr (pattern, some, shown)) (inl (none, is)) = absurd (let wrong : ⊥ = cc in wrong)
one_asked g both actions others (inr (pattern, some, shown)) (inr (other, too, its)) =
    let same = one_some both.after.every.actions other pattern too some in
    one_shown g both pattern actions others shown (subst (λ (x : List Sign). AreShownActions both x others) same its)

-- where the kinds of actions pass a limit none are asked
never_asked : Given → (both : BothValue) (actions : List (List ℕ)) → ActionsPassIn both → ¬ AreAsked both actions
never_asked g both actions passes (inl (none, is)) =
    let some = passes.is in let wrong : ⊥ = cc in wrong
never_asked g both actions passes (inr (pattern, some, of)) =
    let same = one_action_groups g.groups both passes.groups of.groups passes.own of.own in
    let alike = one_some both.after.every.actions passes.pattern pattern passes.is some in
    of.shown.all (subst (λ (x : List Sign). PassesLimit (folded_question (action_question of.groups x))) alike
    (subst (λ (gs : List (List (List Sign))). PassesLimit (folded_question (action_question gs passes.pattern))) same passes.passes))

-- ---- all
one_made : Given → (both : BothValue) (looked others : List ChangedValue) → AreBoth both → AreMade both looked → AreMade both others → looked ≡ others
one_made g both looked others is (inl (passes, rows)) (inl (too, same)) = rows ∙ sym same
one_made g both looked others is (inl (passes, rows)) (inr (targets, actions, are, asked, joined)) = absurd (never_asked g both actions passes asked)
one_made g both looked others is (inr (targets, actions, are, asked, joined)) (inl (passes, rows)) = absurd (never_asked g both actions passes asked)
one_made g both looked others is (inr (targets, actions, are, asked, joined)) (inr (found, acts, were, wanted, made)) =
    let same_targets = one_targets both found targets is were are in
    let same_actions = one_asked g both acts actions wanted asked in
    one_joined (AreOfAction both targets) (one_of_action g both targets) actions looked others joined
    (subst (λ (l : List (List ℕ)). AreJoined (AreOfAction both targets) l others) same_actions
    (subst (λ (l : List TargetValue). AreJoined (AreOfAction both l) acts others) same_targets made))

pub one_list_of_changes : Given → OneListOfChanges
one_list_of_changes g both one other some others is of its =
    let same = one_made g both of.looked its.looked is of.made its.made in (
      of.told ∙ ap (filter is_told) same ∙ sym its.told,
      of.is_some ∙ ap has_rows same ∙ sym its.is_some,
    )
