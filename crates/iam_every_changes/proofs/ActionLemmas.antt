-- Each action that is meant is decided in both states like one that is looked at.
use Rattle.std.proofs.Common.{◌≡◌, ◌∷◌, [], ◌++◌, ◌∙◌, ◌⊎◌, inl, inr, ℕ, Contains, false, List, MatchOption, None, Option, Some, ap, chars, map, refl, subst, sym}
use Rattle.std.proofs.lemmas.List.Elements.{All-contains, Contains-append_cases, Contains-append_left, Contains-append_right}
use Rattle.std.specs.List.{slice_get}
use Rattle.std.specs.Str.{IsUtf8}
use Rattle.std.specs.Prelude.{⊤}
use Rattle.iam_glob.specs.Glob.{MatchesFold, folded}
use Rattle.iam_glob.specs.declared.sign.Sign.{Sign}
use Rattle.iam_kinds.specs.Kinds.{IsAction}
use Rattle.iam_policy.specs.Reading.{PolicyValue}
use Rattle.iam_decision.specs.Applicable.{ApplicableValue}
use Rattle.iam_decision.specs.Matched.{Selects}
use Rattle.iam_layers.specs.Unnamed.{AreUnnamedPolicies}
use Rattle.iam_layers.specs.declared.unnamed.Unnamed.{Unnamed}
use Rattle.iam_world.specs.World.{PrincipalValue, WorldValue}
use Rattle.iam_layers.specs.Applicable.{applicable_of}
use Rattle.iam_every.specs.Alike.{AreAlikeActions}
use Rattle.iam_every.specs.Code.Meant.{Covers}
use Rattle.iam_every.specs.Every.{AreDecidedAlike, AreSaid, EveryValue, IsMeantBy}
use Rattle.iam_every.specs.Names.{AgreeOnFold, AreActionGroups}
use Rattle.iam_every.specs.OwnActions.{AreOwnPolicies, ApplyTo, IsPlain, OwnActionGroupsAreGroups}
use Rattle.iam_every.proofs.FirstLemmas.{in_firsts, of_firsts}
use Rattle.iam_every.proofs.LineLemmas.{text_scalars}
use Rattle.iam_every.proofs.ListLemmas.{behind, first_or, here, mapped, none, of_mapped}
use Rattle.iam_every.proofs.MeantLemmas.{only, plain_covered, said_in, says_said, some_said}
use Rattle.iam_every.proofs.MemberLemmas.{left_fits}
use Rattle.iam_every.proofs.NamesLemmas.{alike_actions_by, one_some, policies_at}
use Rattle.iam_every_changes.specs.Changes.{AreAlikeIn, AreStatePolicies}
use Rattle.iam_every_changes.specs.Made.{AreAsked, AreShownActions}
use Rattle.iam_every_changes.specs.States.{BothValue, IsMeantIn, StateValue}

-- ---- the policies that are looked at cover all that apply
-- what the first covers, or what is among them, covers each that applies
covered_by : (world : WorldValue) (p : ℕ) (first : ApplicableValue) (u : Unnamed) (needed : List ApplicableValue) → ApplyTo world p u first
    → Contains needed first → (v : Unnamed) (b : ApplicableValue) → ApplyTo world p v b → (IsPlain b ⊎ Contains needed b)
    → (a : ApplicableValue) × Contains needed a × Covers a b
covered_by world p first u needed is among v b apply (inr inside) = (b, inside, λ one other alike. alike)
covered_by world p first u needed is among v b apply (inl plain) =
    let (principal, at, each) = apply.policies in
    let (other, other_at, other_each) = is.policies in
    let (resource, told) = some_said world v [] apply.there in
    let (further, further_told) = some_said world u [] is.there in
    let who : other ≡ principal = one_some (slice_get world.principals p) other principal other_at at in
    let a_is : first ≡ applicable_of world principal further =
    other_each [] further further_told ∙ ap (λ (x : PrincipalValue). applicable_of world x further) who in
    (first, among, plain_covered world principal further resource first b a_is (each [] resource told) plain)

-- what is not known not to be plain is plain
is_plain : (a : ApplicableValue) → ¬ ¬ IsPlain a → IsPlain a
is_plain a maybe = by_parts a.control a.resource refl refl
  where
    by_parts : (control : List (List PolicyValue)) (resource : Option PolicyValue) → a.control ≡ control → a.resource ≡ resource → IsPlain a
    by_parts [] None control resource = record { control = control; resource = resource }
    by_parts (level ∷ levels) resource control is =
        absurd (maybe (λ plain. let none = plain.control in let wrong : ⊥ = cc in wrong))
    by_parts [] (Some policy) control resource = absurd (maybe (λ plain. let none = plain.resource in let wrong : ⊥ = cc in wrong))

-- policies that apply are plain, or among those that are needed
plain_or : (applicables rest : List ApplicableValue) (b : ApplicableValue) → Selects (λ x. ¬ IsPlain x) applicables rest → Contains applicables b
    → IsPlain b ⊎ Contains rest b
plain_or [] rest b chosen among = absurd (none b among)
plain_or (x ∷ xs) rest b (inl (stands, (more, is, chosen))) among = elim (first_or x b xs among) [
  | inl same ↦ inr (subst (λ (l : List ApplicableValue). Contains l b) (sym is) (subst (Contains (x ∷ more)) same (here x more)))
  | inr later ↦ elim (plain_or xs more b chosen later) [
    | inl plain ↦ inl plain
    | inr inside ↦ inr (subst (λ (l : List ApplicableValue). Contains l b) (sym is) (behind x b more inside))
  ]
]
plain_or (x ∷ xs) rest b (inr (plain, chosen)) among = elim (first_or x b xs among) [
  | inl same ↦ inl (subst IsPlain same (is_plain x plain))
  | inr later ↦ plain_or xs rest b chosen later
]

-- the policies that apply to each resource of which some of this is said are covered by those that are looked at
own_covers : (world : WorldValue) (p : ℕ) (said : List Unnamed) (policies : List ApplicableValue) (v : Unnamed) → AreOwnPolicies world p said policies
    → Contains said v → (a : ApplicableValue) × (b : ApplicableValue) × Contains policies a × AreUnnamedPolicies world p v b × Covers a b
own_covers world p [] policies v own among = absurd (none v among)
own_covers world p (u ∷ said) policies v ([], fit, needed) among = absurd fit
own_covers world p (u ∷ said) policies v (first ∷ applicables, fit, (rest, is, chosen)) among =
    let (b, inside, apply) = left_fits (ApplyTo world p) (u ∷ said) (first ∷ applicables) v fit among in
    let front : Contains policies first = subst (λ (l : List ApplicableValue). Contains l first) (sym is) (here first rest) in
    let either : IsPlain b ⊎ Contains policies b = elim (first_or first b applicables inside) [
      | inl same ↦ inr (subst (Contains policies) same front)
      | inr later ↦ elim (plain_or applicables rest b chosen later) [
        | inl plain ↦ inl plain
        | inr there ↦ inr (subst (λ (l : List ApplicableValue). Contains l b) (sym is) (behind first b rest there))
      ]
    ] in
    let (a, a_among, reads) = covered_by world p first u policies fit.0 front v b apply either in
    (a, b, a_among, apply.policies, reads)

-- ---- actions that the policies do not tell apart
alike_with : (every : EveryValue) (principal : Option ℕ) (policies all : List ApplicableValue) (groups : List (List (List Sign))) (one other : List ℕ)
    → MatchOption principal (policies ≡ []) (λ p. (said : List Unnamed) × AreSaid every said × AreOwnPolicies every.world p said policies)
    → ((a : ApplicableValue) → Contains policies a → Contains all a) → AreActionGroups all groups → AgreeOnFold groups (chars one) (chars other)
    → MatchOption principal ⊤ (λ p. AreDecidedAlike every p one other)
alike_with every None policies all groups one other own inside are agree = tt
alike_with every (Some p) policies all groups one other (said, are_said, own) inside are agree = λ row unnamed decision says.
    alike_actions_by every.world p unnamed one other row decision (λ b access h.
    let among = said_in every said unnamed are_said (says_said every row unnamed says) in
    let (a, c, a_among, c_are, reads) = own_covers every.world p said policies unnamed own among in
    subst (λ (x : ApplicableValue). AreAlikeActions x one other) (policies_at every.world p unnamed one row c b access c_are h)
    (reads one other ((are one other).0 agree a (inside a a_among))))

alike_in : (state : StateValue) (policies all : List ApplicableValue) (groups : List (List (List Sign))) (one other : List ℕ) → AreStatePolicies state policies
    → ((a : ApplicableValue) → Contains policies a → Contains all a) → AreActionGroups all groups → AgreeOnFold groups (chars one) (chars other)
    → AreAlikeIn state one other
alike_in state policies all groups one other own inside are agree =
    alike_with state.every state.principal policies all groups one other own inside are agree

-- an action is decided like itself
same_with : (every : EveryValue) (principal : Option ℕ) (action : List ℕ) → MatchOption principal ⊤ (λ p. AreDecidedAlike every p action action)
same_with every None action = tt
same_with every (Some p) action = λ text unnamed decision says decided. decided

-- ---- actions that are looked at
pub record IsLike (both : BothValue) (actions : List (List ℕ)) (action : List ℕ) : Type 0 where
  pub shown : List ℕ
  pub among : Contains actions shown
  pub before : AreAlikeIn both.before shown action
  pub after : AreAlikeIn both.after shown action

-- those of the worlds
of_worlds : (both : BothValue) (actions : List (List ℕ)) (action : List ℕ) → both.before.every.actions ≡ both.after.every.actions
    → both.after.every.actions ≡ None → IsMeantIn both action
    → Contains (both.after.every.world.actions ++ both.before.every.world.actions) action
of_worlds both actions action same is (inl before) =
    Contains-append_right both.after.every.world.actions both.before.every.world.actions action
    (subst (λ (o : Option (List Sign)). IsMeantBy o both.before.every.world action) (same ∙ is) before)
of_worlds both actions action same is (inr after) =
    Contains-append_left both.after.every.world.actions both.before.every.world.actions action
    (subst (λ (o : Option (List Sign)). IsMeantBy o both.after.every.world action) is after)

-- those that a pattern matches
matched_by : (both : BothValue) (pattern : List Sign) (action : List ℕ) → both.before.every.actions ≡ both.after.every.actions
    → both.after.every.actions ≡ Some pattern → IsMeantIn both action → IsUtf8 action × IsAction false (chars action) × MatchesFold pattern (chars action)
matched_by both pattern action same is (inl before) =
    subst (λ (o : Option (List Sign)). IsMeantBy o both.before.every.world action) (same ∙ is) before
matched_by both pattern action same is (inr after) =
    subst (λ (o : Option (List Sign)). IsMeantBy o both.after.every.world action) is after

like_shown : OwnActionGroupsAreGroups → (both : BothValue) (pattern : List Sign) (actions : List (List ℕ)) (action : List ℕ)
    → AreShownActions both pattern actions → IsUtf8 action × IsAction false (chars action) × MatchesFold pattern (chars action) → IsLike both actions action
like_shown tell both pattern actions action of (utf8, grammar, matches) =
    let (characters, among, agree) = of.shown.kinds.whole (chars action) (text_scalars action utf8) (record {
      grammar = grammar;
      within = λ other inside. subst (λ (x : List Sign). MatchesFold x (chars action)) (only pattern other inside) matches;
      unnamed = none (map folded (chars action));
    }) in
    let (shown, inside, is) = of_mapped chars characters actions among in
    let alike : AgreeOnFold of.groups (chars shown) (chars action) =
    subst (λ (x : List ℕ). AgreeOnFold of.groups x (chars action)) (sym is) agree in
    let (was, now, own_was, own_now, are) = of.own in
    let groups_are = tell (was ++ now) of.groups are in
    record {
      shown = shown;
      among = inside;
      before = alike_in both.before was (was ++ now) of.groups shown action own_was (λ a in'. Contains-append_left was now a in') groups_are alike;
      after = alike_in both.after now (was ++ now) of.groups shown action own_now (λ a in'. Contains-append_right was now a in') groups_are alike;
    }

pub like_asked : OwnActionGroupsAreGroups → (both : BothValue) (actions : List (List ℕ)) (action : List ℕ)
    → both.before.every.actions ≡ both.after.every.actions → AreAsked both actions → IsMeantIn both action → IsLike both actions action
like_asked tell both actions action same (inl (is, firsts)) meant = record {
  shown = action;
  among = in_firsts [] (both.after.every.world.actions ++ both.before.every.world.actions) actions action firsts
      (of_worlds both actions action same is meant);
  before = same_with both.before.every both.before.principal action;
  after = same_with both.after.every both.after.principal action;
}
like_asked tell both actions action same (inr (pattern, is, shown)) meant =
    like_shown tell both pattern actions action shown (matched_by both pattern action same is meant)

-- ---- each of them is meant
world_meant : (both : BothValue) (action : List ℕ) → both.before.every.actions ≡ both.after.every.actions → both.after.every.actions ≡ None
    → Contains (both.after.every.world.actions ++ both.before.every.world.actions) action → IsMeantIn both action
world_meant both action same is among = elim (Contains-append_cases both.after.every.world.actions both.before.every.world.actions action among) [
  | inl after ↦ inr (subst (λ (o : Option (List Sign)). IsMeantBy o both.after.every.world action) (sym is) after)
  | inr before ↦ inl (subst (λ (o : Option (List Sign)). IsMeantBy o both.before.every.world action) (sym (same ∙ is)) before)
]

pub asked_meant : (both : BothValue) (actions : List (List ℕ)) (action : List ℕ) → both.before.every.actions ≡ both.after.every.actions → AreAsked both actions
    → Contains actions action → IsMeantIn both action
asked_meant both actions action same (inl (is, firsts)) among =
    world_meant both action same is (of_firsts [] (both.after.every.world.actions ++ both.before.every.world.actions) actions action firsts among)
asked_meant both actions action same (inr (pattern, is, of)) among =
    let m = of.shown.kinds.meant (chars action) (mapped chars action actions among) in
    inr (subst (λ (o : Option (List Sign)). IsMeantBy o both.after.every.world action) (sym is)
    (All-contains IsUtf8 actions action of.shown.utf8 among, m.grammar, m.within pattern (here pattern [])))
