-- Actions that policies do not tell apart, in contexts in question.
use Rattle.std.proofs.Common.{◌≡◌, ◌⊎◌, ◌∙◌, ◌∷◌, [], inl, inr, ℕ, All, Contains, List, MatchOption, None, Option, Some, String, ap, chars, get_or, length, map, refl, string_bytes, subst, sym}
use Rattle.std.proofs.lemmas.List.Elements.{All-contains, Contains-get_or}
use Rattle.std.specs.Global.{Global, Vec}
use Rattle.std.specs.List.{slice_get}
use Rattle.std.specs.Str.{IsUtf8}
use Rattle.iam_context.specs.Context.{ContextValue}
use Rattle.iam_decision.specs.Applicable.{ApplicableValue}
use Rattle.iam_every.specs.Alike.{AlikeActionsDecideAlike, AreAlikeActions}
use Rattle.iam_every.specs.Code.Meant.{Covers}
use Rattle.iam_every.specs.Every.{ActionsPass, EveryValue, IsMeantBy}
use Rattle.iam_every.specs.Made.{AreAsked, AreShownActions}
use Rattle.iam_every.specs.Names.{AgreeOnFold}
use Rattle.iam_every.specs.OwnActions.{ApplyTo, AreOwnPolicies, IsPlain, OwnActionGroupsAreGroups}
use Rattle.iam_every.proofs.LineLemmas.{text_scalars}
use Rattle.iam_every.proofs.ListLemmas.{here, mapped, none, of_mapped}
use Rattle.iam_every.proofs.MeantLemmas.{only, plain_covered, said_in, says_said, some_said}
use Rattle.iam_every.proofs.MemberLemmas.{cases_in, first_in, in_chosen, later_in, left_fits}
use Rattle.iam_every.proofs.NamesLemmas.{last, one_some}
use Rattle.iam_glob.specs.Glob.{MatchesFold, folded}
use Rattle.iam_glob.specs.declared.sign.Sign.{Sign}
use Rattle.iam_layers.specs.Applicable.{applicable_of}
use Rattle.iam_layers.specs.Derived.{IsDerived, context_of}
use Rattle.iam_layers.specs.Own.{IsOwnAccess}
use Rattle.iam_layers.specs.Unnamed.{AreUnnamedPolicies, world_and}
use Rattle.iam_layers.specs.declared.unnamed.Unnamed.{Unnamed}
use Rattle.iam_match.specs.Statement.{AccessValue}
use Rattle.iam_policy.specs.Reading.{PolicyValue}
use Rattle.iam_open_every.specs.Actions.{AlikeActionsAreTurnedAlike, AreAllActions}
use Rattle.iam_open_every.proofs.TurnedLemmas.{asked_so, at_and, decided_so, given_too, in_place, its_resource, more_of, put_last, with_own}
use Rattle.iam_world.specs.World.{PrincipalValue, ResourceValue, WorldValue}

-- who asks for the one action asks for the other alike
access_by : (world : WorldValue) (one other : List ℕ) (p moment : ℕ) (own : ContextValue) (resource : ResourceValue) (a : ApplicableValue)
    (access : AccessValue) → IsOwnAccess (at_and world one moment resource) p (length world.resources) own a access
    → IsOwnAccess (at_and world other moment resource) p (length world.resources) own a access
access_by world one other p moment own resource a access asked =
    let n = length world.resources in
    let before = with_own (at_and world one moment resource) n own resource in
    let there = with_own (at_and world other moment resource) n own resource in
    let h = in_place world one p moment own resource a access asked in
    let is = its_resource world one p moment own resource a access h in (
      there,
      (resource, last world.resources resource, refl),
      record {
        principal = h.principal;
        resource = more_of own resource;
        derived = h.derived;
        principal_is = h.principal_is;
        resource_is = put_last world.resources resource (more_of own resource);
        derived_is = subst (λ (x : ResourceValue). IsDerived before h.principal x h.derived) is h.derived_is;
        applicable_is = h.applicable_is ∙ ap (λ (x : ResourceValue). applicable_of before h.principal x) is;
        access_is = h.access_is
            ∙ ap (λ (x : ResourceValue).
            record { requester = h.principal.requester; resource = x.arn; context = context_of before h.principal x h.derived }) is;
      },
    )

pub actions_alike : AlikeActionsDecideAlike → AlikeActionsAreTurnedAlike
actions_alike decide world p unnamed text one other a (principal, at, each) alike own moment decision (resource, said, (question, decided)) =
    let n = length world.resources in
    let (applicable, access, asked, is) =
    asked_so (at_and world one moment resource) p (length world.actions) n own one decision (last world.actions one) decided in
    let h = in_place world one p moment own resource applicable access asked in
    let there = with_own (at_and world one moment resource) n own resource in
    let who : h.principal ≡ principal = one_some (slice_get world.principals p) h.principal principal h.principal_is at in
    let found : applicable ≡ applicable_of there principal (more_of own resource) =
    h.applicable_is ∙ ap (λ (x : ResourceValue). applicable_of there h.principal x) (its_resource world one p moment own resource applicable access h)
    ∙ ap (λ (x : PrincipalValue). applicable_of there x (more_of own resource)) who in
    let same : a ≡ applicable = each text resource said ∙ sym found in
    let so = decide applicable access one other access.resource decision (subst (λ (x : ApplicableValue). AreAlikeActions x one other) same alike) is in (
      resource,
      said,
      (
        record {
          given = given_too (world_and world one resource) (world_and world other resource) own moment refl refl question.given;
          clean = question.clean;
        },
        decided_so (at_and world other moment resource) p (length world.actions) n own other applicable access decision
            (access_by world one other p moment own resource applicable access asked) (last world.actions other) so,
      ),
    )

-- ---- one action of each kind
all_members : {X : Type 0} (P : X → Type 0) (xs : List X) → ((x : X) → Contains xs x → P x) → All P xs
all_members P xs each k d below = each (get_or xs k d) (Contains-get_or xs k d below)

-- the policies that apply are found once
one_applies : (world : WorldValue) (p : ℕ) (unnamed : Unnamed) (a b : ApplicableValue) → ApplyTo world p unnamed a → AreUnnamedPolicies world p unnamed b
    → a ≡ b
one_applies world p unnamed a b apply (other, there, all) =
    let (resource, said) = some_said world unnamed [] apply.there in
    let (one, at, each) = apply.policies in
    each [] resource said
    ∙ ap (λ (x : PrincipalValue). applicable_of world x resource) (one_some (slice_get world.principals p) one other at there)
    ∙ sym (all [] resource said)

-- policies stand with the resource, or none do
plain_or : (b : ApplicableValue) → IsPlain b ⊎ ¬ IsPlain b
plain_or b = go b.control refl b.resource refl
  where
    go : (c : List (List PolicyValue)) → b.control ≡ c → (r : Option PolicyValue) → b.resource ≡ r → IsPlain b ⊎ ¬ IsPlain b
    go [] is None same = inl (record { control = is; resource = same })
    go [] is (Some x) same = inr (λ plain. let wrong : None ≡ Some x = sym plain.resource ∙ same in cc)
    go (x ∷ xs) is r same = inr (λ plain. let wrong : [] ≡ x ∷ xs = sym plain.control ∙ is in cc)

-- of the policies that are looked at some do not tell fewer actions apart than those that apply to such a resource
covered : (world : WorldValue) (p : ℕ) (said : List Unnamed) (needed : List ApplicableValue) (unnamed : Unnamed) → AreOwnPolicies world p said needed
    → Contains said unnamed
    → (a : ApplicableValue) × (b : ApplicableValue) × Contains needed a × ApplyTo world p unnamed b × Covers a b
covered world p [] needed unnamed own among = absurd (none unnamed among)
covered world p (u ∷ us) needed unnamed ([], fit, are) among = absurd fit
covered world p (u ∷ us) needed unnamed (a ∷ rest, fit, (chosen, is, selected)) among =
    let (b, inside, apply) = left_fits (ApplyTo world p) (u ∷ us) (a ∷ rest) unnamed fit among in
    let first : Contains needed a = subst (λ (l : List ApplicableValue). Contains l a) (sym is) (first_in a chosen) in
    elim (cases_in a rest b inside) [
      | inl same ↦ (a, b, first, apply, λ one other alike. subst (λ (x : ApplicableValue). AreAlikeActions x one other) same alike)
      | inr later ↦ elim (plain_or b) [
        | inl plain ↦
            let (one, at, each) = fit.0.policies in
            let (other, there, all) = apply.policies in
            let (thing, said) = some_said world u [] fit.0.there in
            let (further, told) = some_said world unnamed [] apply.there in
            let who = one_some (slice_get world.principals p) one other at there in
            let a_is : a ≡ applicable_of world other thing =
            each [] thing said ∙ ap (λ (x : PrincipalValue). applicable_of world x thing) who in
            (a, b, first, apply, plain_covered world other thing further a b a_is (all [] further told) plain)
        | inr stands ↦
            let here = later_in a chosen b (in_chosen (λ x. ¬ IsPlain x) rest chosen b selected later stands) in
            (b, b, subst (λ (l : List ApplicableValue). Contains l b) (sym is) here, apply, λ one other alike. alike)
      ]
    ]

-- those of the world are like themselves
world_all : (every : EveryValue) (p : ℕ) (actions : List (List ℕ)) → every.actions ≡ None → actions ≡ every.world.actions → AreAllActions every p actions
world_all every p actions is same = record {
  meant = all_members (λ action. IsMeantBy every.actions every.world action) actions (λ action among.
      subst (λ (o : Option (List Sign)). IsMeantBy o every.world action) (sym is) (subst (λ (l : List (List ℕ)). Contains l action) same among));
  whole = λ action meant. (
    action,
    subst (λ (l : List (List ℕ)). Contains l action) (sym same) (subst (λ (o : Option (List Sign)). IsMeantBy o every.world action) is meant),
    λ text unnamed says a policies. all_alike a action,
  );
  asked = inl (is, same);
}
  where
    all_alike : (a : ApplicableValue) (action : List ℕ) → AreAlikeActions a action action
    all_alike a action k d below = (λ m. m, λ m. m)

-- each that can be and that the pattern matches is like one that is shown
shown_all : OwnActionGroupsAreGroups → (every : EveryValue) (p : ℕ) (pattern : List Sign) (actions : List (List ℕ)) → every.actions ≡ Some pattern
    → AreShownActions every p pattern actions → AreAllActions every p actions
shown_all groups_are every p pattern actions is given =
    let kinds = given.shown.kinds in
    let own = given.own in
    let are_groups = groups_are own.applicables given.groups own.are in
    record {
      meant = all_members (λ action. IsMeantBy every.actions every.world action) actions (λ action among.
          let m = kinds.meant (chars action) (mapped chars action actions among) in
          subst (λ (o : Option (List Sign)). IsMeantBy o every.world action) (sym is)
          (All-contains IsUtf8 actions action given.shown.utf8 among, m.grammar, m.within pattern (here pattern [])));
      whole = λ action meant.
          let (utf8, grammar, matches) = subst (λ (o : Option (List Sign)). IsMeantBy o every.world action) is meant in
          let (characters, among, agree) = kinds.whole (chars action) (text_scalars action utf8) (record {
            grammar = grammar;
            within = λ other inside. subst (λ (x : List Sign). MatchesFold x (chars action)) (only pattern other inside) matches;
            unnamed = none (map folded (chars action));
          }) in
          let (shown, inside, text_is) = of_mapped chars characters actions among in
          let alike : AgreeOnFold given.groups (chars shown) (chars action) =
          subst (λ (x : List ℕ). AgreeOnFold given.groups x (chars action)) (sym text_is) agree in (
            shown,
            inside,
            λ text unnamed says b policies.
                let (a, c, a_among, apply, reads) = covered every.world p own.said own.applicables unnamed own.apply
                (said_in every own.said unnamed own.are_said (says_said every text unnamed says)) in
                subst (λ (x : ApplicableValue). AreAlikeActions x shown action) (one_applies every.world p unnamed c b apply policies)
                (reads shown action ((are_groups shown action).0 alike a a_among)),
          );
      asked = inr (pattern, is, given);
    }

asked_all : OwnActionGroupsAreGroups → (every : EveryValue) (p : ℕ) (actions : List (List ℕ)) → AreAsked every p actions → AreAllActions every p actions
asked_all groups_are every p actions (inl (is, same)) = world_all every p actions is same
asked_all groups_are every p actions (inr (pattern, is, shown)) = shown_all groups_are every p pattern actions is shown

pub found_all : OwnActionGroupsAreGroups → (every : EveryValue) (p : ℕ) (found : Option (Vec (String Global)))
    → MatchOption found (ActionsPass every p) (λ actions. AreAsked every p (map string_bytes actions.items))
    → MatchOption found (ActionsPass every p) (λ actions. AreAllActions every p (map string_bytes actions.items))
found_all groups_are every p None passes = passes
found_all groups_are every p (Some actions) asked = asked_all groups_are every p (map string_bytes actions.items) asked
