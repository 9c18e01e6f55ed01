-- What requests of a principal share in a state, for resources of which the same is said.
use Rattle.std.specs.List.{slice_get}
use Rattle.std.specs.Prelude.{◌≡◌, [], ℕ, List, MatchOption, None, Option, Some, option_map}
use Rattle.iam_glob.specs.declared.sign.Sign.{Sign}
use Rattle.iam_context.specs.Context.{ContextValue}
use Rattle.iam_decision.specs.Applicable.{IsNumbered, value_of}
use Rattle.iam_layers.specs.Unnamed.{AreUnnamedKeys, AreUnnamedPolicies, IsUnnamedContext}
use Rattle.iam_layers.specs.declared.unnamed.Unnamed.{Unnamed}
use Rattle.iam_world.specs.World.{WorldValue}
use Rattle.iam_kinds.specs.Answers.{IsAnswer}
use Rattle.iam_kinds.specs.declared.kinds.Kinds.{Kinds}
use Rattle.iam_every.specs.Every.{LineValue, line_question}
use Rattle.iam_every.specs.OwnGroups.{AreOwnGroupsAt}
use Rattle.iam_every_changes.specs.Changes.{AreBothGroups}
use Rattle.iam_every_changes.specs.States.{BothValue, StateValue, both_of, joint}
use Rattle.iam_every_changes.specs.declared.given.Given.{Given}
use Rattle.iam_every_changes.specs.declared.scene.Keys.{Keys}
use Rattle.iam_every_changes.specs.declared.scene.Scene.{Scene}
use Rattle.iam_every_changes.specs.declared.scene.Scenes.{Scenes}

-- the derived keys, where the principal is there
abbrev pub AreKeysIn : StateValue → Unnamed → Option ContextValue → Type 0
AreKeysIn state unnamed keys =
    MatchOption state.principal (keys ≡ None)
    (λ p. (derived : ContextValue) × (keys ≡ Some derived) × AreUnnamedKeys state.every.world p unnamed derived)

-- the policies that apply, and the context
pub record IsSceneOf (world : WorldValue) (p : ℕ) (unnamed : Unnamed) (scene : Scene) : Type 0 where
  pub policies : AreUnnamedPolicies world p unnamed (value_of scene.applicable)
  pub numbered : IsNumbered (value_of scene.applicable)
  pub derived : ContextValue
  pub keys : AreUnnamedKeys world p unnamed derived
  pub within : IsUnnamedContext world p unnamed derived scene.context

abbrev pub IsSceneIn : StateValue → Unnamed → Option Scene → Type 0
IsSceneIn state unnamed scene =
    MatchOption state.principal (scene ≡ None)
    (λ p. (its : Scene) × (scene ≡ Some its) × IsSceneOf state.every.world p unnamed its)

-- the groups for texts of which this is said
abbrev pub AreGroupsIn : StateValue → Unnamed → List ℕ → List (List (List Sign)) → Type 0
AreGroupsIn state unnamed action groups =
    MatchOption state.principal (groups ≡ []) (λ p. AreOwnGroupsAt state.every.world p unnamed action groups)

-- ---- of both states
pub record AreKeysOf (both : BothValue) (was now : Unnamed) (keys : Keys) : Type 0 where
  pub before : AreKeysIn both.before was (option_map (λ derived. derived.items) keys.before)
  pub after : AreKeysIn both.after now (option_map (λ derived. derived.items) keys.after)

pub record AreScenesOf (both : BothValue) (was now : Unnamed) (scenes : Scenes) : Type 0 where
  pub before : IsSceneIn both.before was scenes.before
  pub after : IsSceneIn both.after now scenes.after

-- for texts of which line k speaks
abbrev pub AreLineScenes : Given → ℕ → Scenes → Type 0
AreLineScenes given k scenes =
    (was now : LineValue) → slice_get (both_of given.both).before.every.lines k ≡ Some was
    → slice_get (both_of given.both).after.every.lines k ≡ Some now → AreScenesOf (both_of given.both) was.unnamed now.unnamed scenes

-- one text of each kind of texts that line k speaks of
abbrev pub AreKindsOf : BothValue → List ℕ → ℕ → Kinds → Type 0
AreKindsOf both action k kinds =
    (now : LineValue) → slice_get both.after.every.lines k ≡ Some now
    → (groups : List (List (List Sign))) × AreBothGroups both k action groups × IsAnswer (line_question (joint both) k now groups) kinds
