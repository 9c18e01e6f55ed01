-- What is decided on the resources of a scene.
use Rattle.std.proofs.Common.{◌≡◌, ◌⊎◌, inl, inr, ℕ, Bool, List, [], ◌∷◌, map, refl, subst, sym}
use Rattle.iam_policy.specs.declared.effect.Effect.{Effect}
use Rattle.iam_policy.specs.declared.effect.Effect.TheVariants.{Allow, Deny}
use Rattle.iam_match.specs.Request.{access_of}
use Rattle.iam_match.specs.Statement.{AccessValue, RequestValue, request_for}
use Rattle.iam_decision.specs.Applicable.{ApplicableValue}
use Rattle.iam_decision.specs.Early.{HasAll, Suffices}
use Rattle.iam_decision.specs.Living.{Lives, item_of}
use Rattle.iam_decision.specs.Matched.{IsMatched, Placed, Selects, placed}
use Rattle.iam_decision.specs.Code.Scan.{placed_value}
use Rattle.iam_decision.specs.declared.living.Matched.{Matched}
use Rattle.iam_decision.specs.declared.scan.Standing.{Standing}
use Rattle.iam_world.specs.World.{WorldValue}
use Rattle.iam_layers.specs.declared.unnamed.Unnamed.{Unnamed}
use Rattle.iam_layers.specs.declared.unnamed.Unnamed.TheVariants.{Like}
use Rattle.iam_every.specs.Code.Picked.{ActsOn, IsEligible, TellEach, both, picked}
use Rattle.iam_every.specs.Code.Told.{IsScene, OfAbout, access_at, eligible_in}
use Rattle.iam_every.specs.Every.{EveryValue}
use Rattle.iam_every.specs.declared.scene.Scene.{Scene}
use Rattle.iam_every.specs.declared.told.About.{About}
use Rattle.iam_every.specs.declared.told.About.TheVariants.{Line, Resource, Star}
use Rattle.iam_every.specs.Alike.{Concerns}
use Rattle.iam_every.proofs.PickedLemmas.{both_tell, picked_selects}

-- ---- what was found suffices
same_effect : (one other : Effect) → (one ≡ other) ⊎ ¬ (one ≡ other)
same_effect Allow Allow = inl refl
same_effect Deny Deny = inl refl
same_effect Allow Deny = inr (λ is. let wrong : ⊥ = cc in wrong)
same_effect Deny Allow = inr (λ is. let wrong : ⊥ = cc in wrong)

has_all : (q : RequestValue) (effect : Effect) (statements chosen : List Placed) → Selects (IsMatched q) statements chosen
    → HasAll q statements (map (item_of q.requester) chosen) effect
has_all q effect [] chosen is =
    ([], refl, subst (λ (l : List Placed). Selects (λ (m : Matched). m.effect ≡ effect) (map (item_of q.requester) l) []) (sym is) refl)
has_all q effect (s ∷ statements) chosen (inr (not, rest)) =
    let (mine, says, kept) = has_all q effect statements chosen rest in (mine, inr (λ (matched, is). not matched, says), kept)
has_all q effect (s ∷ statements) chosen (inl (matched, (rest, is, selected))) =
    let (mine, says, kept) = has_all q effect statements rest selected in
    let item : Placed → Matched = item_of q.requester in
    subst (λ (l : List Placed). HasAll q (s ∷ statements) (map item l) effect) (sym is)
    (elim (same_effect s.statement.effect effect) [
      | inl same ↦ (s ∷ mine, inl ((matched, same), (mine, refl, says)), inl (same, (map item mine, refl, kept)))
      | inr other ↦ (mine, inr (λ (both_are, same). other same, says), inr (other, kept))
    ])

pub found_suffice : (q : RequestValue) (statements chosen : List Placed) → Selects (IsMatched q) statements chosen
    → Suffices q statements (map (item_of q.requester) chosen)
found_suffice q statements chosen is = record {
  denies = has_all q Deny statements chosen is;
  allows = λ none. has_all q Allow statements chosen is;
}

-- ---- the statements that match
-- those that act and live match, and no others
pub matched_picked : (a : ApplicableValue) (access : AccessValue) (text action : List ℕ) (eligible : List Placed) (acts lives : List Bool)
    → Selects (IsEligible access) (placed a) eligible → TellEach (ActsOn action) eligible acts → TellEach (Lives (access_at access text)) eligible lives
    → Selects (IsMatched (request_for (access_at access text) action)) (placed a) (picked eligible (both acts lives))
matched_picked a access text action eligible acts lives selected act live =
    picked_selects (IsEligible access) (λ s. ActsOn action s × Lives (access_at access text) s) (IsMatched (request_for (access_at access text) action))
    (λ s matched. (record { principal = matched.rest.principal; conditions = matched.rest.conditions }, (matched.action, matched.rest)))
    (λ s is (acting, living). record { action = acting; rest = living })
    (placed a) eligible (both acts lives) selected (both_tell (ActsOn action) (Lives (access_at access text)) eligible acts lives act live)

-- those that act concern requests for the action, and no others
pub concerned_picked : (a : ApplicableValue) (access : AccessValue) (action : List ℕ) (eligible : List Placed) (acts : List Bool)
    → Selects (IsEligible access) (placed a) eligible → TellEach (ActsOn action) eligible acts
    → Selects (Concerns access action) (placed a) (picked eligible acts)
concerned_picked a access action eligible acts selected act =
    picked_selects (IsEligible access) (ActsOn action) (Concerns access action)
    (λ s about. (record { principal = about.principal; conditions = about.conditions }, about.action))
    (λ s is acting. record { principal = is.principal; action = acting; conditions = is.conditions })
    (placed a) eligible acts selected act

-- so it is in a scene
pub concerned_in : (world : WorldValue) (p : ℕ) (unnamed : Unnamed) (scene : Scene) (action : List ℕ) (acts : List Bool) (statements : List Standing)
    (is : IsScene world p unnamed scene) → TellEach (ActsOn action) (eligible_in scene) acts
    → map placed_value statements ≡ picked (eligible_in scene) acts
    → Selects (Concerns (access_of scene.access) action) (placed is.applicable) (map placed_value statements)
concerned_in world p unnamed scene action acts statements is act chosen =
    let access = access_of scene.access in
    subst (λ (l : List Placed). Selects (Concerns access action) (placed is.applicable) l) (sym chosen)
    (concerned_picked is.applicable access action (eligible_in scene) acts is.eligible act)

-- what is asked about
pub about_map : (every : EveryValue) (about : About) (P Q : Unnamed → Type 0) → ((unnamed : Unnamed) → P unnamed → Q unnamed) → OfAbout every about P
    → OfAbout every about Q
about_map every (Line k) P Q f h = λ line at. f line.unnamed (h line at)
about_map every (Resource r) P Q f h = f (Like r) h
about_map every (Star k) P Q f h = λ line at. f line.unnamed (h line at)
