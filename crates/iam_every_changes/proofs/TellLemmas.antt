-- What rows tell of the access in a state.
use Rattle.std.proofs.Common.{◌≡◌, ◌↔◌, ◌∙◌, inl, ℕ, Bool, true, false, IsTrue, List, Option, None, Some, MatchOption, length, refl, sym, ap, subst}
use Rattle.iam_decision.specs.declared.verdict.Decision.{Decision}
use Rattle.iam_decision.specs.declared.verdict.Decision.TheVariants.{Allowed, ExplicitDeny, ImplicitDeny}
use Rattle.iam_decision.specs.declared.verdict.Verdict.{Verdict}
use Rattle.iam_layers.specs.Cell.{IsDecisionAt}
use Rattle.iam_layers.specs.Laws.{OneDecisionAt}
use Rattle.iam_layers.specs.Unnamed.{IsUnnamedDecision, world_and}
use Rattle.iam_layers.specs.declared.unnamed.Unnamed.{Unnamed}
use Rattle.iam_world.specs.World.{ResourceValue, WorldValue}
use Rattle.iam_row.specs.Changes.{allows, is_allowed}
use Rattle.iam_every.specs.Every.{EveryValue, Says, Tells}
use Rattle.iam_every.proofs.NamesLemmas.{one_said}
use Rattle.iam_every.proofs.RowLemmas.{decided_by}
use Rattle.iam_every_changes.specs.Changes.{Allows, Answers, AreAlikeIn, ChangedValue, HasSameAccess, TellsBoth, TellsIn, are_unlike, is_change, row_in}
use Rattle.iam_every_changes.specs.States.{BothValue, StateValue}

-- ---- truth values
pub allowed_is : (d : Decision) → allows d ≡ true → Allowed ≡ d
allowed_is Allowed is = refl
allowed_is ExplicitDeny is = absurd (let wrong : ⊥ = cc in wrong)
allowed_is ImplicitDeny is = absurd (let wrong : ⊥ = cc in wrong)

pub same_bools : (a b : Bool) → are_unlike a b ≡ false → a ≡ b
same_bools true true is = refl
same_bools true false is = absurd (let wrong : ⊥ = cc in wrong)
same_bools false true is = absurd (let wrong : ⊥ = cc in wrong)
same_bools false false is = refl

-- ---- one decision
pub one_decision : OneDecisionAt → (world : WorldValue) (p : ℕ) (unnamed : Unnamed) (action text : List ℕ) (decision other : Decision)
    → IsUnnamedDecision world p unnamed action text decision → IsUnnamedDecision world p unnamed action text other → decision ≡ other
one_decision one world p unnamed action text decision other (resource, said, is) (found, told, too) =
    let same : found ≡ resource = one_said world unnamed text found resource told said in
    let At : ResourceValue → Type 0 = λ r. IsDecisionAt (world_and world action r) p (length world.actions) (length world.resources) other in
    one (world_and world action resource) p (length world.actions) (length world.resources) decision other is (subst At same too)

-- ---- what a state tells
abbrev state_with : EveryValue → Option ℕ → StateValue
state_with every principal = record { every = every; principal = principal }

access_with : OneDecisionAt → (every : EveryValue) (principal : Option ℕ) (action text : List ℕ) (unnamed : Unnamed) (row : ChangedValue) (answer : Option Verdict)
    → MatchOption principal (answer ≡ None) (λ p. Tells every p action text unnamed (row_in row answer))
    → MatchOption principal ⊥ (λ p. IsUnnamedDecision every.world p unnamed action text Allowed) ↔ IsTrue (is_allowed answer)
access_with one every None action text unnamed row answer is =
    let no : is_allowed answer ≡ false = ap is_allowed is in (λ never. absurd never, λ yes. let wrong : ⊥ = cc in wrong)
access_with one every (Some p) action text unnamed row answer tells =
    let verdict = tells.verdict in
    let is : is_allowed answer ≡ allows verdict.decision = ap is_allowed tells.is in (
      λ allowed.
          let same : Allowed ≡ verdict.decision = one_decision one every.world p unnamed action text Allowed verdict.decision allowed tells.decides in
          is ∙ sym (ap allows same),
      λ yes.
          subst (IsUnnamedDecision every.world p unnamed action text) (sym (allowed_is verdict.decision (sym is ∙ yes))) tells.decides,
    )

pub access_told : OneDecisionAt → (state : StateValue) (action text : List ℕ) (unnamed : Unnamed) (row : ChangedValue) (answer : Option Verdict)
    → TellsIn state action text unnamed row answer → Allows state unnamed action text ↔ IsTrue (is_allowed answer)
access_told one state action text unnamed row answer tells = access_with one state.every state.principal action text unnamed row answer tells

-- a row of which both verdicts allow or neither does tells that the access is the same
pub same_access : OneDecisionAt → (both : BothValue) (action text : List ℕ) (was now : Unnamed) (row : ChangedValue) (tells : TellsBoth both action text was now row)
    → is_change tells.verdicts ≡ false → HasSameAccess both action text was now
same_access one both action text was now row tells unchanged =
    let same = same_bools (is_allowed tells.verdicts.before) (is_allowed tells.verdicts.after) unchanged in
    let before = access_told one both.before action text was row tells.verdicts.before tells.before in
    let after = access_told one both.after action text now row tells.verdicts.after tells.after in (
      λ allowed. after.1 (sym same ∙ before.0 allowed),
      λ allowed. before.1 (same ∙ after.0 allowed),
    )

-- ---- rows of the request itself
answer_with : (every : EveryValue) (principal : Option ℕ) (action text : List ℕ) (unnamed : Unnamed) (row : ChangedValue) (answer : Option Verdict)
    → row.action ≡ action → row.resource ≡ text → Answers (state_with every principal) unnamed action text answer
    → TellsIn (state_with every principal) action text unnamed row answer
answer_with every None action text unnamed row answer acts has is = is
answer_with every (Some p) action text unnamed row answer acts has (verdict, is, right) = record {
  verdict = verdict;
  is = is;
  decides = decided_by every p unnamed action text verdict right;
  about = inl has;
}

pub answer_tells : (state : StateValue) (action text : List ℕ) (unnamed : Unnamed) (row : ChangedValue) (answer : Option Verdict) → row.action ≡ action
    → row.resource ≡ text → Answers state unnamed action text answer → TellsIn state action text unnamed row answer
answer_tells state action text unnamed row answer acts has answers = answer_with state.every state.principal action text unnamed row answer acts has answers

-- ---- of an action that is decided alike
alike_with : (every : EveryValue) (principal : Option ℕ) (shown action text : List ℕ) (unnamed : Unnamed) (row : ChangedValue) (answer : Option Verdict)
    → AreAlikeIn (state_with every principal) shown action → Says every text unnamed → TellsIn (state_with every principal) shown text unnamed row answer
    → TellsIn (state_with every principal) action text unnamed row answer
alike_with every None shown action text unnamed row answer alike says is = is
alike_with every (Some p) shown action text unnamed row answer alike says tells = record {
  verdict = tells.verdict;
  is = tells.is;
  decides = alike text unnamed tells.verdict.decision says tells.decides;
  about = tells.about;
}

pub alike_tells : (both : BothValue) (shown action text : List ℕ) (was now : Unnamed) (row : ChangedValue) → AreAlikeIn both.before shown action
    → AreAlikeIn both.after shown action → Says both.before.every text was → Says both.after.every text now → TellsBoth both shown text was now row
    → TellsBoth both action text was now row
alike_tells both shown action text was now row alike_was alike_now says_was says_now tells = record {
  verdicts = tells.verdicts;
  is = tells.is;
  before = alike_with both.before.every both.before.principal shown action text was row tells.verdicts.before alike_was says_was tells.before;
  after = alike_with both.after.every both.after.principal shown action text now row tells.verdicts.after alike_now says_now tells.after;
}
