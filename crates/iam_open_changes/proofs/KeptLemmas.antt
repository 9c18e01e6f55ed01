-- The statements that may match, one after the other, and those of a request.
use Rattle.std.proofs.Common.{◌≡◌, ◌∙◌, ◌+◌, ◌<◌, inl, inr, ℕ, List, [], ◌∷◌, ◌++◌, All, None, ap, arith, get_or, length, refl, subst, sym, take}
use Rattle.std.proofs.lemmas.List.Elements.{Contains-append_left, Contains-append_right, Contains-push_cases}
use Rattle.std.specs.List.{Contains}
use Rattle.iam_condition.specs.Entry.{EntryValue}
use Rattle.iam_context.specs.Context.{ContextValue}
use Rattle.iam_decision.specs.Applicable.{ApplicableValue}
use Rattle.iam_decision.specs.Matched.{IsMatched, Placed, placed}
use Rattle.iam_layers.specs.Cell.{IsApplicableAt}
use Rattle.iam_match.specs.Entry.{EntryHolds}
use Rattle.iam_match.specs.Principal.{grant_of}
use Rattle.iam_match.specs.Requester.{RequesterValue}
use Rattle.iam_match.specs.Statement.{AccessValue, RequestValue}
use Rattle.iam_open.specs.Code.Certain.{Contexts}
use Rattle.iam_open.specs.Code.Known.{AgreeOn, request_in}
use Rattle.iam_open.proofs.ListLemmas.{all_pushed, taken_more}
use Rattle.iam_open.proofs.TriedLemmas.{all_are_tried}
use Rattle.iam_open.proofs.TurnLemmas.{OneStamp}
use Rattle.iam_open.proofs.WhereLemmas.{IsLookedAt, in_turn}
use Rattle.iam_open_changes.specs.Code.Kept.{AreKept, AreKeptOf, IsKept, KeptValue, OpenHolds}
use Rattle.iam_open_changes.specs.declared.numbers.Numbers.{Numbers}
use Rattle.iam_open_changes.proofs.AllLemmas.{all_more}
use Rattle.iam_world.specs.World.{WorldValue}

-- ---- the entries of a statement that are open

-- the first entries hold wherever those that are left do
abbrev Suffice : Contexts → List EntryValue → List EntryValue → Type 0
Suffice Are entries left = (other : ContextValue) → Are other → All (EntryHolds other) left → All (EntryHolds other) entries

pub suffice_always : (Are : Contexts) (entries left : List EntryValue) (i : ℕ) (entry : EntryValue) → i < length entries → entry ≡ get_or entries i entry
    → ((other : ContextValue) → Are other → EntryHolds other entry) → Suffice Are (take i entries) left → Suffice Are (take (i + 1) entries) left
suffice_always Are entries left i entry below at always so_far other is holds =
    all_more (EntryHolds other) entries i entry below at (so_far other is holds) (always other is)

pub suffice_open : (Are : Contexts) (entries left : List EntryValue) (i : ℕ) (entry : EntryValue) → i < length entries → entry ≡ get_or entries i entry
    → Suffice Are (take i entries) left → Suffice Are (take (i + 1) entries) (left ++ entry ∷ [])
suffice_open Are entries left i entry below at so_far other is holds =
    let (before, here) = all_pushed (EntryHolds other) left entry holds in
    all_more (EntryHolds other) entries i entry below at (so_far other is before) here

pub some_never : (Are : Contexts) (entries : List EntryValue) (i : ℕ) (entry : EntryValue) → i < length entries → entry ≡ get_or entries i entry
    → ((other : ContextValue) → Are other → ¬ EntryHolds other entry) → (other : ContextValue) → Are other → ¬ All (EntryHolds other) entries
some_never Are entries i entry below at never other is all = never other is (subst (EntryHolds other) (sym at) (all i entry below))

-- ---- the statements

last_in : {X : Type 0} (xs : List X) (x : X) → Contains (xs ++ x ∷ []) x
last_in xs x = Contains-append_right xs (x ∷ []) x (0, omega arith, refl)

-- one more statement that may match is kept
pub kept_more : (access : AccessValue) (action : List ℕ) (Are : Contexts) (statements : List Placed) (i : ℕ) (x : Placed) (it : KeptValue)
    (kept : List KeptValue) → i < length statements → x ≡ get_or statements i x → it.standing ≡ x → IsKept access action Are it
    → AreKeptOf access action Are (take i statements) kept → AreKeptOf access action Are (take (i + 1) statements) (kept ++ it ∷ [])
kept_more access action Are statements i x it kept below at of_x is_kept are =
    let before = take i statements in
    let Q : List Placed → Type 0 = λ xs. AreKeptOf access action Are xs (kept ++ it ∷ []) in
    subst Q (sym (taken_more statements i x below at)) (record {
      applying = λ y among. elim (Contains-push_cases kept it y among) [
        | inl inside ↦ (let (there, is) = are.applying y inside in (Contains-append_left before (x ∷ []) y.standing there, is))
        | inr same ↦
            subst (λ (z : KeptValue). Contains (before ++ x ∷ []) z.standing × IsKept access action Are z) same
            (subst (λ (z : Placed). Contains (before ++ x ∷ []) z) (sym of_x) (last_in before x), is_kept)
      ];
      matching = λ context s is among matched. elim (Contains-push_cases before x s among) [
        | inl inside ↦ (let (y, there, of_s) = are.matching context s is inside matched in (y, Contains-append_left kept (it ∷ []) y there, of_s))
        | inr same ↦ (it, last_in kept it, of_x ∙ same)
      ];
    })

-- one that does not match is not
pub kept_past : (access : AccessValue) (action : List ℕ) (Are : Contexts) (statements : List Placed) (i : ℕ) (x : Placed) (kept : List KeptValue)
    → i < length statements → x ≡ get_or statements i x
    → ((context : ContextValue) → Are context → ¬ IsMatched (request_in access action context) x)
    → AreKeptOf access action Are (take i statements) kept → AreKeptOf access action Are (take (i + 1) statements) kept
kept_past access action Are statements i x kept below at none are =
    let before = take i statements in
    let Q : List Placed → Type 0 = λ xs. AreKeptOf access action Are xs kept in
    subst Q (sym (taken_more statements i x below at)) (record {
      applying = λ y among. (let (there, is) = are.applying y among in (Contains-append_left before (x ∷ []) y.standing there, is));
      matching = λ context s is among matched. elim (Contains-push_cases before x s among) [
        | inl inside ↦ are.matching context s is inside matched
        | inr same ↦ absurd (none context is (subst (λ (y : Placed). IsMatched (request_in access action context) y) (sym same) matched))
      ];
    })

-- those of a request
pub kept_at : OneStamp → (world : WorldValue) (at : Numbers) (tried base derived : ContextValue) (now : ℕ) (known : List (List ℕ))
    (requester : RequesterValue) (arn action : List ℕ) (statements : List Placed) (kept : List KeptValue)
    → IsLookedAt world at.principal at.action at.resource tried base derived None now known requester arn action → tried ≡ []
    → ((a : ApplicableValue) → IsApplicableAt world at.principal at.resource a → statements ≡ placed a)
    → AreKeptOf (record { requester = requester; resource = arn; context = base }) action (AgreeOn known base) statements kept
    → AreKept world at kept
kept_at one world at tried base derived now known requester arn action statements kept looked none placed_are are = record {
  matching = λ own moment other applicable request s clean is_other (access, text, is_access, is_action, request_is) among matched.
      let (agree, later, applies, is) =
      in_turn one world at.principal at.action at.resource tried base derived None now known requester arn action looked own moment clean
      (all_are_tried tried own moment none) other is_other applicable request access text is_access is_action request_is in
      are.matching access.context s agree (subst (λ (xs : List Placed). Contains xs s) (sym (placed_are applicable applies)) among)
      (subst (λ (q : RequestValue). IsMatched q s) is matched);
  stands = λ own moment other applicable request it clean is_other (access, text, is_access, is_action, request_is) among.
      let (agree, later, applies, is) =
      in_turn one world at.principal at.action at.resource tried base derived None now known requester arn action looked own moment clean
      (all_are_tried tried own moment none) other is_other applicable request access text is_access is_action request_is in
      let (there, is_kept) = are.applying it among in
      record {
        there = subst (λ (xs : List Placed). Contains xs it.standing) (placed_are applicable applies) there;
        grants = is_kept.grants ∙ ap (λ (q : RequestValue). grant_of it.standing.statement.principal q.requester) (sym is);
        matches = λ holds.
            subst (λ (q : RequestValue). IsMatched q it.standing) (sym is)
            (is_kept.matches access.context agree (subst (λ (q : RequestValue). OpenHolds it q) is holds));
      };
}
