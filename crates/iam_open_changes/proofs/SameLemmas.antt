-- Requests of two worlds that are decided by the same.
use Rattle.std.proofs.Common.{◌≡◌, ◌∙◌, ◌<◌, ℕ, arith, pos, List, [], ◌∷◌, ◌++◌, Some, ap, append_assoc, refl, set, subst, sym}
use Rattle.std.proofs.lemmas.List.{append-nil, get_or-set_same, length-set}
use Rattle.std.proofs.lemmas.Option.{slice_get-get_or, slice_get_within}
use Rattle.std.specs.List.{Any, slice_get}
use Rattle.iam_context.specs.Context.{ContextValue, joined}
use Rattle.iam_decision.specs.Applicable.{ApplicableValue, frame_of}
use Rattle.iam_decision.specs.Decision.{Allows, AllowsAt, Denies, Grants, GrantsAtLeast, IsAllowed, IsDecided, IsDecision, Says}
use Rattle.iam_decision.specs.Laws.{OneDecision}
use Rattle.iam_decision.specs.Matched.{Placed, placed}
use Rattle.iam_decision.specs.declared.frame.Frame.{Frame}
use Rattle.iam_decision.specs.declared.place.Layer.{Layer}
use Rattle.iam_decision.specs.declared.verdict.Decision.{Decision}
use Rattle.iam_decision.specs.declared.verdict.Decision.TheVariants.{Allowed, ExplicitDeny, ImplicitDeny}
use Rattle.iam_layers.specs.Applicable.{applicable_of}
use Rattle.iam_layers.specs.Cell.{IsAccessAt, IsRequestAt}
use Rattle.iam_layers.specs.Derived.{derived_of}
use Rattle.iam_layers.specs.Own.{IsCleanAt, IsWorldWith}
use Rattle.iam_layers.proofs.VerdictLemmas.{one_some}
use Rattle.iam_match.specs.Requester.{RequesterValue}
use Rattle.iam_match.specs.Statement.{AccessValue, RequestValue, request_for}
use Rattle.iam_match.specs.declared.principal.Grant.{Grant}
use Rattle.iam_open.specs.InQuestion.{IsDecisionIn, at_moment}
use Rattle.iam_open.proofs.BoundLemmas.{more_allowed}
use Rattle.iam_open.proofs.ListLemmas.{in_some, some_in}
use Rattle.iam_open.proofs.TurnLemmas.{OneStamp}
use Rattle.iam_open_changes.specs.InBoth.{IsNeverTurned}
use Rattle.iam_open_changes.specs.Laws.{NoMoreIsAllowed, NoMoreIsNotTurned, SameAccess}
use Rattle.iam_open_changes.specs.Same.{AllowsNoMore, AskSame, IsAskedInBoth, Reaches, SaysAsMuch, known_context}
use Rattle.iam_open_changes.specs.declared.numbers.Numbers.{Numbers}
use Rattle.iam_open_changes.specs.declared.turn.Turn.TheVariants.{Gained, Lost}
use Rattle.iam_policy.specs.declared.effect.Effect.{Effect}
use Rattle.iam_policy.specs.declared.effect.Effect.TheVariants.{Allow, Deny}
use Rattle.iam_value.specs.Moment.{IsStamp}
use Rattle.iam_world.specs.World.{PrincipalValue, ResourceValue, WorldValue}

-- ---- the request that gives keys of its own

-- what is put at a place stands there
put_there : {A : Type 0} (xs : List A) (i : ℕ) (x y z : A) → slice_get xs i ≡ Some x → slice_get (set xs i y) i ≡ Some z → z ≡ y
put_there xs i x y z at there =
    let within = slice_get_within xs i x at in
    let long = subst (λ n. i < n) (sym (length-set xs i y)) within in
    one_some (slice_get (set xs i y) i) z y there (slice_get-get_or (set xs i y) i y long ∙ ap Some (get_or-set_same xs i y y within))

joined_is : (w p r own d : ContextValue) → joined (w ∷ (p ∷ ((r ++ own) ∷ []))) d ≡ (w ++ (p ++ r)) ++ (own ++ d)
joined_is w p r own d = simp (append-nil, append_assoc) refl

abbrev access_with : RequesterValue → List ℕ → ContextValue → AccessValue
access_with requester arn context = record { requester = requester; resource = arn; context = context }

-- who asks for what, in which context, at a moment that is written so
pub record IsAsked (world : WorldValue) (q : PrincipalValue) (s : ResourceValue) (own : ContextValue) (moment : ℕ) (applicable : ApplicableValue)
    (access : AccessValue) : Type 0 where
  pub stamp : List ℕ
  pub stamped : IsStamp (pos moment) stamp
  pub applies : applicable ≡ applicable_of world q s
  pub is :
      access ≡ access_with q.requester s.arn (known_context world q s ++ (own ++ derived_of q.requester s.account moment stamp))

asked_of : (world : WorldValue) (p r : ℕ) (own : ContextValue) (moment : ℕ) (other : WorldValue) → IsWorldWith (at_moment world moment) r own other
    → (applicable : ApplicableValue) (access : AccessValue) → IsAccessAt other p r applicable access → (q : PrincipalValue) (s : ResourceValue)
    → slice_get world.principals p ≡ Some q → slice_get world.resources r ≡ Some s → IsAsked world q s own moment applicable access
asked_of world p r own moment other (x, there, other_is) applicable access is_access q s at_q at_s =
    let more : ResourceValue → ResourceValue = λ y. record y { context = y.context ++ own } in
    let wide : WorldValue = record world { moment = moment; resources = set world.resources r (more x) } in
    let asked : IsAccessAt wide p r applicable access = subst (λ (w : WorldValue). IsAccessAt w p r applicable access) other_is is_access in
    let q_is : asked.principal ≡ q = one_some (slice_get world.principals p) asked.principal q asked.principal_is at_q in
    let x_is : x ≡ s = one_some (slice_get world.resources r) x s there at_s in
    let s_is : asked.resource ≡ more s = put_there world.resources r x (more x) asked.resource there asked.resource_is ∙ ap more x_is in
    let (stamp, stamped, derived_is) = asked.derived_is in
    let later = derived_of q.requester s.account moment stamp in
    let later_is : asked.derived ≡ later =
    derived_is ∙ ap (λ (y : PrincipalValue). derived_of y.requester asked.resource.account moment stamp) q_is
    ∙ ap (λ (y : ResourceValue). derived_of q.requester y.account moment stamp) s_is in
    let context_is : access.context ≡ known_context world q s ++ (own ++ later) =
    ap (λ (y : AccessValue). y.context) asked.access_is
    ∙ ap (λ (y : PrincipalValue). joined (world.context ∷ (y.context ∷ (asked.resource.context ∷ []))) asked.derived) q_is
    ∙ ap (λ (y : ResourceValue). joined (world.context ∷ (q.context ∷ (y.context ∷ []))) asked.derived) s_is
    ∙ ap (λ (d : ContextValue). joined (world.context ∷ (q.context ∷ ((s.context ++ own) ∷ []))) d) later_is
    ∙ joined_is world.context q.context s.context own later in
    let who : access.requester ≡ q.requester = ap (λ (y : AccessValue). y.requester) asked.access_is ∙ ap (λ (y : PrincipalValue). y.requester) q_is in
    let what : access.resource ≡ s.arn = ap (λ (y : AccessValue). y.resource) asked.access_is ∙ ap (λ (y : ResourceValue). y.arn) s_is in
    record {
      stamp = stamp;
      stamped = stamped;
      applies = asked.applicable_is ∙ ap (λ (y : PrincipalValue). applicable_of wide y asked.resource) q_is
          ∙ ap (λ (y : ResourceValue). applicable_of wide q y) s_is;
      is = ap (λ x. access_with x access.resource access.context) who ∙ ap (λ x. access_with q.requester x access.context) what
          ∙ ap (λ x. access_with q.requester s.arn x) context_is;
    }

action_is : (world other : WorldValue) (r moment : ℕ) (own : ContextValue) (a : ℕ) (one text : List ℕ) → IsWorldWith (at_moment world moment) r own other
    → slice_get other.actions a ≡ Some one → slice_get world.actions a ≡ Some text → one ≡ text
action_is world other r moment own a one text (x, there, is) does acts =
    one_some (slice_get world.actions a) one text (subst (λ (w : WorldValue). slice_get w.actions a ≡ Some one) is does) acts

-- both give one access, where requester, text and account are the same, and the known keys
one_access : OneStamp → (before after : WorldValue) (q q' : PrincipalValue) (s s' : ResourceValue) (own : ContextValue) (moment : ℕ)
    (applicable applicable' : ApplicableValue) (access access' : AccessValue) → IsAsked before q s own moment applicable access
    → IsAsked after q' s' own moment applicable' access' → q.requester ≡ q'.requester → s.arn ≡ s'.arn → s.account ≡ s'.account
    → known_context before q s ≡ known_context after q' s' → access ≡ access'
one_access one before after q q' s s' own moment applicable applicable' access access' is is' who what account known =
    let stamps : is.stamp ≡ is'.stamp = one (pos moment) is.stamp is'.stamp is.stamped is'.stamped in
    let whole : RequesterValue → List ℕ → List ℕ → ContextValue → List ℕ → AccessValue = λ x arn owner keys stamp.
    access_with x arn (keys ++ (own ++ derived_of x owner moment stamp)) in
    is.is
    ∙ ap (λ x. whole x s.arn s.account (known_context before q s) is.stamp) who
    ∙ ap (λ x. whole q'.requester x s.account (known_context before q s) is.stamp) what
    ∙ ap (λ x. whole q'.requester s'.arn x (known_context before q s) is.stamp) account
    ∙ ap (λ x. whole q'.requester s'.arn s'.account x is.stamp) known
    ∙ ap (λ x. whole q'.requester s'.arn s'.account (known_context after q' s') x) stamps
    ∙ sym is'.is

-- ---- the decision

moved : (effect : Effect) (q : RequestValue) (ones others : List Placed) (P : Placed → Type 0) → Reaches effect q ones others
    → ((s : Placed) → P s → Says q effect s) → ((s t : Placed) → SaysAsMuch q s t → P s → P t) → Any P ones → Any P others
moved effect q ones others P reaches says keeps some =
    let (s, among, p) = some_in P ones some in
    let (t, there, much) = reaches s among (says s p) in
    in_some P others t there (keeps s t much p)

says_moved : (effect : Effect) (q : RequestValue) (s t : Placed) → SaysAsMuch q s t → Says q effect s → Says q effect t
says_moved effect q s t much says = (much.matched, much.effect ∙ says.1)

denies_moved : (q : RequestValue) (a b : ApplicableValue) → Reaches Deny q (placed a) (placed b) → Denies a q → Denies b q
denies_moved q a b reaches some = moved Deny q (placed a) (placed b) (Says q Deny) reaches (λ s p. p) (says_moved Deny q) some

allows_moved : (q : RequestValue) (a b : ApplicableValue) → Reaches Allow q (placed a) (placed b) → (layer : Layer) (level : ℕ)
    → Allows a q layer level → Allows b q layer level
allows_moved q a b reaches layer level some =
    moved Allow q (placed a) (placed b) (AllowsAt q layer level) reaches (λ s p. p.0)
    (λ s t much p. (says_moved Allow q s t much p.0, much.layer ∙ p.1, much.level ∙ p.2)) some

grants_moved : (q : RequestValue) (a b : ApplicableValue) → Reaches Allow q (placed a) (placed b) → (least : Grant) → Grants a q least
    → Grants b q least
grants_moved q a b reaches least some =
    moved Allow q (placed a) (placed b) (GrantsAtLeast q least) reaches (λ s p. p.0)
    (λ s t much p. (says_moved Allow q s t much p.0, much.layer ∙ p.1, omega (arith, p.2, much.grant))) some

allowed_moved : (q : RequestValue) (a b : ApplicableValue) (frame : Frame) → Reaches Allow q (placed a) (placed b)
    → IsAllowed (Allows a q) (Grants a q) frame → IsAllowed (Allows b q) (Grants b q) frame
allowed_moved q a b frame on allowed =
    more_allowed (Allows a q) (Allows b q) (Grants a q) (Grants b q) frame (allows_moved q a b on) (grants_moved q a b on) allowed

decided_moved : (q : RequestValue) (a b : ApplicableValue) (frame : Frame) → ((effect : Effect) → Reaches effect q (placed a) (placed b))
    → ((effect : Effect) → Reaches effect q (placed b) (placed a)) → (decision : Decision)
    → IsDecided (Denies a q) (Allows a q) (Grants a q) frame decision → IsDecided (Denies b q) (Allows b q) (Grants b q) frame decision
decided_moved q a b frame on back ExplicitDeny denies = denies_moved q a b (on Deny) denies
decided_moved q a b frame on back Allowed (free, allowed) =
    ((λ denies. free (denies_moved q b a (back Deny) denies)), allowed_moved q a b frame (on Allow) allowed)
decided_moved q a b frame on back ImplicitDeny (free, lacking) =
    ((λ denies. free (denies_moved q b a (back Deny) denies)), (λ allowed. lacking (allowed_moved q b a frame (back Allow) allowed)))

-- ---- what both worlds are asked in a context in question

pub record IsAlike (before after : WorldValue) (was now : Numbers) (decision other : Decision) : Type 0 where
  pub q : RequestValue
  pub a : ApplicableValue
  pub b : ApplicableValue
  pub frames : frame_of a ≡ frame_of b
  pub asked : IsAskedInBoth before after was now a b q
  pub decided_a : IsDecision a q decision
  pub decided_b : IsDecision b q other

alike_of : OneStamp → (before after : WorldValue) (was now : Numbers) (own : ContextValue) (moment : ℕ) (decision other : Decision)
    → AskSame before after was now → IsCleanAt before was.principal was.resource own → IsCleanAt after now.principal now.resource own
    → IsDecisionIn before was.principal was.action was.resource own moment decision
    → IsDecisionIn after now.principal now.action now.resource own moment other → IsAlike before after was now decision other
alike_of stamp before after was now own moment decision other same clean clean'
    (w, is_w, (a, q, (access, text, is_access, is_action, q_is), decided)) (w', is_w', (b, q', (access', text', is_access', is_action', q_is'), decided')) =
    let asked = asked_of before was.principal was.resource own moment w is_w a access is_access same.asked same.sought same.asked_at same.sought_at in
    let asks = asked_of after now.principal now.resource own moment w' is_w' b access' is_access' same.asks same.seeks same.asks_at same.seeks_at in
    let accesses : access ≡ access' =
    one_access stamp before after same.asked same.asks same.sought same.seeks own moment a b access access' asked asks same.requester same.text
    same.account same.known in
    let texts : text ≡ text' =
    action_is before w was.resource moment own was.action text same.action is_w is_action same.action_before
    ∙ sym (action_is after w' now.resource moment own now.action text' same.action is_w' is_action' same.action_after) in
    let requests : q' ≡ q = q_is' ∙ sym (q_is ∙ ap (λ (x : AccessValue). request_for x text) accesses ∙ ap (request_for access') texts) in
    record {
      q = q;
      a = a;
      b = b;
      frames = ap frame_of asked.applies ∙ same.frame ∙ sym (ap frame_of asks.applies);
      asked = record {
        own = own;
        moment = moment;
        clean_one = clean;
        clean_other = clean';
        asked_one = (w, is_w, (access, text, is_access, is_action, q_is));
        asked_other = (
          w',
          is_w',
          subst (λ (x : RequestValue). IsRequestAt w' now.principal now.action now.resource b x) requests
              (access', text', is_access', is_action', q_is'),
        );
      };
      decided_a = decided;
      decided_b = subst (λ (x : RequestValue). IsDecision b x other) requests decided';
    }

other_way : (one other : WorldValue) (at to : Numbers) (a b : ApplicableValue) (q : RequestValue) → IsAskedInBoth one other at to a b q
    → IsAskedInBoth other one to at b a q
other_way one other at to a b q asked = record {
  own = asked.own;
  moment = asked.moment;
  clean_one = asked.clean_other;
  clean_other = asked.clean_one;
  asked_one = asked.asked_other;
  asked_other = asked.asked_one;
}

-- ---- the same access

pub same_access : OneStamp → OneDecision → SameAccess
same_access stamp one before after was now own moment decision other same clean clean' decided decided' =
    let it = alike_of stamp before after was now own moment decision other same.same clean clean' decided decided' in
    let on : (effect : Effect) → Reaches effect it.q (placed it.a) (placed it.b) = λ effect. same.on effect it.a it.b it.q it.asked in
    let back : (effect : Effect) → Reaches effect it.q (placed it.b) (placed it.a) = λ effect.
    same.back effect it.b it.a it.q (other_way before after was now it.a it.b it.q it.asked) in
    let turned : IsDecision it.b it.q decision =
    subst (λ (f : Frame). IsDecided (Denies it.b it.q) (Allows it.b it.q) (Grants it.b it.q) f decision) it.frames
    (decided_moved it.q it.a it.b (frame_of it.a) on back decision it.decided_a) in
    one it.b it.q decision other turned it.decided_b

-- ---- no more is allowed

pub no_more_is_allowed : OneStamp → OneDecision → NoMoreIsAllowed
no_more_is_allowed stamp one first second at to own moment decision fewer clean clean' allowed decided =
    let it = alike_of stamp first second at to own moment Allowed decision fewer.same clean clean' allowed decided in
    let on : Reaches Allow it.q (placed it.a) (placed it.b) = fewer.allows it.a it.b it.q it.asked in
    let back : Reaches Deny it.q (placed it.b) (placed it.a) =
    fewer.denies it.b it.a it.q (other_way first second at to it.a it.b it.q it.asked) in
    let (free, granted) = it.decided_a in
    let turned : IsDecision it.b it.q Allowed =
    subst (λ (f : Frame). IsDecided (Denies it.b it.q) (Allows it.b it.q) (Grants it.b it.q) f Allowed) it.frames
    ((λ denies. free (denies_moved it.q it.b it.a back denies)), allowed_moved it.q it.a it.b (frame_of it.a) on granted) in
    one it.b it.q decision Allowed it.decided_b turned

gains : NoMoreIsAllowed → (before after : WorldValue) (was now : Numbers) → AllowsNoMore after before now was
    → IsNeverTurned Gained before after (Some was) (Some now)
gains law before after was now fewer own moment question ((decision, decided, unlike), allowed) =
    unlike (law after before now was own moment decision fewer question.clean_after question.clean_before allowed decided)

losses : NoMoreIsAllowed → (before after : WorldValue) (was now : Numbers) → AllowsNoMore before after was now
    → IsNeverTurned Lost before after (Some was) (Some now)
losses law before after was now fewer own moment question (allowed, (decision, decided, unlike)) =
    unlike (law before after was now own moment decision fewer question.clean_before question.clean_after allowed decided)

pub no_more_is_not_turned : NoMoreIsAllowed → NoMoreIsNotTurned
no_more_is_not_turned law before after was now = (gains law before after was now, losses law before after was now)
