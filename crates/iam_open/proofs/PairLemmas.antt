-- What is known of a pair: statement by statement, and what follows for its requests.
use Rattle.std.proofs.Common.{◌≡◌, ◌∙◌, ◌+◌, ◌<◌, inl, inr, ℕ, zero, suc, List, [], ◌∷◌, ◌++◌, All, None, Option, if◌then◌else◌, arith, get_or, length, map, refl, subst, sym, ap, take}
use Rattle.std.specs.List.{Any, Contains}
use Rattle.std.proofs.lemmas.List.{append-nil, length-map}
use Rattle.std.proofs.lemmas.List.Elements.{Contains-append_left, Contains-push, Contains-push_cases}
use Rattle.iam_context.specs.Context.{ContextValue}
use Rattle.iam_decision.specs.Applicable.{ApplicableValue, frame_of}
use Rattle.iam_decision.specs.Code.Scan.{placed_value}
use Rattle.iam_decision.specs.Decision.{IsDecision, Says}
use Rattle.iam_decision.specs.Living.{item_of}
use Rattle.iam_decision.specs.Matched.{IsMatched, Placed, placed}
use Rattle.iam_decision.specs.declared.frame.Frame.{Frame}
use Rattle.iam_decision.specs.declared.living.Matched.{Matched}
use Rattle.iam_decision.specs.declared.scan.Standing.{Standing}
use Rattle.iam_decision.specs.declared.verdict.Decision.TheVariants.{Allowed}
use Rattle.iam_layers.specs.Cell.{IsAction}
use Rattle.iam_match.specs.Statement.{AccessValue, RestMatches}
use Rattle.iam_open.specs.Code.Bounds.{AreBounds, AreLeast, AreMost, Decides, counts_at_least, counts_at_most}
use Rattle.iam_open.specs.Code.Certain.{Contexts, Tells}
use Rattle.iam_open.specs.Code.Known.{Follows, access_at, request_in}
use Rattle.iam_open.specs.Code.Pairs.{AreChances, IsChance, IsPairOf, IsViewAt, chance_of, may_match, placed_of}
use Rattle.iam_open.specs.Code.Tried.{IsAlwaysWhere, IsNeverWhere}
use Rattle.iam_open.specs.InQuestion.{IsAlways, IsNever}
use Rattle.iam_open.specs.declared.bounds.Bounds.{Bounds}
use Rattle.iam_open.specs.declared.certain.Certain.{Certain}
use Rattle.iam_open.specs.declared.certain.Certain.TheVariants.{Always, Never, Open}
use Rattle.iam_open.specs.declared.pair.Chance.{Chance}
use Rattle.iam_open.specs.declared.pair.Pair.{Pair}
use Rattle.iam_open.proofs.BoundLemmas.{always_allowed, least_more, least_none, most_more, most_none, never_allowed}
use Rattle.iam_open.proofs.ListLemmas.{at_map, in_some, none_of_none, push_all, push_some, some_cases, some_in, taken_more}
use Rattle.iam_open.proofs.TriedLemmas.{none_tried, since_world}
use Rattle.iam_open.proofs.WhereLemmas.{IsLookedAt}
use Rattle.iam_policy.specs.declared.effect.Effect.{Effect}
use Rattle.iam_policy.specs.declared.effect.Effect.TheVariants.{Allow, Deny}
use Rattle.iam_world.specs.World.{WorldValue}

-- ---- one more statement

-- one that may match is put behind the others
chance_put : (access : AccessValue) (Are : Contexts) (statements : List Placed) (x : Placed) (chances : List Chance) (chance : Chance)
    → IsChance access Are chance → placed_of chance ≡ x → AreChances access Are statements chances
    → AreChances access Are (statements ++ x ∷ []) (chances ++ chance ∷ [])
chance_put access Are statements x chances chance is same are =
    let more = statements ++ x ∷ [] in
    let Own : Chance → Type 0 = λ y. Contains more (placed_of y) in
    let here : Own chance = subst (λ (s : Placed). Contains more s) (sym same) (Contains-push statements x) in
    record {
      each = push_all (IsChance access Are) chances chance are.each is;
      among = push_all Own chances chance
          (λ k d below. Contains-append_left statements (x ∷ []) (placed_of (get_or chances k d)) (are.among k d below)) here;
      all = λ context at s inside matches.
          let P : Chance → Type 0 = λ y. placed_of y ≡ s in
          push_some P chances chance (elim (Contains-push_cases statements x s inside) [
            | inl before ↦ inl (are.all context at s before matches)
            | inr it ↦ inr (same ∙ it)
          ]);
    }

-- one that matches nowhere is left out
chance_left : (access : AccessValue) (Are : Contexts) (statements : List Placed) (x : Placed) (chances : List Chance)
    → ((context : ContextValue) → Are context → ¬ RestMatches x.statement (access_at access context)) → AreChances access Are statements chances
    → AreChances access Are (statements ++ x ∷ []) chances
chance_left access Are statements x chances never are = record {
  each = are.each;
  among = λ k d below. Contains-append_left statements (x ∷ []) (placed_of (get_or chances k d)) (are.among k d below);
  all = λ context at s inside matches. elim (Contains-push_cases statements x s inside) [
    | inl before ↦ are.all context at s before matches
    | inr it ↦ absurd (never context at (subst (λ (y : Placed). RestMatches y.statement (access_at access context)) (sym it) matches))
  ];
}

chances_by : (access : AccessValue) (Are : Contexts) (statements : List Placed) (s : Standing) (certain : Certain) (chances : List Chance)
    → Tells certain Are (λ context. RestMatches s.statement.now (access_at access context)) → AreChances access Are statements chances
    → AreChances access Are (statements ++ placed_value s ∷ [])
    (chances ++ (if may_match certain then chance_of access.requester s certain ∷ [] else []))
chances_by access Are statements s Always chances tells are =
    chance_put access Are statements (placed_value s) chances (chance_of access.requester s Always) (record { matched = refl; certain = tells }) refl are
chances_by access Are statements s Open chances tells are =
    chance_put access Are statements (placed_value s) chances (chance_of access.requester s Open) (record { matched = refl; certain = tells }) refl are
chances_by access Are statements s Never chances tells are =
    subst (λ (xs : List Chance). AreChances access Are (statements ++ placed_value s ∷ []) xs) (sym (append-nil chances))
    (chance_left access Are statements (placed_value s) chances tells are)

pub chances_more : (access : AccessValue) (Are : Contexts) (statements : List Placed) (i : ℕ) (s : Standing) (certain : Certain) (chances : List Chance)
    → i < length statements → placed_value s ≡ get_or statements i (placed_value s)
    → Tells certain Are (λ context. RestMatches s.statement.now (access_at access context)) → AreChances access Are (take i statements) chances
    → AreChances access Are (take (i + 1) statements)
    (chances ++ (if may_match certain then chance_of access.requester s certain ∷ [] else []))
chances_more access Are statements i s certain chances below at tells are =
    let now = chances ++ (if may_match certain then chance_of access.requester s certain ∷ [] else []) in
    subst (λ (xs : List Placed). AreChances access Are xs now) (sym (taken_more statements i (placed_value s) below at))
    (chances_by access Are (take i statements) s certain chances tells are)

pub chances_none : (access : AccessValue) (Are : Contexts) → AreChances access Are [] []
chances_none access Are = record {
  each = λ k d below. absurd (let wrong : ⊥ = omega (arith, below) in wrong);
  among = λ k d below. absurd (let wrong : ⊥ = omega (arith, below) in wrong);
  all = λ context is s inside matches. absurd (none_of_none (λ (y : Placed). y ≡ s) (in_some (λ (y : Placed). y ≡ s) [] s inside refl));
}

-- ---- one more chance

most_matched : (found : List Matched) (certain : Certain) (one other : Matched) → one ≡ other
    → found ++ (if counts_at_most certain one.effect then one ∷ [] else []) ≡ found ++ (if counts_at_most certain other.effect then other ∷ [] else [])
most_matched found certain one other same =
    ap (λ (m : Matched). found ++ (if counts_at_most certain m.effect then m ∷ [] else [])) same

least_matched : (found : List Matched) (certain : Certain) (one other : Matched) → one ≡ other
    → found ++ (if counts_at_least certain one.effect then one ∷ [] else []) ≡ found ++ (if counts_at_least certain other.effect then other ∷ [] else [])
least_matched found certain one other same =
    ap (λ (m : Matched). found ++ (if counts_at_least certain m.effect then m ∷ [] else [])) same

-- what is put behind those that were found is what it counts for
pub bounds_more : (access : AccessValue) (action : List ℕ) (Are : Contexts) (chances : List Chance) (i : ℕ) (chance : Chance) (certain : Certain)
    (before after : Bounds) → i < length chances → chance ≡ get_or chances i chance → IsChance access Are chance
    → Tells certain Are (λ context. IsMatched (request_in access action context) (placed_of chance))
    → after.most.items ≡ before.most.items ++ (if counts_at_most certain chance.matched.effect then chance.matched ∷ [] else [])
    → after.least.items ≡ before.least.items ++ (if counts_at_least certain chance.matched.effect then chance.matched ∷ [] else [])
    → AreBounds access action Are (take i (map placed_of chances)) before
    → AreBounds access action Are (take (i + 1) (map placed_of chances)) after
bounds_more access action Are chances i chance certain before after inside at is tells most least are =
    let xs : List Placed = map placed_of chances in
    let x : Placed = placed_of chance in
    let long : length xs ≡ length chances = length-map chances placed_of in
    let below : i < length xs = omega (arith, long, inside) in
    let here = at_map placed_of chances i chance inside at in
    let item = item_of access.requester x in
    record {
      most = subst (λ (found : List Matched). AreMost access action Are (take (i + 1) xs) found)
          (sym (most ∙ most_matched before.most.items certain chance.matched item is.matched))
          (most_more access action Are xs i x certain before.most.items below here tells are.most);
      least = subst (λ (found : List Matched). AreLeast access action Are (take (i + 1) xs) found)
          (sym (least ∙ least_matched before.least.items certain chance.matched item is.matched))
          (least_more access action Are xs i x certain before.least.items below here tells are.least);
    }

pub bounds_none : (access : AccessValue) (action : List ℕ) (Are : Contexts) (bounds : Bounds) → bounds.most.items ≡ [] → bounds.least.items ≡ []
    → AreBounds access action Are [] bounds
bounds_none access action Are bounds most least = record {
  most = subst (λ (found : List Matched). AreMost access action Are [] found) (sym most) (most_none access action Are);
  least = subst (λ (found : List Matched). AreLeast access action Are [] found) (sym least) (least_none access action Are);
}

-- ---- what follows for requests

in_map : {X Y : Type 0} (f : X → Y) (xs : List X) (y : Y) → Any (λ x. f x ≡ y) xs → Contains (map f xs) y
in_map f [] y some = absurd (none_of_none (λ x. f x ≡ y) some)
in_map f (x ∷ xs) y some = elim (some_cases (λ z. f z ≡ y) x xs some) [
  | inl is ↦ (0, omega arith, is)
  | inr rest ↦ let (k, below, at) = in_map f xs y rest in (suc k, omega (arith, below), at)
]

of_map : {X Y : Type 0} (f : X → Y) (P : Y → Type 0) (xs : List X) (y : Y) → All (λ x. P (f x)) xs → Contains (map f xs) y → P y
of_map f P [] y all inside = absurd (none_of_none (λ z. z ≡ y) (in_some (λ z. z ≡ y) [] y inside refl))
of_map f P (x ∷ xs) y all (zero, below, at) = subst P at (all 0 x (omega arith))
of_map f P (x ∷ xs) y all (suc k, below, at) =
    of_map f P xs y (λ j d lower. all (suc j) d (omega (arith, lower))) (k, omega (arith, below), at)

-- bounds of the chances are bounds of all statements
bounds_whole : (access : AccessValue) (action : List ℕ) (Are : Contexts) (statements : List Placed) (chances : List Chance) (bounds : Bounds)
    → AreChances access Are statements chances → AreBounds access action Are (map placed_of chances) bounds
    → AreBounds access action Are statements bounds
bounds_whole access action Are statements chances bounds are given =
    let xs : List Placed = map placed_of chances in
    let kept : (context : ContextValue) → Are context → (s : Placed) → Contains statements s → IsMatched (request_in access action context) s → Contains xs s =
    λ context is s inside matched. in_map placed_of chances s (are.all context is s inside matched.rest) in
    let whole : (s : Placed) → Contains xs s → Contains statements s =
    λ s inside. of_map placed_of (λ (y : Placed). Contains statements y) chances s are.among inside in
    record {
      most = record {
        allows = λ context is s among says. given.most.allows context is s (kept context is s among says.0) says;
        denies = λ context is m among effect. wider Deny context m (given.most.denies context is m among effect) whole;
      };
      least = record {
        allows = λ context is m among effect. wider Allow context m (given.least.allows context is m among effect) whole;
        denies = λ context is s among says. given.least.denies context is s (kept context is s among says.0) says;
      };
    }
  where
    wider : (effect : Effect) (context : ContextValue) (m : Matched)
        → Any (λ s. Says (request_in access action context) effect s × (item_of access.requester s ≡ m)) (map placed_of chances)
        → ((s : Placed) → Contains (map placed_of chances) s → Contains statements s)
        → Any (λ s. Says (request_in access action context) effect s × (item_of access.requester s ≡ m)) statements
    wider effect context m some whole =
        let P : Placed → Type 0 = λ s. Says (request_in access action context) effect s × (item_of access.requester s ≡ m) in
        let (s, inside, p) = some_in P (map placed_of chances) some in in_some P statements s (whole s inside) p

bounds_tell : (access : AccessValue) (action : List ℕ) (Are : Contexts) (a : ApplicableValue) (bounds : Bounds) (frame : Frame) (certain : Certain)
    → frame ≡ frame_of a → AreBounds access action Are (placed a) bounds → (certain ≡ Never → ¬ Decides bounds.most.items frame)
    → (certain ≡ Always → Decides bounds.least.items frame)
    → Tells certain Are (λ other. IsDecision a (request_in access action other) Allowed)
bounds_tell access action Are a bounds frame Never same are never always = λ other is.
    let most = bounds.most.items in
    never_allowed access action Are a most are.most (subst (λ (f : Frame). ¬ Decides most f) same (never refl)) other is
bounds_tell access action Are a bounds frame Always same are never always = λ other is.
    let least = bounds.least.items in
    always_allowed access action Are a least are.least (subst (λ (f : Frame). Decides least f) same (always refl)) other is
bounds_tell access action Are a bounds frame Open same are never always = tt

-- what follows from the bounds of its chances is so of the requests of a pair
pub pair_tells : (access : AccessValue) (known : List (List ℕ)) (action : List ℕ) (a : ApplicableValue) (pair : Pair) (bounds : Bounds) (certain : Certain)
    → IsPairOf access known a pair → AreBounds access action (Follows known access.context) (map placed_of pair.chances.items) bounds
    → (certain ≡ Never → ¬ Decides bounds.most.items pair.frame) → (certain ≡ Always → Decides bounds.least.items pair.frame)
    → Tells certain (Follows known access.context) (λ other. IsDecision a (request_in access action other) Allowed)
pair_tells access known action a pair bounds certain is are never always =
    let Are = Follows known access.context in
    bounds_tell access action Are a bounds pair.frame certain is.frame
    (bounds_whole access action Are (placed a) pair.chances.items bounds is.chances are) never always

-- what is so where no keys are tried is so in all contexts in question
pub always_plain : (worlds : List WorldValue) (world : WorldValue) (p a r : ℕ) → Contains worlds world → IsAlwaysWhere world p a r [] None
    → IsAlways worlds world p a r
always_plain worlds world p a r among told own moment decision question decided =
    told own moment decision question.clean (none_tried own moment) (since_world worlds world own moment question.given among) decided

pub never_plain : (worlds : List WorldValue) (world : WorldValue) (p a r : ℕ) → Contains worlds world → IsNeverWhere world p a r [] None
    → IsNever worlds world p a r
never_plain worlds world p a r among told own moment question =
    told own moment question.clean (none_tried own moment) (since_world worlds world own moment question.given among)

-- what a pair was looked at for, and an action
pub looked_at : (world : WorldValue) (p a r : ℕ) (tried : ContextValue) (access : AccessValue) (derived : ContextValue) (at : Option ℕ) (moment : ℕ)
    (known : List (List ℕ)) (action : List ℕ) → IsViewAt world p r tried access.context derived at moment known access.requester access.resource
    → IsAction world a action → IsLookedAt world p a r tried access.context derived at moment known access.requester access.resource action
looked_at world p a r tried access derived at moment known action view does = record {
  from = view.from;
  clean = view.clean;
  keys = view.keys;
  context = view.context;
  known_are = view.known_are;
  who = view.who;
  what = view.what;
  does = does;
}
