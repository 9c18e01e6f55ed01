-- What follows from what is certain of a request in each of two worlds.
use Rattle.std.proofs.Common.{◌≡◌, inl, inr, ℕ, List, [], ◌∷◌, arith, refl, Bor, Err, IfOk, IfSome, MatchOption, None, Ok, Option, Result, Some}
use Rattle.std.specs.List.{Contains}
use Rattle.iam_context.specs.Context.{ContextValue}
use Rattle.iam_layers.specs.Cell.{IsAction}
use Rattle.iam_open.specs.InQuestion.{IsAlways, IsNever, MayBeGiven}
use Rattle.iam_open.specs.Seat.{IsSeat}
use Rattle.iam_open.specs.declared.certain.Certain.{Certain}
use Rattle.iam_open.specs.declared.certain.Certain.TheVariants.{Always, Never}
use Rattle.iam_open_changes.specs.Code.Certain.{CannotTurn, IsCertainIn, IsCertainOf}
use Rattle.iam_open_changes.specs.InBoth.{IsAllowedIn, IsCleanIn, IsNeverTurned, IsRefusedIn}
use Rattle.iam_open_changes.specs.declared.numbers.Numbers.{Numbers}
use Rattle.iam_open_changes.specs.declared.side.Request.{Request}
use Rattle.iam_open_changes.specs.declared.side.Side.TheVariants.{Has, Lacks}
use Rattle.iam_open_changes.specs.declared.turn.Turn.{Turn}
use Rattle.iam_open_changes.specs.declared.turn.Turn.TheVariants.{Gained, Lost}
use Rattle.iam_open_changes.proofs.SideLemmas.{of_has, of_lacks, of_request}
use Rattle.iam_world.specs.World.{WorldValue}

abbrev AlwaysIn : WorldValue → Option Numbers → Type 0
AlwaysIn world at = MatchOption at ⊥ (λ it. (worlds : List WorldValue) → Contains worlds world → IsAlways worlds world it.principal it.action it.resource)

abbrev NeverIn : WorldValue → Option Numbers → Type 0
NeverIn world at = IfSome at (λ it. (worlds : List WorldValue) → Contains worlds world → IsNever worlds world it.principal it.action it.resource)

not_refused : (worlds : List WorldValue) (world : WorldValue) (at : Option Numbers) (own : ContextValue) (moment : ℕ) → AlwaysIn world at
    → Contains worlds world → MayBeGiven worlds own moment → IsCleanIn world at own → ¬ IsRefusedIn world at own moment
not_refused worlds world None own moment always among given clean refused = always
not_refused worlds world (Some it) own moment always among given clean (decision, decided, unlike) =
    unlike (always worlds among own moment decision (record { given = given; clean = clean }) decided)

not_allowed : (worlds : List WorldValue) (world : WorldValue) (at : Option Numbers) (own : ContextValue) (moment : ℕ) → NeverIn world at
    → Contains worlds world → MayBeGiven worlds own moment → IsCleanIn world at own → ¬ IsAllowedIn world at own moment
not_allowed worlds world None own moment never among given clean allowed = allowed
not_allowed worlds world (Some it) own moment never among given clean allowed =
    never worlds among own moment (record { given = given; clean = clean }) allowed

first : (before after : WorldValue) → Contains (before ∷ (after ∷ [])) before
first before after = (0, omega arith, refl)

second : (before after : WorldValue) → Contains (before ∷ (after ∷ [])) after
second before after = (1, omega arith, refl)

pub never_turned : (turn : Turn) (before after : WorldValue) (was now : Option Numbers) (one other : Certain) → IsCertainIn before was one
    → IsCertainIn after now other → CannotTurn turn one other → IsNeverTurned turn before after was now
never_turned Gained before after was now one other is is' (inl always) own moment question (refused, allowed) =
    not_refused (before ∷ (after ∷ [])) before was own moment (is.always always) (first before after) question.given question.clean_before refused
never_turned Gained before after was now one other is is' (inr never) own moment question (refused, allowed) =
    not_allowed (before ∷ (after ∷ [])) after now own moment (is'.never never) (second before after) question.given question.clean_after allowed
never_turned Lost before after was now one other is is' (inl never) own moment question (allowed, refused) =
    not_allowed (before ∷ (after ∷ [])) before was own moment (is.never never) (first before after) question.given question.clean_before allowed
never_turned Lost before after was now one other is is' (inr always) own moment question (allowed, refused) =
    not_refused (before ∷ (after ∷ [])) after now own moment (is'.always always) (second before after) question.given question.clean_after refused

-- what is certain of a request that the world has, and of one that it does not have
pub certain_has : {E : Type 0} (request : Request) (result : Result Certain E)
    → IfOk result (λ certain. (worlds : List WorldValue) (other : WorldValue) (a r : ℕ) → IsSeat request.scene.world.now request.scene.target other r
    → IsAction other a request.action.now → Contains worlds other → certain ≡ Always → IsAlways worlds other request.scene.p a r)
    → IfOk result (λ certain. (worlds : List WorldValue) (other : WorldValue) (a r : ℕ) → IsSeat request.scene.world.now request.scene.target other r
    → IsAction other a request.action.now → Contains worlds other → certain ≡ Never → IsNever worlds other request.scene.p a r)
    → IfOk result (IsCertainOf (Has request))
certain_has request (Ok certain) always never =
    of_has (λ other at. IsCertainIn other at certain) request
    (of_request (λ other it. IsCertainIn other (Some it) certain) request
    (λ other a r seat does. record {
      always = λ is worlds among. always worlds other a r seat does among is;
      never = λ is worlds among. never worlds other a r seat does among is;
    }))
certain_has request (Err e) always never = tt

certain_none : (world : WorldValue) → IsCertainIn world None Never
certain_none world = record { always = λ is. (let wrong : ⊥ = cc in wrong); never = λ is. tt }

pub certain_lacks : (world : Bor WorldValue) → IsCertainOf (Lacks world) Never
certain_lacks world = of_lacks (λ other at. IsCertainIn other at Never) world (certain_none world.now)
