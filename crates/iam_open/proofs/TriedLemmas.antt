-- Contexts in which nothing is tried.
use Rattle.std.proofs.Common.{◌≡◌, ◌≤◌, ℕ, List, [], None, sym, subst}
use Rattle.std.specs.List.{Contains}
use Rattle.iam_context.specs.Context.{ContextValue}
use Rattle.iam_open.specs.InQuestion.{MayBeGiven}
use Rattle.iam_open.specs.Code.Tried.{IsTried}
use Rattle.iam_world.specs.World.{WorldValue}

pub none_tried : (own : ContextValue) (moment : ℕ) → IsTried [] None own moment
none_tried own moment = record { keys = λ key is. let wrong : ⊥ = cc in absurd wrong; tried = tt }

pub all_are_tried : (part own : ContextValue) (moment : ℕ) → part ≡ [] → IsTried part None own moment
all_are_tried part own moment none = subst (λ (x : ContextValue). IsTried x None own moment) (sym none) (none_tried own moment)

-- a moment in question is not before that of a world that is asked about
pub since_world : (worlds : List WorldValue) (world : WorldValue) (own : ContextValue) (moment : ℕ) → MayBeGiven worlds own moment
    → Contains worlds world → world.moment ≤ moment
since_world worlds world own moment given (k, below, at) = subst (λ (w : WorldValue). w.moment ≤ moment) at (given.from k world below)
