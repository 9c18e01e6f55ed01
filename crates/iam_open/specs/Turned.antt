-- What is said of a request, whatever values the keys have that nothing gives. LOGIC 11.6.
use Rattle.std.specs.Prelude.{◌≡◌, ℕ, List, ⊤}
use Rattle.iam_decision.specs.declared.verdict.Decision.TheVariants.{Allowed}
use Rattle.iam_layers.specs.Own.{IsOwnVerdict}
use Rattle.iam_open.specs.InQuestion.{IsAlways, IsInQuestion, IsNever, at_moment}
use Rattle.iam_open.specs.declared.answer.Turned.{Turned}
use Rattle.iam_open.specs.declared.answer.Turned.TheVariants as turned
use Rattle.iam_open.specs.declared.example.Example.{Example}
use Rattle.iam_world.specs.World.{WorldValue}

-- the context is in question, this is the verdict in it, and the request is allowed
pub record IsShown (worlds : List WorldValue) (world : WorldValue) (p a r : ℕ) (example : Example) : Type 0 where
  pub question : IsInQuestion worlds world p r example.own.items example.moment
  pub verdict : IsOwnVerdict (at_moment world example.moment) p a r example.own.items example.verdict
  pub allowed : example.verdict.decision ≡ Allowed

-- it is allowed in each of the contexts in question, or in none of them; or there is an example; or nothing is said
abbrev pub IsTurned : List WorldValue → WorldValue → ℕ → ℕ → ℕ → Turned → Type 0
IsTurned worlds world p a r turned.Always = IsAlways worlds world p a r
IsTurned worlds world p a r turned.Never = IsNever worlds world p a r
IsTurned worlds world p a r (turned.Possible example) = IsShown worlds world p a r example
IsTurned worlds world p a r turned.Open = ⊤
