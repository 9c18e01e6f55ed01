-- Rows of requests, put together from pieces: what the workers make of a tile, and the text of all.
use Rattle.std.specs.Prelude.{◌≡◌, ℕ, ◌+◌, ◌<◌, List, [], ◌∷◌, ◌++◌, Bool, true, false, get_or, length, sum}
use Rattle.iam_decision.specs.declared.verdict.Decision.{Decision}
use Rattle.iam_decision.specs.declared.verdict.Verdict.{Verdict}
use Rattle.iam_world.specs.World.{WorldValue}
use Rattle.iam_row.specs.Piece.{bare, closing_text, opening_text, row_at, tail_of}
use Rattle.iam_row.specs.declared.position.Position.{Position}
use Rattle.iam_row.specs.declared.quoted.Format.{Format}
use Rattle.iam_row.specs.declared.quoted.Quoted.{Quoted}
use Rattle.iam_row.specs.declared.tail.Tail.{Tail}
use Rattle.iam_matrix.specs.Code.Tiles.{AreTails}
use Rattle.iam_asked.specs.Request.{AskedValue, IsAsked, RequestsValue}
use Rattle.iam_ask.specs.Report.{IsDecisionOn, IsVerdictOn}

-- the world has what the request names
pub record IsThere (world : WorldValue) (asked : AskedValue) : Type 0 where
  pub principal : asked.principal < length world.principals
  pub action : asked.action < length world.actions
  pub resource : asked.resource < length world.resources

-- request n is there, and an entry says of it what has to be said
abbrev pub IsOn : {X : Type 0} → (WorldValue → AskedValue → X → Type 0) → RequestsValue → ℕ → X → Type 0
IsOn Is requests n entry = IsAsked requests n (λ asked. IsThere requests.world asked × Is requests.world asked entry)

-- the decision on a request, as a verdict without places and layers
abbrev pub IsBareOn : WorldValue → AskedValue → Verdict → Type 0
IsBareOn world asked verdict = (decision : Decision) × IsDecisionOn world asked decision × (verdict ≡ bare decision)

-- the verdict on request n, or in brief its decision
abbrev pub IsAnswerTo : Bool → RequestsValue → ℕ → Verdict → Type 0
IsAnswerTo true requests n verdict = IsOn IsBareOn requests n verdict
IsAnswerTo false requests n verdict = IsOn IsVerdictOn requests n verdict

-- the tails of the rows of so many requests from this one on
abbrev pub AreTailsOf : Format → Bool → RequestsValue → ℕ → ℕ → List Tail → Type 0
AreTailsOf format brief requests from count tails = AreTails (IsAnswerTo brief requests) (tail_of format brief) from count tails

-- the cut has this tile, and is one of the requests, which are asked of the world that the engines have
pub record IsTileOf (world : WorldValue) (requests : RequestsValue) (lengths : List ℕ) (tile : ℕ) : Type 0 where
  pub same : requests.world ≡ world
  pub whole : sum lengths ≡ length requests.asked
  pub there : tile < length lengths

-- what would stand where there is no request
abbrev pub none_asked : AskedValue
none_asked = record { principal = 0; action = 0; resource = 0; own = [] }

-- the position of the row of request n
abbrev pub position_of : ℕ → AskedValue → Position
position_of n asked = record { cell = n; principal = asked.principal; action = asked.action; resource = asked.resource }

abbrev pub position_at : List AskedValue → ℕ → Position
position_at asked n = position_of n (get_or asked n none_asked)

-- rows with these tails, one behind the other from that of request n on
abbrev pub rows_text : Quoted → List AskedValue → ℕ → List Tail → List ℕ
rows_text quoted asked n [] = []
rows_text quoted asked n (tail ∷ tails) = row_at quoted (position_at asked n) tail ++ rows_text quoted asked (n + 1) tails

-- a report of requests, as it is kept: pieces, the requests, and a tail for each
pub record AskValue : Type 0 where
  pub quoted : Quoted
  pub brief : Bool
  pub asked : List AskedValue
  pub tails : List Tail

-- its text
abbrev pub ask_text : AskValue → List ℕ
ask_text ask =
    opening_text ask.quoted.format ask.brief
    ++ (rows_text ask.quoted ask.asked 0 ask.tails ++ closing_text ask.quoted.format)
