-- That two worlds have one list of requests, and a world at most one first text that stands twice. LOGIC 13.7.
use Rattle.std.specs.Prelude.{◌≡◌, ℕ, List}
use Rattle.iam_world.specs.World.{WorldValue}
use Rattle.iam_row.specs.Report.{CellTexts}
use Rattle.iam_changes.specs.Requests.{AreRequests, IsCount}
use Rattle.iam_changes.specs.Twice.{IsFirstTwice}
use Rattle.iam_changes.specs.declared.twice.Twice.{Twice}

-- two worlds have one list of requests
abbrev pub OneRequests : Type 0
OneRequests =
    (before after : WorldValue) (requests others : List CellTexts) → AreRequests before after requests
    → AreRequests before after others → requests ≡ others

-- and one number of them
abbrev pub OneCount : Type 0
OneCount =
    (before after : WorldValue) (count other : ℕ) → IsCount before after count → IsCount before after other → count ≡ other

-- a world has at most one first place at which a text stands again
abbrev pub OneTwice : Type 0
OneTwice = (world : WorldValue) (twice other : Twice) → IsFirstTwice world twice → IsFirstTwice world other → twice ≡ other
