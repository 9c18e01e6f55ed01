-- The report of requests that a file asks of a world: a row for each, in order, whose cell is the number of the request. It names no cut
-- and no worker. LOGIC 13.8.
use Rattle.std.specs.Prelude.{◌≡◌, ℕ, List, ◌++◌, Bool, true, false, length}
use Rattle.std.specs.List.{concat}
use Rattle.iam_decision.specs.declared.verdict.Decision.{Decision}
use Rattle.iam_decision.specs.declared.verdict.Verdict.{Verdict}
use Rattle.iam_layers.specs.Own.{IsOwnDecision, IsOwnVerdict}
use Rattle.iam_world.specs.World.{WorldValue}
use Rattle.iam_row.specs.Report.{CellTexts, HasTexts, brief_layout, full_layout, json_text}
use Rattle.iam_row.specs.declared.quoted.Format.{Format}
use Rattle.iam_row.specs.declared.quoted.Format.TheVariants.{Csv, Json}
use Rattle.iam_matrix.specs.Matrix.{AreEntriesFrom}
use Rattle.iam_asked.specs.Request.{AskedValue, IsAsked, RequestsValue}

-- the verdict of the written logic on a request alone, in its own context, and the decision
abbrev pub IsVerdictOn : WorldValue → AskedValue → Verdict → Type 0
IsVerdictOn world asked verdict = IsOwnVerdict world asked.principal asked.action asked.resource asked.own verdict

abbrev pub IsDecisionOn : WorldValue → AskedValue → Decision → Type 0
IsDecisionOn world asked decision = IsOwnDecision world asked.principal asked.action asked.resource asked.own decision

-- the request has these texts
abbrev pub HasAskedTexts : WorldValue → AskedValue → CellTexts → Type 0
HasAskedTexts world asked texts = HasTexts world asked.principal asked.action asked.resource texts

-- the row of request n, with what an entry says of it
abbrev pub IsRowOf : {X B : Type 0} → RequestsValue → (WorldValue → AskedValue → X → Type 0) → (ℕ → CellTexts → X → B) → ℕ → B → Type 0
IsRowOf {X} requests Is row n made =
    IsAsked requests n (λ asked.
    (texts : CellTexts) × (entry : X) × HasAskedTexts requests.world asked texts × Is requests.world asked entry × (made ≡ row n texts entry))

-- one row for each request, in order
pub record AreRows {X B : Type 0} (requests : RequestsValue) (Is : WorldValue → AskedValue → X → Type 0) (row : ℕ → CellTexts → X → B) (rows : List B) : Type 0 where
  pub count : length rows ≡ length requests.asked
  pub each : AreEntriesFrom (IsRowOf requests Is row) 0 rows

-- the text of these rows
abbrev pub IsText : {X B : Type 0} → RequestsValue → (WorldValue → AskedValue → X → Type 0) → (ℕ → CellTexts → X → B) → (List B → List ℕ) → List ℕ → Type 0
IsText {X} {B} requests Is row whole text = (rows : List B) × AreRows requests Is row rows × (text ≡ whole rows)

-- the report of requests, in full or in brief
abbrev pub IsAskReport : Format → Bool → RequestsValue → List ℕ → Type 0
IsAskReport Csv true requests text = IsText requests IsDecisionOn brief_layout.line (λ lines. brief_layout.header ++ concat lines) text
IsAskReport Csv false requests text = IsText requests IsVerdictOn full_layout.line (λ lines. full_layout.header ++ concat lines) text
IsAskReport Json true requests text = IsText requests IsDecisionOn brief_layout.object json_text text
IsAskReport Json false requests text = IsText requests IsVerdictOn full_layout.object json_text text
