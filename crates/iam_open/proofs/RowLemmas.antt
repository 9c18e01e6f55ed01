-- Rows, from the texts that they are made of.
use Rattle.std.proofs.Common.{◌≡◌, ◌≢◌, ◌∙◌, ◌++◌, ℕ, Bool, List, ap, codes, false, refl}
use Rattle.iam_decision.specs.declared.verdict.Verdict.{Verdict}
use Rattle.iam_layers.specs.Cell.{IsVerdictAt}
use Rattle.iam_open.specs.Report.{IsSaid}
use Rattle.iam_open.specs.Rows.{TurnedRow, back_text, front_text, full_text, joined_row, quoted_texts, row_text}
use Rattle.iam_open.specs.declared.answer.Turned.{Turned}
use Rattle.iam_open.specs.declared.answer.Turned.TheVariants.{Always, Never, Possible, Open}
use Rattle.iam_open.specs.declared.example.Example.{Example}
use Rattle.iam_row.specs.Piece.{quote_of}
use Rattle.iam_row.specs.Report.{CellTexts}
use Rattle.iam_row.specs.declared.quoted.Format.{Format}
use Rattle.iam_row.specs.declared.quoted.Format.TheVariants.{Json}
use Rattle.iam_world.specs.World.{WorldValue}

pub texts_same : (one other : CellTexts) → one.principal ≡ other.principal → one.action ≡ other.action → one.resource ≡ other.resource → one ≡ other
texts_same one other principal action resource =
    ap (λ x. record { principal = x; action = one.action; resource = one.resource }) principal
    ∙ ap (λ x. record { principal = other.principal; action = x; resource = one.resource }) action
    ∙ ap (λ x. record { principal = other.principal; action = other.action; resource = x }) resource

-- a row of texts that stand so is the row of those texts
pub row_made : (format : Format) (brief : Bool) (cell : ℕ) (row : TurnedRow) (quoted : CellTexts) → quoted.principal ≡ quote_of format row.texts.principal
    → quoted.action ≡ quote_of format row.texts.action → quoted.resource ≡ quote_of format row.texts.resource
    → joined_row format brief cell quoted row.turned row.verdict row.places row.keys ≡ row_text format brief cell row
row_made format brief cell row quoted principal action resource =
    ap (λ texts. joined_row format brief cell texts row.turned row.verdict row.places row.keys)
    (texts_same quoted (quoted_texts format row.texts) principal action resource)

-- a row of JSON in full, of its front and its end
pub json_made : (cell : ℕ) (texts : CellTexts) (word statements lacks places keys example front back : List ℕ) → front ≡ front_text Json cell texts word
    → back ≡ back_text texts.principal texts.resource statements
    → front ++ (codes ",\"example\":" ++ (example ++ (codes ",\"hangs_on\":[" ++ (places ++ (codes "],\"keys\":[" ++ (keys
    ++ (codes "],\"lacks\":[" ++ (lacks ++ (codes "]" ++ back))))))))) ≡ full_text Json cell texts word statements lacks places keys example
json_made cell texts word statements lacks places keys example front back front_is back_is =
    let behind : List ℕ → List ℕ = λ end.
    codes ",\"example\":" ++ (example ++ (codes ",\"hangs_on\":[" ++ (places ++ (codes "],\"keys\":[" ++ (keys ++ (codes "],\"lacks\":["
    ++ (lacks ++ (codes "]" ++ end)))))))) in
    ap (λ (f : List ℕ). f ++ behind back) front_is ∙ ap (λ (end : List ℕ). front_text Json cell texts word ++ behind end) back_is

-- what is said where there is no example
pub said_plain : (world : WorldValue) (p a r : ℕ) (turned : Turned) (verdict : Verdict) → ((example : Example) → turned ≢ Possible example)
    → IsVerdictAt world p a r verdict → IsSaid false world p a r turned verdict
said_plain world p a r Always verdict none is = is
said_plain world p a r Never verdict none is = is
said_plain world p a r (Possible example) verdict none is = absurd (none example refl)
said_plain world p a r Open verdict none is = is
