-- How the pieces of a text that may hold variables are kept. LOGIC 4.2.
use Rattle.std.specs.Prelude.{◌≡◌, List}
use Rattle.iam_text.specs.declared.draft.Piece.{Piece}
use Rattle.iam_text.specs.declared.template.TemplateForm.{TemplateForm}
use Rattle.iam_text.specs.declared.template.TemplateForm.TheVariants.{Fixed, Open}
use Rattle.iam_text.specs.Draft.{plain_draft}

-- as a pattern, each of whose signs is a piece, or as a draft
abbrev pub IsFormOf : TemplateForm → List Piece → Type 0
IsFormOf (Fixed glob) pieces = pieces ≡ plain_draft glob.now
IsFormOf (Open draft) pieces = pieces ≡ draft.now
