-- The pieces of a template, by how the code keeps them.
use Rattle.std.specs.Prelude.{List}
use Rattle.iam_text.specs.declared.draft.Piece.{Piece}
use Rattle.iam_text.specs.declared.template.Kind.{Kind}
use Rattle.iam_text.specs.declared.template.Kind.TheVariants.{Fixed, Open}
use Rattle.iam_text.specs.Draft.{plain_draft}

abbrev pub pieces_in : Kind → List Piece
pieces_in (Fixed glob) = plain_draft glob
pieces_in (Open draft) = draft
