-- What the code keeps of a draft beside its text: in proofs alone, the pieces.
use Rattle.std.specs.Prelude.{◌≡◌, ℕ, List, Bool}
use Rattle.std.specs.Coded.{Coded-set, coded_list}
use Rattle.std.proofs.Math.Logic.{∥∥₁_elim, ∥∥₁_prop}
use mathlib.Core.HLevel.{Σ_prop_path}
use Rattle.iam_text.specs.declared.draft.Piece.{Piece}
use Rattle.iam_text.specs.contracts.draft.Piece.{the_row}
use Rattle.iam_text.specs.declared.version.Version.{Version}
use Rattle.iam_text.specs.Draft.{IsDraftIn}

-- the pieces are a draft of the text, and its only one
abbrev pub IsOneDraft : Version → Bool → List ℕ → List Piece → Type 0
IsOneDraft version wild text pieces = IsDraftIn version wild text pieces × ((other : List Piece) → IsDraftIn version wild text other → pieces ≡ other)

-- the one draft of the text
abbrev pub OneDraft : Version → Bool → List ℕ → Type 0
OneDraft version wild text = (pieces : List Piece) × ∥ IsOneDraft version wild text pieces ∥₁

pub OneDraft-prop : (version : Version) (wild : Bool) (text : List ℕ) → IsProp (OneDraft version wild text)
OneDraft-prop version wild text a b =
    Σ_prop_path (λ _. ∥∥₁_prop)
    (∥∥₁_elim a.1 (Coded-set (coded_list the_row.coded) a.0 b.0)
    (λ x. ∥∥₁_elim b.1 (Coded-set (coded_list the_row.coded) a.0 b.0) (λ y. x.1 b.0 y.0)))
