-- What follows from the definition of the texts that are shown. LOGIC 2.2.
use Rattle.std.specs.Prelude.{◌≡◌, ℕ, List}
use Rattle.iam_kinds.specs.Kinds.{Question}
use Rattle.iam_kinds.specs.Shown.{AreKinds, AreKindsFold}

-- a question has at most one list of texts that are one of each kind
abbrev pub OneListOfKinds : Type 0
OneListOfKinds = (question : Question) (texts others : List (List ℕ)) → AreKinds question texts → AreKinds question others → texts ≡ others

-- so it is without regard to case
abbrev pub OneListOfKindsFold : Type 0
OneListOfKindsFold =
    (question : Question) (texts others : List (List ℕ)) → AreKindsFold question texts → AreKindsFold question others → texts ≡ others
