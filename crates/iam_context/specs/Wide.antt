-- What a text with variables becomes at most, in whatever context. LOGIC 4.3.
use Rattle.std.specs.Prelude.{List, map}
use Rattle.iam_glob.specs.declared.sign.Sign.{Sign}
use Rattle.iam_glob.specs.declared.sign.Sign.TheVariants.{Any}
use Rattle.iam_text.specs.declared.draft.Piece.{Piece}
use Rattle.iam_text.specs.declared.draft.Piece.TheVariants.{Plain, Escaped, Variable}

-- `*` stands for whatever a form becomes
abbrev pub wide_sign : Piece → Sign
wide_sign (Plain sign) = sign
wide_sign (Escaped c) = Any
wide_sign (Variable key default) = Any

-- the pattern of a text with `*` in place of each form
abbrev pub wide_of : List Piece → List Sign
wide_of pieces = map wide_sign pieces
