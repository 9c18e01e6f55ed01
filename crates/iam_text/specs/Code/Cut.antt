-- How the code cuts an ARN, beside the definition that it meets (`Arn`).
use Rattle.std.specs.Prelude.{◌≡◌, ℕ, ◌+◌, List, ◌∷◌, ◌++◌}
use Rattle.iam_text.specs.Arn.{colon, colons, HasNoColon}

-- the text is cut at its first colon, into what stands before it and behind it
abbrev pub IsCutFirst : List ℕ → List ℕ → List ℕ → Type 0
IsCutFirst text front back = HasNoColon front × (text ≡ front ++ (colon ∷ back)) × (colons text ≡ colons back + 1)
