-- What a resource element matches at most, in whatever context. LOGIC 4.3 and 4.4.
use Rattle.std.specs.Prelude.{ℕ, List, Some, Any}
use Rattle.std.specs.Str.{chars}
use Rattle.iam_glob.specs.Glob.{Matches}
use Rattle.iam_glob.specs.declared.sign.Sign.{Sign}
use Rattle.iam_element.specs.Reading.{ResourceElement}
use Rattle.iam_context.specs.Context.{ContextValue}
use Rattle.iam_match.specs.Statement.{ResourceMatches}

-- a resource that the element matches in some context matches one of the patterns
abbrev pub Covers : List (List Sign) → ResourceElement → Type 0
Covers patterns element = (resource : List ℕ) (context : ContextValue) → ResourceMatches (Some element) resource context
    → Any (λ pattern. Matches pattern (chars resource)) patterns
