-- What an engine remembers: which resource texts without variables match which resources. LOGIC 1.1.
use Rattle.std.specs.Prelude.{◌≡◌, ◌↔◌, ℕ, Bool, Contains, IsTrue, List, Some}
use Rattle.std.specs.List.{slice_get}
use Rattle.std.specs.Str.{chars}
use Rattle.iam_glob.specs.Glob.{Matches}
use Rattle.iam_glob.specs.declared.sign.Sign.{Sign}
use Rattle.iam_layers.specs.Cell.{IsResource}
use Rattle.iam_world.specs.World.{WorldValue}

-- the numbers of a text and a resource, and whether the one matches the other
abbrev pub Entry : Type 0
Entry = (ℕ × ℕ) × Bool

-- resource r has this ARN
abbrev pub HasArn : WorldValue → ℕ → List ℕ → Type 0
HasArn world r arn = IsResource world r (λ resource. arn ≡ resource.arn)

-- the entry is true of the text and the resource of its numbers
abbrev pub IsTrueOf : WorldValue → List (List Sign) → Entry → Type 0
IsTrueOf world texts e =
    (pattern : List Sign) (arn : List ℕ) → slice_get texts e.0.0 ≡ Some pattern → HasArn world e.0.1 arn
    → IsTrue e.1 ↔ Matches pattern (chars arn)

-- everything that is remembered is true
abbrev pub Remembers : WorldValue → List (List Sign) → List Entry → Type 0
Remembers world texts entries = (e : Entry) → Contains entries e → IsTrueOf world texts e
