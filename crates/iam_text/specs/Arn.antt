-- The parts of an ARN: AWS IAM User Guide, "IAM identifiers", `arn:partition:service:region:account:resource`.
-- A text is the list of its bytes. LOGIC 3.
use Rattle.std.specs.Prelude.{◌≡◌, ℕ, List, [], ◌∷◌, ◌==◌, length, take, count_by}
use Rattle.std.specs.List.{AllByRecursion, join_with_byte}
use Rattle.iam_text.specs.declared.arn.Arn.{Arn}

-- the byte of the colon
abbrev pub colon : ℕ
colon = 58

-- how many colons a text has
abbrev pub colons : List ℕ → ℕ
colons text = count_by (λ b. b == colon) text

-- a text without a colon
abbrev pub HasNoColon : List ℕ → Type 0
HasNoColon text = colons text ≡ 0

-- six parts, the first five without a colon, that joined by colons are the text; the first need not be `arn`
abbrev pub IsArn : List (List ℕ) → List ℕ → Type 0
IsArn parts text =
    (length parts ≡ 6) × AllByRecursion HasNoColon (take 5 parts) × (join_with_byte colon parts ≡ text)

-- the parts of an `Arn`, as a list
abbrev pub parts_of : Arn → List (List ℕ)
parts_of a =
    a.prefix.now ∷ (a.partition.now ∷ (a.service.now ∷ (a.region.now ∷ (a.account.now ∷ (a.resource.now ∷ [])))))
