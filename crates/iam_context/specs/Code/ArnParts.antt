-- How the code reads the ARN of a user or of a role, beside the definition that it meets (`Requester`).
use Rattle.std.specs.Prelude.{◌≡◌, ℕ, List, [], ◌∷◌, ◌++◌, Bool, true, false, ◌&&◌, ◌==◌, length, codes, if◌then◌else◌, IsTrue, Option}
use Rattle.std.specs.Str.{bytes_eq}
use Rattle.iam_text.specs.Characters.{is_account, is_label}
use Rattle.iam_context.specs.declared.arn.Parts.{Parts}
use Rattle.iam_context.specs.Requester.{RequesterValue, IsPath, iam_arn, is_segment_character}

-- what is left is the rest of a path, where `begun` says whether its first segment has a character already
abbrev pub path_from : Bool → List ℕ → Bool
path_from begun [] = begun
path_from begun (c ∷ text) =
    if c == 47 then begun && path_from false text else is_segment_character c && path_from true text

-- the parts of an ARN but the last are those of a user's or a role's
abbrev pub is_of_account : List ℕ → List ℕ → List ℕ → List ℕ → List ℕ → Bool
is_of_account prefix partition service region account =
    bytes_eq prefix (codes "arn") && bytes_eq service (codes "iam") && (length region == 0) && is_label partition
    && is_account account

-- the ARN has the requester's partition, account and path, and the word, as `user/`, before the path
pub record HasParts (arn word : List ℕ) (r : RequesterValue) : Type 0 where
  pub partition : IsTrue (is_label r.partition)
  pub account : IsTrue (is_account r.account)
  pub path : IsPath r.path
  pub arn_is : arn ≡ iam_arn r (word ++ r.path)

-- the requester of these parts
abbrev pub requester_of : Parts → Option (List ℕ) → RequesterValue
requester_of parts session = record {
  partition = parts.partition.now;
  account = parts.account.now;
  path = parts.path.now;
  session = session;
}
