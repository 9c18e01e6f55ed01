-- Requesters and their ARNs: AWS IAM User Guide, "IAM identifiers" and "AWS JSON policy elements: Principal".
-- A text is the list of its bytes. LOGIC 5.1.
use Rattle.std.specs.Prelude.{◌≡◌, ℕ, ◌<◌, List, ◌++◌, Bool, ◌&&◌, ◌||◌, not, ◌==◌, nat_le, length, Option, Some, None, IfSome, IsTrue, codes}
use Rattle.std.specs.List.{AllByRecursion, after_last, join_with_byte}
use Rattle.std.specs.Option.{option_map_or}
use Rattle.iam_text.specs.Characters.{is_account, is_label, is_run}

-- a requester: a user, or a session of a role. The path is what stands behind `user/` or `role/` in the ARN
pub record RequesterValue : Type 0 where
  pub partition : List ℕ
  pub account : List ℕ
  pub path : List ℕ
  pub session : Option (List ℕ)

-- a visible ASCII character other than `*`, `/` and `?`
abbrev pub is_segment_character : ℕ → Bool
is_segment_character c = nat_le 33 c && nat_le c 126 && not (c == 42 || c == 47 || c == 63)

-- a segment of a path, or the name of a session: one or more such characters
abbrev pub is_segment : List ℕ → Bool
is_segment text = is_run is_segment_character text

-- one or more segments joined by `/`
abbrev pub IsPath : List ℕ → Type 0
IsPath text =
    (segments : List (List ℕ)) × (0 < length segments) × AllByRecursion (λ s. IsTrue (is_segment s)) segments
    × (join_with_byte 47 segments ≡ text)

-- what stands behind the last `/` of a path, or the path where there is none
abbrev pub last_segment : List ℕ → List ℕ
last_segment path = after_last (λ c. c == 47) path

-- `arn:PARTITION:iam::ACCOUNT:RESOURCE`
abbrev pub iam_arn : RequesterValue → List ℕ → List ℕ
iam_arn r resource = codes "arn:" ++ (r.partition ++ (codes ":iam::" ++ (r.account ++ (codes ":" ++ resource))))

-- the ARN of the root of the requester's account
abbrev pub root_arn : RequesterValue → List ℕ
root_arn r = iam_arn r (codes "root")

-- the ARN of a user
abbrev pub user_arn : RequesterValue → List ℕ
user_arn r = iam_arn r (codes "user/" ++ r.path)

-- the ARN of the role of a session
abbrev pub role_arn : RequesterValue → List ℕ
role_arn r = iam_arn r (codes "role/" ++ r.path)

-- the ARN of a session, `arn:PARTITION:sts::ACCOUNT:assumed-role/ROLE/SESSION`, without the path of the role
abbrev pub session_arn : RequesterValue → List ℕ → List ℕ
session_arn r session =
    codes "arn:" ++ (r.partition ++ (codes ":sts::" ++ (r.account ++ (codes ":assumed-role/"
    ++ (last_segment r.path ++ (codes "/" ++ session))))))

-- the ARN of the user, or of the role that the session is of
abbrev pub requester_arn : RequesterValue → List ℕ
requester_arn r = option_map_or (λ session. role_arn r) r.session (user_arn r)

-- the ARN of the user, or of the session
abbrev pub requester_name : RequesterValue → List ℕ
requester_name r = option_map_or (session_arn r) r.session (user_arn r)

-- the name of the user, which a session has not
abbrev pub username_of : RequesterValue → Option (List ℕ)
username_of r = option_map_or (λ session. None) r.session (Some (last_segment r.path))

-- the texts, an ARN and maybe the name of a session, are those of this requester
pub record IsRequesterOf (arn : List ℕ) (session : Option (List ℕ)) (r : RequesterValue) : Type 0 where
  pub partition : IsTrue (is_label r.partition)
  pub account : IsTrue (is_account r.account)
  pub path : IsPath r.path
  pub session_is : r.session ≡ session
  pub segment : IfSome session (λ s. IsTrue (is_segment s))
  pub arn_is : arn ≡ requester_arn r
