-- What a requester holds beside what contracts see of it.
use Rattle.std.specs.Prelude.{◌≡◌, ℕ, List, Option, IfSome, option_map, string_bytes}
use Rattle.iam_context.specs.declared.requester.Session.{Session}
use Rattle.iam_context.specs.Requester.{RequesterValue, IsRequesterOf, requester_name}

-- the name of the session, if it is one
abbrev pub session_name : Option Session → Option (List ℕ)
session_name session = option_map (λ s. string_bytes s.name) session

-- the ARN is that of the user or of the role, and the session holds its own
abbrev pub IsHeld : List ℕ → Option Session → RequesterValue → Type 0
IsHeld arn session r =
    IsRequesterOf arn (session_name session) r × IfSome session (λ s. string_bytes s.arn ≡ requester_name r)
