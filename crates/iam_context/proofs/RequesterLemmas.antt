-- Users and sessions by the parts of their ARN.
use Rattle.std.proofs.Common.{◌≡◌, ℕ, List, ◌++◌, Option, Some, None, Result, Ok, Err, OnErr, refl, ap, ◌∙◌, sym, subst, codes, IfSome, IsTrue, string_bytes}
use Rattle.std.proofs.lemmas.List.{append_cancel_left}
use Rattle.std.specs.Option.{option_map_or}
use Rattle.iam_text.specs.Arn.{IsArn}
use Rattle.iam_context.specs.declared.arn.Parts.{Parts}
use Rattle.iam_context.specs.declared.requester.Session.{Session}
use Rattle.iam_context.specs.Requester.{RequesterValue, IsRequesterOf, is_segment, requester_name, role_arn, session_arn, user_arn}
use Rattle.iam_context.specs.Code.ArnParts.{HasParts, requester_of}
use Rattle.iam_context.specs.Code.Session.{IsHeld, session_name}
use Rattle.iam_context.proofs.ArnLemmas.{parts_of, parts_is_arn}

-- the word before the path
abbrev pub word_of : Option (List ℕ) → List ℕ
word_of None = codes "user/"
word_of (Some session) = codes "role/"

pub requester_parts : (arn : List ℕ) (session : Option (List ℕ)) (r : RequesterValue) → IsRequesterOf arn session r → HasParts arn (word_of session) r
requester_parts arn None r is = record {
  partition = is.partition;
  account = is.account;
  path = is.path;
  arn_is = is.arn_is ∙ ap (λ s. option_map_or (λ name. role_arn r) s (user_arn r)) is.session_is;
}
requester_parts arn (Some session) r is = record {
  partition = is.partition;
  account = is.account;
  path = is.path;
  arn_is = is.arn_is ∙ ap (λ s. option_map_or (λ name. role_arn r) s (user_arn r)) is.session_is;
}

pub user_from_parts : (arn : List ℕ) (parts : Parts) → HasParts arn (codes "user/") (requester_of parts None)
    → IsRequesterOf arn None (requester_of parts None)
user_from_parts arn parts p = record {
  partition = p.partition;
  account = p.account;
  path = p.path;
  session_is = refl;
  segment = tt;
  arn_is = p.arn_is;
}

pub session_from_parts : (arn session : List ℕ) (parts : Parts) → HasParts arn (codes "role/") (requester_of parts None)
    → IsTrue (is_segment session) → IsRequesterOf arn (Some session) (requester_of parts (Some session))
session_from_parts arn session parts p named = record {
  partition = p.partition;
  account = p.account;
  path = p.path;
  session_is = refl;
  segment = named;
  arn_is = p.arn_is;
}

-- one list of parts makes one requester
pub one_of_parts : ((parts other : List (List ℕ)) (text : List ℕ) → IsArn parts text → IsArn other text → parts ≡ other) → (arn : List ℕ)
    (session : Option (List ℕ)) (r other : RequesterValue) → IsRequesterOf arn session r → IsRequesterOf arn session other → r ≡ other
one_of_parts one arn session r other is is' =
    let word = word_of session in
    let same : parts_of word r ≡ parts_of word other =
    one (parts_of word r) (parts_of word other) arn (parts_is_arn arn word r (requester_parts arn session r is))
    (parts_is_arn arn word other (requester_parts arn session other is')) in
    let partition_is : r.partition ≡ other.partition = cc in
    let account_is : r.account ≡ other.account = cc in
    let resource_is : word ++ r.path ≡ word ++ other.path = cc in
    let path_is : r.path ≡ other.path = append_cancel_left word r.path other.path resource_is in
    let session_is : r.session ≡ other.session = is.session_is ∙ sym is'.session_is in
    λ i. record { partition = partition_is i; account = account_is i; path = path_is i; session = session_is i }

-- what a requester holds is what it was made of
pub held : (arn arn' partition account path : List ℕ) (parts : Parts) (session : Option Session) → arn' ≡ arn → partition ≡ parts.partition.now
    → account ≡ parts.account.now → path ≡ parts.path.now → IsRequesterOf arn (session_name session) (requester_of parts (session_name session))
    → IfSome session (λ s. string_bytes s.arn ≡ session_arn (requester_of parts None) (string_bytes s.name))
    → IsHeld arn' session (record { partition = partition; account = account; path = path; session = session_name session })
held arn arn' partition account path parts session arn_is partition_is account_is path_is is named =
    let same : record { partition = partition; account = account; path = path; session = session_name session } ≡ requester_of parts (session_name session) =
    λ i. record { partition = partition_is i; account = account_is i; path = path_is i; session = session_name session } in
    let P : RequesterValue → Type 0 = λ r. IsHeld arn' session r in
    let Q : List ℕ → Type 0 = λ a. IsRequesterOf a (session_name session) (requester_of parts (session_name session)) in
    subst P (sym same) (subst Q (sym arn_is) is, go session named)
  where
    go : (session : Option Session) → IfSome session (λ s. string_bytes s.arn ≡ session_arn (requester_of parts None) (string_bytes s.name))
        → IfSome session (λ s. string_bytes s.arn ≡ requester_name (requester_of parts (session_name session)))
    go None named = tt
    go (Some s) named = named

pub on_error : {X Y : Type 0} {P : Type 0} (r : Result X Y) → P → OnErr r P
on_error (Ok x) p = tt
on_error (Err e) p = p
