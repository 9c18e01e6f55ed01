-- The keys that follow from requester, resource and moment, and the context of a request: AWS IAM User Guide, "AWS
-- global condition context keys". LOGIC 9.2.
use Rattle.std.specs.Prelude.{◌≡◌, ℕ, List, [], ◌∷◌, ◌++◌, Option, codes, decimal, pos}
use Rattle.std.specs.Option.{option_map_or}
use Rattle.iam_context.specs.Context.{ContextValue, joined}
use Rattle.iam_match.specs.Requester.{RequesterValue, requester_arn, username_of}
use Rattle.iam_value.specs.Moment.{IsStamp}
use Rattle.iam_world.specs.World.{WorldValue, PrincipalValue, ResourceValue}

-- a key with one value
abbrev pub key : List ℕ → List ℕ → ContextValue
key name value = (name, value ∷ []) ∷ []

-- the user name, which a session of a role has not
abbrev pub username_key : Option (List ℕ) → ContextValue
username_key username = option_map_or (λ name. key (codes "aws:username") name) username []

-- what a requester is, by its user name
abbrev pub word_of : Option (List ℕ) → List ℕ
word_of username = option_map_or (λ name. codes "User") username (codes "AssumedRole")

-- the keys of a requester
abbrev pub requester_keys : RequesterValue → ContextValue
requester_keys r =
    key (codes "aws:PrincipalArn") (requester_arn r)
    ++ (username_key (username_of r)
    ++ (key (codes "aws:PrincipalType") (word_of (username_of r)) ++ key (codes "aws:PrincipalAccount") r.account))

-- those of a moment, which is written so
abbrev pub moment_keys : ℕ → List ℕ → ContextValue
moment_keys moment stamp = key (codes "aws:CurrentTime") stamp ++ key (codes "aws:EpochTime") (decimal moment)

-- the keys of a requester, of a resource of this account, and of this moment, which is written so
abbrev pub derived_of : RequesterValue → List ℕ → ℕ → List ℕ → ContextValue
derived_of r account moment stamp =
    requester_keys r ++ (key (codes "aws:ResourceAccount") account ++ moment_keys moment stamp)

-- these are the derived keys where this principal asks for this resource
abbrev pub IsDerived : WorldValue → PrincipalValue → ResourceValue → ContextValue → Type 0
IsDerived world principal resource derived =
    (stamp : List ℕ) × IsStamp (pos world.moment) stamp
    × (derived ≡ derived_of principal.requester resource.account world.moment stamp)

-- the context of a request: the keys that the world, the principal and the resource give, and the derived ones
abbrev pub context_of : WorldValue → PrincipalValue → ResourceValue → ContextValue → ContextValue
context_of world principal resource derived =
    joined (world.context ∷ (principal.context ∷ (resource.context ∷ []))) derived
