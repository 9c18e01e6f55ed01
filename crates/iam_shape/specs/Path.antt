-- Where something stands in a world document, and how that is written: the member names and list numbers from the
-- root joined by `/`; the root itself is `.`. LOGIC 12.1.
use Rattle.std.specs.Prelude.{ℕ, List, ◌++◌, codes}
use Rattle.std.specs.Prelude.{decimal}
use Rattle.iam_shape.specs.declared.path.Name.{Name}
use Rattle.iam_shape.specs.declared.path.Name.TheVariants.{Moment, Accounts, Principals, Actions, Resources, Context, Id, Management, Org, User, Role, Session, Identity, Boundary, SessionPolicies, Arn, Account, Policy, Sealed, Control}
use Rattle.iam_shape.specs.declared.path.Path.{Path}
use Rattle.iam_shape.specs.declared.path.Path.TheVariants.{Root, Member, Item, Field, Entry, Leaf}

abbrev pub name_text : Name → List ℕ
name_text Moment = codes "moment"
name_text Accounts = codes "accounts"
name_text Principals = codes "principals"
name_text Actions = codes "actions"
name_text Resources = codes "resources"
name_text Context = codes "context"
name_text Id = codes "id"
name_text Management = codes "management"
name_text Org = codes "org"
name_text User = codes "user"
name_text Role = codes "role"
name_text Session = codes "session"
name_text Identity = codes "identity"
name_text Boundary = codes "boundary"
name_text SessionPolicies = codes "sessionPolicies"
name_text Arn = codes "arn"
name_text Account = codes "account"
name_text Policy = codes "policy"
name_text Sealed = codes "sealed"
name_text Control = codes "control"

abbrev pub path_text : Path → List ℕ
path_text Root = codes "."
path_text (Member name) = name_text name
path_text (Item list i) = name_text list ++ (codes "/" ++ decimal i)
path_text (Field list i name) = name_text list ++ (codes "/" ++ (decimal i ++ (codes "/" ++ name_text name)))
path_text (Entry list i name j) =
    name_text list ++ (codes "/" ++ (decimal i ++ (codes "/" ++ (name_text name ++ (codes "/" ++ decimal j)))))
path_text (Leaf list i name j k) =
    name_text list ++ (codes "/" ++ (decimal i ++ (codes "/" ++ (name_text name ++ (codes "/" ++ (decimal j
    ++ (codes "/" ++ decimal k)))))))
