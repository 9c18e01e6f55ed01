-- The entries of a part, by how the code keeps them.
use Rattle.std.specs.Prelude.{ℕ, List, [], ◌∷◌, codes}
use Rattle.iam_context.specs.declared.values.HeldValues.{HeldValues}
use Rattle.iam_context.specs.declared.values.HeldValues.TheVariants.{One, Many}
use Rattle.iam_context.specs.declared.values.Written.{Written}
use Rattle.iam_context.specs.declared.values.Written.TheVariants.{Derived, Given}
use Rattle.iam_context.specs.declared.values.DerivedKey.{DerivedKey}
use Rattle.iam_context.specs.declared.values.DerivedKey.TheVariants.{PrincipalArn, Username, PrincipalType, PrincipalAccount}
use Rattle.iam_context.specs.declared.values.DerivedKey.TheVariants.{ResourceAccount, CurrentTime, EpochTime}

abbrev pub derived_name : DerivedKey → List ℕ
derived_name PrincipalArn = codes "aws:PrincipalArn"
derived_name Username = codes "aws:username"
derived_name PrincipalType = codes "aws:PrincipalType"
derived_name PrincipalAccount = codes "aws:PrincipalAccount"
derived_name ResourceAccount = codes "aws:ResourceAccount"
derived_name CurrentTime = codes "aws:CurrentTime"
derived_name EpochTime = codes "aws:EpochTime"

abbrev pub written_name : Written → List ℕ
written_name (Derived key) = derived_name key
written_name (Given name) = name

abbrev pub held_values : HeldValues → List (List ℕ)
held_values (One value) = value ∷ []
held_values (Many values) = values.items
