-- The faults of a view, stage by stage: where no fault has the next number, none has a lesser one than that behind it.
use Rattle.std.proofs.Common.{ℕ, List, sym, subst, arith, IsTrue}
use Rattle.std.specs.List.{AllByRecursion, AllZip}
use Rattle.iam_context.specs.Requester.{RequesterValue}
use Rattle.iam_world.specs.Code.ViewFault.{IsClearBelow, IsFirstViewFault}
use Rattle.iam_world.specs.Code.Documents.{IsNotAccepted, IsRefusedAmong}
use Rattle.iam_shape.specs.View.{ResourceViewValue, WorldViewValue}
use Rattle.iam_shape.specs.First.{with_paths}
use Rattle.iam_world_context.specs.Contexts.{Beside, IsFaulty, parts}
use Rattle.iam_world.specs.WorldFault.{IsNoRequester, IsRequesterAt, IsOfUnknownAccount, IsOverLimits, ViewHasFault, documents, is_action, is_resource, owners}
use Rattle.iam_shape.specs.declared.path.Name.TheVariants.{Principals, Actions, Resources}
use Rattle.iam_shape.specs.declared.path.Path.{Path}
use Rattle.iam_shape.specs.declared.path.Path.TheVariants.{Item}
use Rattle.iam_world.specs.declared.fault.WorldFault.{WorldFault}
use Rattle.iam_world.specs.declared.fault.WorldFault.TheVariants.{NotJson, BadShape, BadRequester, BadAction, BadResourceArn, UnknownAccount, Context, Policy, TooLarge, OutOfMemory}
use Rattle.iam_world.proofs.Firsts.{none_at, none_first, none_with_paths}

-- the text is no action
abbrev IsNoAction : List ℕ → Type 0
IsNoAction text = ¬ IsTrue (is_action text)

-- the resource is neither `*` nor an ARN
abbrev HasNoResourceArn : ResourceViewValue → Type 0
HasNoResourceArn resource = ¬ IsTrue (is_resource resource.arn)

pub clear_3 : (world : WorldViewValue) → IsClearBelow 3 world
clear_3 world NotJson has = absurd has
clear_3 world (BadShape path) has = absurd has
clear_3 world OutOfMemory has = absurd has
clear_3 world fault has = omega arith

pub clear_4 : (world : WorldViewValue) (requesters : List RequesterValue) → AllZip IsRequesterAt world.principals requesters → IsClearBelow 4 world
clear_4 world requesters are (BadRequester path) has =
    absurd (none_at IsNoRequester (with_paths (Item Principals) 0 world.principals) path
    (none_with_paths IsRequesterAt IsNoRequester (λ p r is none. none r is) (Item Principals) 0 world.principals requesters are) has)
clear_4 world requesters are fault has = let before = clear_3 world fault has in omega arith

pub clear_5 : (world : WorldViewValue) → IsClearBelow 4 world → AllByRecursion (λ x. ¬ IsNoAction x.1) (with_paths (Item Actions) 0 world.actions) → IsClearBelow 5 world
clear_5 world clear none (BadAction path) has = absurd (none_at IsNoAction (with_paths (Item Actions) 0 world.actions) path none has)
clear_5 world clear none fault has = let before = clear fault has in omega arith

pub clear_6 : (world : WorldViewValue) → IsClearBelow 5 world → AllByRecursion (λ x. ¬ HasNoResourceArn x.1) (with_paths (Item Resources) 0 world.resources) → IsClearBelow 6 world
clear_6 world clear none (BadResourceArn path) has = absurd (none_at HasNoResourceArn (with_paths (Item Resources) 0 world.resources) path none has)
clear_6 world clear none fault has = let before = clear fault has in omega arith

pub clear_7 : (world : WorldViewValue) → IsClearBelow 6 world → AllByRecursion (λ x. ¬ IsOfUnknownAccount world x.1) (owners world) → IsClearBelow 7 world
clear_7 world clear none (UnknownAccount path) has = absurd (none_at (IsOfUnknownAccount world) (owners world) path none has)
clear_7 world clear none fault has = let before = clear fault has in omega arith

pub clear_8 : (world : WorldViewValue) → IsClearBelow 7 world → AllByRecursion (λ (p : Path × Beside). ¬ IsFaulty p.1) (parts world) → IsClearBelow 8 world
clear_8 world clear none (Context path fault) has = absurd (none_first (λ (p : Path × Beside). IsFaulty p.1) (parts world) (path, has.0) none has.1)
clear_8 world clear none fault has = let before = clear fault has in omega arith

pub clear_9 : (world : WorldViewValue) → IsClearBelow 8 world → AllByRecursion (λ d. ¬ IsNotAccepted d) (documents world) → IsClearBelow 9 world
clear_9 world clear none (Policy path refused) has = absurd (none_first IsNotAccepted (documents world) has.0 none has.1)
clear_9 world clear none fault has = let before = clear fault has in omega arith

-- and at the end there is no fault
pub clear_all : (world : WorldViewValue) → IsClearBelow 9 world → (¬ IsOverLimits world) → (fault : WorldFault) → ¬ ViewHasFault world fault
clear_all world clear within TooLarge has = within has
clear_all world clear within OutOfMemory has = has
clear_all world clear within fault has = let before = clear fault has in absurd (omega arith)

-- the first refused document is the first fault where no lesser number has one
pub first_refused : (world : WorldViewValue) (fault : WorldFault) → IsClearBelow 8 world → IsRefusedAmong (documents world) fault → IsFirstViewFault world fault
first_refused world fault clear (path, refused, is, first) =
    subst (IsFirstViewFault world) (sym is) (record { holds = first; least = clear })
