use Rattle.std.proofs.Common.{refl}
use Rattle.iam_text.specs.declared.version.Version.TheVariants.{V2008}
use Rattle.iam_text.proofs.KeptLemmas.{kept, kept_literal}
use Rattle.iam_text.proofs.draft.Draft.literal.Goals as goal

pub invariant_of-result : goal.invariant_of-result
invariant_of-result c = (kept V2008 c.args.wild c.in_ok-read.field-0 _ refl, tt)

pub returns : goal.returns
returns c = rw (← c.in_ok-read.ensures) (search (kept_literal V2008 c.args.wild c.in_ok-read.field-0 refl))
