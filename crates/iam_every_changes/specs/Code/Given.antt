-- What is worked out once for all rows of a principal.
use Rattle.std.specs.Prelude.{◌≡◌, [], All, map}
use Rattle.std.specs.Str.{IsUtf8, chars}
use Rattle.iam_glob.specs.Signs.{signs_in}
use Rattle.iam_kinds.specs.Kept.{AreFound, names_of}
use Rattle.iam_kinds.specs.declared.walks.Walks.{Walks}
use Rattle.iam_asked.specs.Texts.{resource_texts}
use Rattle.iam_every.specs.Every.{arn_signs, patterns_of}
use Rattle.iam_every_changes.specs.Made.{AreTargets, TargetValue}
use Rattle.iam_every_changes.specs.States.{AreBoth, BothValue, both_of, joint}
use Rattle.iam_every_changes.specs.declared.given.Given.{Given}
use Rattle.iam_every_changes.specs.declared.own.Target.{Target}

abbrev pub target_of : Target → TargetValue
target_of target = record { text = target.text.now; was = target.was; now = target.now }

-- so are the texts of all resources
pub record AreUtf8 (both : BothValue) : Type 0 where
  pub before : All IsUtf8 (resource_texts both.before.every.world)
  pub after : All IsUtf8 (resource_texts both.after.every.world)

-- kinds are sought, and were found, beside the texts of all resources
pub record AreWalksIn (both : BothValue) (walks : Walks) : Type 0 where
  pub found : AreFound walks
  pub names : names_of walks ≡ map chars (resource_texts (joint both).world)

pub record IsGiven (given : Given) : Type 0 where
  pub both : AreBoth (both_of given.both)
  pub arn : signs_in given.arn ≡ arn_signs
  pub none : given.none.now.items ≡ []
  pub patterns : map signs_in given.patterns.now ≡ patterns_of (both_of given.both).after.every.lines
  pub targets : AreTargets (both_of given.both) (map target_of given.targets.now)
