use Rattle.std.proofs.Common.{All, subst}
use Rattle.std.specs.Str.{IsUtf8}
use Rattle.iam_every_changes.proofs.own.own_texts.Goals as goal

pub returns-clause-utf8 : goal.returns-clause-utf8
returns-clause-utf8 c = record {
  before = subst (All IsUtf8) c.in_ok-more.ensures.are c.in_ok-more.ensures.utf8;
  after = subst (All IsUtf8) c.in_ok-texts.ensures.are c.in_ok-texts.ensures.utf8;
}
