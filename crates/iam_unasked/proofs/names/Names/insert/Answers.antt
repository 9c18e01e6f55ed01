use Rattle.std.proofs.Common.{◌∙◌, sym}
use Rattle.iam_unasked.proofs.NameLemmas.{key_again}
use Rattle.iam_unasked.proofs.names.Names.insert.Goals as goal

pub returns-then-has : goal.returns-then-has
returns-then-has c = λ list has key.
    has key ∙ key_again list c.args.key.now key (sym (c.has.ensures list has) ∙ c.if-has.true)
