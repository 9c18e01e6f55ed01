use Rattle.std.proofs.Common.{◌∙◌, Bor, List, ℕ, ap}
use Rattle.std.specs.List.{list_any}
use Rattle.iam_context.specs.Context.{is_same_key}
use Rattle.iam_unasked.proofs.names.Names.has.Goals as goal

pub returns : goal.returns
returns c = λ list has.
    c.is_one_of.ensures ∙ ap (list_any (λ (name : Bor (List ℕ)). is_same_key name.now c.args.key.now)) c.as_slice.ensures.value ∙ has c.args.key.now
