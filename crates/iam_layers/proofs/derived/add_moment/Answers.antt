use Rattle.std.proofs.Common.{◌∙◌, ◌++◌, codes, ap}
use Rattle.std.proofs.lemmas.List.{append_assoc}
use Rattle.std.proofs.lemmas.Result.{on_ok_weaker}
use Rattle.iam_layers.specs.Derived.{key}
use Rattle.iam_layers.proofs.derived.add_moment.Goals as goal

pub returns : goal.returns
returns c =
    let epoch = key (codes "aws:EpochTime") c.as_str.result.now in
    on_ok_weaker c.add-2.result
    (λ e.
    e ∙ ap (λ ks. ks ++ epoch) c.in_ok-add.ensures ∙ append_assoc c.args.keys.now.items (key (codes "aws:CurrentTime") c.args.stamp.now) epoch
    ∙ ap (λ text. c.args.keys.now.items ++ (key (codes "aws:CurrentTime") c.args.stamp.now ++ key (codes "aws:EpochTime") text)) (c.as_str.ensures.value ∙ c.in_ok-seconds.ensures.ok))
    c.add-2.ensures
