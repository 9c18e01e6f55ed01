use Rattle.std.proofs.Common.{◌∙◌, sym}
use Rattle.std.specs.Str.{bytes_eq}
use Rattle.iam_json.proofs.Lists.{list_any_map}
use Rattle.iam_json.proofs.look.is_one_of.Goals as goal

pub returns : goal.returns
returns c = c.any_is.ensures ∙ sym (list_any_map (bytes_eq c.args.name.now) (λ n. n.now) c.args.names.now)
