use Rattle.std.proofs.Common.{sym, ◌∙◌, ap, map}
use Rattle.std.proofs.lemmas.List.{drop-map, take_rest}
use Rattle.iam_glob.specs.Glob.{plain_sign, wild_sign}
use Rattle.iam_glob.proofs.signs.Signs.from.Goals as goal

pub returns-in-Wild : goal.returns-in-Wild
returns-in-Wild c =
    let text = c.in-Wild.text.now in
    rw c.in-Wild.is (c.of_bytes.ensures ∙ ap (λ t. map wild_sign t) (take_rest text c.args.i) ∙ sym (drop-map wild_sign c.args.i text))

pub returns-in-Plain : goal.returns-in-Plain
returns-in-Plain c =
    let text = c.in-Plain.text.now in
    rw c.in-Plain.is (c.of_bytes-in-Plain.ensures ∙ ap (λ t. map plain_sign t) (take_rest text c.args.i) ∙ sym (drop-map plain_sign c.args.i text))
