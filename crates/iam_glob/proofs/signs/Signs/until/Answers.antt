use Rattle.std.proofs.Common.{sym, ◌∙◌}
use Rattle.std.proofs.lemmas.List.{take-map}
use Rattle.iam_glob.specs.Glob.{plain_sign, wild_sign}
use Rattle.iam_glob.proofs.signs.Signs.until.Goals as goal

pub returns-in-Wild : goal.returns-in-Wild
returns-in-Wild c = rw c.in-Wild.is (c.of_bytes.ensures ∙ sym (take-map wild_sign c.args.i c.in-Wild.text.now))

pub returns-in-Plain : goal.returns-in-Plain
returns-in-Plain c = rw c.in-Plain.is (c.of_bytes-in-Plain.ensures ∙ sym (take-map plain_sign c.args.i c.in-Plain.text.now))
