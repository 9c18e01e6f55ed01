use Rattle.std.proofs.Common.{List, IsTrue, ◌↔◌, subst}
use Rattle.iam_glob.specs.Code.Walk.{char_in, Later, Walks}
use Rattle.iam_glob.specs.declared.sign.Sign.{Sign}
use Rattle.iam_glob.proofs.signs.Signs.matches_end.Goals as goal

pub returns-in-Wild : goal.returns-in-Wild
returns-in-Wild c =
    let P : List Sign → Type 0 = λ s. IsTrue c.match_end.result ↔ Later (Walks (char_in c.args.case) s) c.args.text.now in
    rw c.in-Wild.is (subst P c.of_bytes.ensures c.match_end.ensures)

pub returns-in-Plain : goal.returns-in-Plain
returns-in-Plain c =
    let P : List Sign → Type 0 = λ s. IsTrue c.match_end-in-Plain.result ↔ Later (Walks (char_in c.args.case) s) c.args.text.now in
    rw c.in-Plain.is (subst P c.of_bytes-in-Plain.ensures c.match_end-in-Plain.ensures)

pub returns-in-Listed : goal.returns-in-Listed
returns-in-Listed c =
    let P : List Sign → Type 0 = λ s. IsTrue c.match_end-in-Listed.result ↔ Later (Walks (char_in c.args.case) s) c.args.text.now in
    rw c.in-Listed.is (subst P c.listed.ensures c.match_end-in-Listed.ensures)
