use Rattle.iam_glob.specs.Signs.{signs_in}
use Rattle.iam_glob.proofs.CompiledLemmas.{ascii_front, cut_signs}
use Rattle.iam_glob.proofs.compiled.way_of_wild.Goals as goal

pub returns-in-Some : goal.returns-in-Some
returns-in-Some c =
    let front = c.cut_wildcard.result.0.now in
    let rest = c.cut_wildcard.result.1.now in record {
      same = cut_signs c.args.text.now front rest (signs_in c.of_bytes.result) c.cut_wildcard.ensures.joined c.cut_wildcard.ensures.given c.of_bytes.ensures;
      ascii = ascii_front front rest c.args.text.now c.cut_wildcard.ensures.joined c.requires;
    }
