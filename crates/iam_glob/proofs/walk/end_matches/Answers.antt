use Rattle.std.proofs.Common.{◌↔◌, List, ℕ, IsTrue, refl, sym, ◌∙◌, subst}
use Rattle.std.proofs.lemmas.Str.{chars-IsAscii}
use Rattle.iam_glob.specs.Code.Walk.{char_in, Later, Walks}
use Rattle.iam_glob.specs.Signs.{signs_in}
use Rattle.iam_glob.proofs.WalkLemmas.{later_all}
use Rattle.iam_glob.proofs.walk.end_matches.Goals as goal

pub returns-then-is_empty : goal.returns-then-is_empty
returns-then-is_empty c = (λ t. later_all _ _ _ (sym c.is_empty.ensures ∙ c.if-is_empty.true), λ w. refl)

pub returns-then-is_ascii : goal.returns-then-is_ascii
returns-then-is_ascii c =
    let P : List ℕ → Type 0 = λ t. IsTrue c.matches_end.result ↔ Later (Walks (char_in c.args.case) (signs_in c.args.signs)) t in
    subst P (c.as_bytes.ensures.value ∙ sym (chars-IsAscii c.args.text.now c.if-is_ascii.ensures.cases)) c.matches_end.ensures
