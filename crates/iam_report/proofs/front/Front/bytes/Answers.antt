use Rattle.std.proofs.Common.{◌≡◌, ◌++◌, ◌∙◌, ap, arith, drop, length, subst, sym, take}
use Rattle.std.proofs.lemmas.List.{length-drop, take_all}
use Rattle.iam_report.specs.Code.Front.{FrontValue}
use Rattle.iam_report.proofs.Fronts.{whole_len, whole_text}
use Rattle.iam_report.proofs.front.Front.bytes.Goals as goal

pub returns-clause-text : goal.returns-clause-text
returns-clause-text c =
    let front = c.self.inside in
    let P : FrontValue → Type 0 = λ v.
    take (length (v.before ++ (v.number ++ v.behind))) (take 1004 (drop 20 front.bytes)) ≡ v.before ++ (v.number ++ v.behind) in
    subst P c.self.view_is
    (ap (take _) (take_all 1004 (drop 20 front.bytes) (omega (arith, length-drop 20 front.bytes, c.self.told)))
    ∙ ap (λ n. take n (drop 20 front.bytes)) (sym (whole_len front.bytes front.start front.stop front.end c.self.told c.self.invariant))
    ∙ whole_text front.bytes front.start front.stop front.end c.self.invariant)
