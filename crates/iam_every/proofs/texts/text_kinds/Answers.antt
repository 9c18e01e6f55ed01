use Rattle.std.proofs.Common.{◌≡◌, ◌++◌, ◌∷◌, [], List, map, ap, sym, subst, ◌∙◌}
use Rattle.std.proofs.lemmas.Result.{IfOk-weaker}
use Rattle.std.specs.Global.{Vec}
use Rattle.iam_glob.specs.Signs.{signs_in}
use Rattle.iam_glob.specs.declared.sign.Sign.{Sign}
use Rattle.iam_glob.specs.declared.signs.Signs.{Signs}
use Rattle.iam_kinds.specs.Answers.{IsAnswer}
use Rattle.iam_kinds.specs.Kept.{names_of}
use Rattle.iam_kinds.specs.Kinds.{Question}
use Rattle.iam_kinds.specs.declared.grammar.Grammar.TheVariants.{AnyText}
use Rattle.iam_every.specs.Groups.{groups_of}
use Rattle.iam_every.specs.Names.{text_question}
use Rattle.iam_every.specs.Telling.{telling}
use Rattle.iam_every.proofs.TellingLemmas.{telling_both}
use Rattle.iam_every.proofs.texts.text_kinds.Goals as goal

pub returns-clause-answer : goal.returns-clause-answer
returns-clause-answer c =
    let line = signs_in c.args.line in
    let groups = groups_of c.args.groups.now in
    let apart = map (λ pattern. pattern ∷ []) (map signs_in c.args.apart.now) in
    let signs : List (Vec Signs) → List (List (List Sign)) = λ lent. map (λ g. map signs_in g.items) lent in
    let lent : signs c.as_slice.result.now ≡ telling line (groups ++ apart) =
    ap signs c.as_slice.ensures.value ∙ c.in_ok-add_alone.ensures ∙ ap (λ gs. gs ++ telling line apart) c.in_ok-add_groups.ensures
    ∙ ap (λ lent. (signs lent ++ telling line groups) ++ telling line apart) c.in_ok-lent.ensures.items ∙ sym (telling_both line groups apart) in
    IfOk-weaker c.find.result _ _
    (λ kinds told named same.
    subst (λ (q : Question). IsAnswer q kinds)
    (ap (λ (gs : List (List (List Sign))). record {
      grammar = AnyText;
      within = line ∷ (signs_in c.args.arn ∷ []);
      groups = gs;
      named = names_of c.args.walks.now;
    }) lent
    ∙ ap (λ named. record (text_question groups line (signs_in c.args.arn ∷ []) (map signs_in c.args.apart.now) []) { named = named }) (sym same))
    told)
    c.find.ensures.answer
