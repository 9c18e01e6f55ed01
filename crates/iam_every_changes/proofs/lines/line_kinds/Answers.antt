use Rattle.std.proofs.Common.{◌≡◌, ◌∷◌, [], ◌++◌, ◌∙◌, List, arith, ap, get_or, length, map, subst, sym, take}
use Rattle.std.proofs.lemmas.List.{length-map, length-take-le, map-append, take-map}
use Rattle.std.proofs.lemmas.Result.{IfOk-weaker}
use Rattle.iam_glob.specs.Signs.{signs_in}
use Rattle.iam_glob.specs.declared.sign.Sign.{Sign}
use Rattle.iam_kinds.specs.Answers.{IsAnswer}
use Rattle.iam_kinds.specs.Kinds.{Question}
use Rattle.iam_kinds.specs.declared.kinds.Kinds.{Kinds}
use Rattle.iam_asked.specs.Texts.{resource_texts}
use Rattle.iam_every.specs.Every.{LineValue, arn_signs, line_of, line_question, patterns_of}
use Rattle.iam_every.specs.Groups.{groups_of, signs_of}
use Rattle.iam_every.specs.Names.{text_question}
use Rattle.iam_every.specs.OwnGroups.{AreFirsts}
use Rattle.iam_every.proofs.LineLemmas.{line_read, line_there}
use Rattle.iam_every_changes.specs.Changes.{AreBothGroups, AreStateGroups}
use Rattle.iam_every_changes.specs.Code.Scenes.{AreKindsOf}
use Rattle.iam_every_changes.specs.States.{both_of, joint}
use Rattle.iam_every_changes.proofs.CodeLemmas.{before_line, now_there, scenes_at, was_there}
use Rattle.iam_every_changes.proofs.lines.line_kinds.Goals as goal

pub groups_in-requires-clause-there : goal.groups_in-requires-clause-there
groups_in-requires-clause-there c = was_there c.args.given c.args.k c.index-both-k.result c.requires.given c.requires.line

pub groups_in-requires-clause-scene : goal.groups_in-requires-clause-scene
groups_in-requires-clause-scene c =
    (scenes_at c.args.given c.args.k c.index-both-k.result c.index-both-k-2.result c.args.scenes.now c.requires.given c.requires.line c.requires.scenes).before

pub groups_in-requires-2-clause-there : goal.groups_in-requires-2-clause-there
groups_in-requires-2-clause-there c = now_there c.args.given c.args.k c.index-both-k-2.result c.requires.given c.requires.line

pub groups_in-requires-2-clause-scene : goal.groups_in-requires-2-clause-scene
groups_in-requires-2-clause-scene c =
    (scenes_at c.args.given c.args.k c.index-both-k.result c.index-both-k-2.result c.args.scenes.now c.requires.given c.requires.line c.requires.scenes).after

pub slice_bounds-text_kinds-end : goal.slice_bounds-text_kinds-end
slice_bounds-text_kinds-end c =
    let given = c.args.given in
    let lines = given.both.after.asked.lines.now in
    let long : length given.patterns.now ≡ length lines =
    sym (length-map given.patterns.now signs_in) ∙ ap (λ (l : List (List Sign)). length l) c.requires.given.patterns
    ∙ length-map (map line_of lines) (λ (x : LineValue). x.pattern) ∙ length-map lines line_of in
    let below = c.requires.line in
    sym (length-take-le c.args.k given.patterns.now (omega (arith, below, long)))

pub returns-clause-kinds : goal.returns-clause-kinds
returns-clause-kinds c =
    let given = c.args.given in
    let both = both_of given.both in
    let k = c.args.k in
    let action = c.args.action.now in
    let old = get_or given.both.before.asked.lines.now k c.index-both-k.result in
    let new = get_or given.both.after.asked.lines.now k c.index-both-k-2.result in
    let groups = groups_of c.in_ok-groups.groups.items in
    let was = groups_of c.in_ok-all.all.items in
    let now = groups_of c.in_ok-more.more.items in
    let names = resource_texts (joint both).world in
    let own_was : AreStateGroups both.before k action was =
    (line_of old, line_read given.both.before.asked.lines.now k c.index-both-k.result (before_line given k c.requires.given c.requires.line), c.in_ok-all.ensures) in
    let own_now : AreStateGroups both.after k action now =
    (line_of new, line_read given.both.after.asked.lines.now k c.index-both-k-2.result c.requires.line, c.in_ok-more.ensures) in
    let firsts : AreFirsts [] (was ++ now) groups =
    subst (λ (l : List (List (List Sign))). AreFirsts [] l groups)
    (ap groups_of c.in_ok-append.ensures.items ∙ map-append (λ g. map signs_of g.items) c.in_ok-all.all.items c.in_ok-more.more.items) c.in_ok-groups.ensures in
    let own : AreBothGroups both k action groups = (was, now, own_was, own_now, firsts) in
    let ask = λ (gs : List (List (List Sign))) (pattern arn : List Sign) (before : List (List Sign)).
    text_question gs pattern (arn ∷ []) before names in
    let before : map signs_in (take k given.patterns.now) ≡ patterns_of (take k both.after.every.lines) =
    sym (take-map signs_in k given.patterns.now) ∙ ap (take k) c.requires.given.patterns
    ∙ take-map (λ (x : LineValue). x.pattern) k both.after.every.lines in
    let question : (line : LineValue) → line_of new ≡ line
    → ask (groups_of c.as_slice.result.now) (signs_in c.signs.result) (signs_in given.arn) (map signs_in (take k given.patterns.now))
    ≡ line_question (joint both) k line groups = λ line same.
    ap (λ gs. ask (groups_of gs) (signs_in c.signs.result) (signs_in given.arn) (map signs_in (take k given.patterns.now))) c.as_slice.ensures.value
    ∙ ap (λ (x : List Sign). ask groups x (signs_in given.arn) (map signs_in (take k given.patterns.now))) (c.signs.ensures ∙ ap (λ (x : LineValue). x.pattern) same)
    ∙ ap (λ (x : List Sign). ask groups line.pattern x (map signs_in (take k given.patterns.now))) c.requires.given.arn
    ∙ ap (λ (x : List (List Sign)). ask groups line.pattern arn_signs x) before in
    IfOk-weaker c.text_kinds.result _ (AreKindsOf both action k)
    (λ (kinds : Kinds) answers line at.
    let same = line_there given.both.after.asked.lines.now k c.index-both-k-2.result line at in
    (groups, own, subst (λ (q : Question). IsAnswer q kinds) (question line same) (answers names (sym c.requires.walks.names))))
    c.text_kinds.ensures.answer
