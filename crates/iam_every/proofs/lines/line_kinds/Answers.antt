use Rattle.std.proofs.Common.{◌≡◌, ◌∷◌, [], ℕ, List, Some, arith, get_or, length, map, sym, ap, subst, take, ◌∙◌}
use Rattle.std.proofs.lemmas.List.{length-map, length-take-le, take-map}
use Rattle.std.proofs.lemmas.Result.{IfOk-weaker}
use Rattle.std.specs.List.{slice_get}
use Rattle.iam_glob.specs.Signs.{signs_in}
use Rattle.iam_glob.specs.declared.sign.Sign.{Sign}
use Rattle.iam_kinds.specs.Answers.{IsAnswer}
use Rattle.iam_kinds.specs.Kinds.{Question}
use Rattle.iam_kinds.specs.declared.kinds.Kinds.{Kinds}
use Rattle.iam_match.specs.Request.{access_of}
use Rattle.iam_decision.specs.Applicable.{ApplicableValue}
use Rattle.iam_decision.specs.Code.Scan.{placed_value}
use Rattle.iam_decision.specs.Matched.{Selects, placed}
use Rattle.iam_layers.specs.Unnamed.{IsUnnamedAccess}
use Rattle.iam_every.specs.Alike.{Concerns}
use Rattle.iam_every.specs.Code.Rows.{AreLineKinds}
use Rattle.iam_every.specs.Every.{LineValue, arn_signs, every_of, line_of, line_question, patterns_of}
use Rattle.iam_every.specs.Groups.{groups_of}
use Rattle.iam_every.specs.Names.{text_question}
use Rattle.iam_every.proofs.AtLemmas.{groups_at}
use Rattle.iam_every.proofs.LineLemmas.{line_there}
use Rattle.iam_every.proofs.OwnLemmas.{own_groups}
use Rattle.iam_every.proofs.lines.line_kinds.Goals as goal

pub slice_bounds-text_kinds-end : goal.slice_bounds-text_kinds-end
slice_bounds-text_kinds-end c =
    let given = c.args.given in
    let lines = map line_of given.asked.lines.now in
    let long : length given.patterns.now ≡ length lines =
    sym (length-map given.patterns.now signs_in) ∙ ap (λ (l : List (List Sign)). length l) c.requires.given.patterns
    ∙ length-map lines (λ (x : LineValue). x.pattern) in
    let all = length-map given.asked.lines.now line_of in
    let inside = c.requires.line in
    sym (length-take-le c.args.k given.patterns.now (omega (arith, inside, long, all)))

pub returns-clause-kinds : goal.returns-clause-kinds
returns-clause-kinds c =
    let given = c.args.given in
    let every = every_of given.asked in
    let world = every.world in
    let p = given.p in
    let k = c.args.k in
    let found = get_or given.asked.lines.now k c.index-given-k.result in
    let access = access_of c.args.access in
    let groups = groups_of c.in_ok-groups.groups.items in
    let arns = map (λ resource. resource.arn) world.resources in
    let ask = λ (gs : List (List (List Sign))) (pattern arn : List Sign) (before : List (List Sign)).
    text_question gs pattern (arn ∷ []) before arns in
    let before : map signs_in (take k given.patterns.now) ≡ patterns_of (take k every.lines) =
    sym (take-map signs_in k given.patterns.now) ∙ ap (take k) c.requires.given.patterns
    ∙ take-map (λ (x : LineValue). x.pattern) k every.lines in
    let question : (line : LineValue) → line_of found ≡ line
    → ask (groups_of c.as_slice.result.now) (signs_in c.signs.result) (signs_in given.arn) (map signs_in (take k given.patterns.now))
    ≡ line_question every k line groups = λ line same.
    ap (λ gs. ask (groups_of gs) (signs_in c.signs.result) (signs_in given.arn) (map signs_in (take k given.patterns.now))) c.as_slice.ensures.value
    ∙ ap (λ (x : List Sign). ask groups x (signs_in given.arn) (map signs_in (take k given.patterns.now))) (c.signs.ensures ∙ ap (λ (x : LineValue). x.pattern) same)
    ∙ ap (λ (x : List Sign). ask groups line.pattern x (map signs_in (take k given.patterns.now))) c.requires.given.arn
    ∙ ap (λ (x : List (List Sign)). ask groups line.pattern arn_signs x) before in
    IfOk-weaker c.text_kinds.result _
    (λ kinds. (line : LineValue) (a : ApplicableValue) (action : List ℕ) → slice_get every.lines k ≡ Some line
    → IsUnnamedAccess world p line.unnamed action access.resource a access
    → Selects (Concerns access action) (placed a) (map placed_value c.args.concerned.now) → AreLineKinds every p action k line kinds)
    (λ (kinds : Kinds) answers line a action at asks concerned.
    let same = line_there given.asked.lines.now k c.index-given-k.result line at in
    let own = c.in_ok-groups.ensures a action concerned in
    record {
      groups = groups;
      own = record { text = access.resource; applicable = a; access = access; asks = asks; are = own };
      are = groups_at c.one_request.ensures world p line.unnamed action access.resource a access groups asks (own_groups a access action groups own);
      answer = subst (λ (q : Question). IsAnswer q kinds) (question line same) (answers arns (sym c.requires.walks.names));
    })
    c.text_kinds.ensures.answer
