use Rattle.std.proofs.Common.{◌≡◌, ◌∙◌, All, List, arith, length, map, string_bytes, take, sym, ap, subst}
use Rattle.std.proofs.lemmas.List.{length-map, length-take-le, take-map}
use Rattle.std.proofs.lemmas.Simd.{map-map}
use Rattle.std.specs.Str.{IsUtf8, chars}
use Rattle.iam_glob.specs.Signs.{signs_in}
use Rattle.iam_glob.specs.declared.sign.Sign.{Sign}
use Rattle.iam_kinds.specs.Answers.{IsAnswer}
use Rattle.iam_kinds.specs.Shown.{AreKinds}
use Rattle.iam_kinds.specs.declared.kinds.Kinds.{Kinds}
use Rattle.iam_every.specs.Every.{LineValue, every_of, line_of, line_question, patterns_of}
use Rattle.iam_every.specs.Groups.{groups_of}
use Rattle.iam_every.proofs.LineLemmas.{line_there}
use Rattle.iam_every.proofs.MadeLemmas.{all_utf8}
use Rattle.iam_open_every.proofs.TextLemmas.{are_texts, line_answer}
use Rattle.iam_open_every.proofs.texts.all_texts.Goals as goal

pub slice_bounds-text_kinds-end : goal.slice_bounds-text_kinds-end
slice_bounds-text_kinds-end c =
    let lines = map line_of c.args.given.asked.lines.now in
    let long : length c.args.given.patterns.now ≡ length lines =
    sym (length-map c.args.given.patterns.now signs_in) ∙ ap (λ (l : List (List Sign)). length l) c.requires.given.patterns
    ∙ length-map lines (λ (x : LineValue). x.pattern) in
    let all = length-map c.args.given.asked.lines.now line_of in
    let inside = c.requires.line in
    sym (length-take-le c.args.k c.args.given.patterns.now (omega (arith, inside, long, all)))

pub returns-in_ok-first_texts-in-Shown-clause-texts : goal.returns-in_ok-first_texts-in-Shown-clause-texts
returns-in_ok-first_texts-in-Shown-clause-texts c = λ line at.
    let every = every_of c.args.given.asked in
    let k = c.args.k in
    let groups = groups_of c.args.groups.now in
    let same = line_there c.args.given.asked.lines.now k c.index-lines-k.result line at in
    let before : map signs_in (take k c.args.given.patterns.now) ≡ patterns_of (take k every.lines) =
    sym (take-map signs_in k c.args.given.patterns.now) ∙ ap (take k) c.requires.given.patterns
    ∙ take-map (λ (x : LineValue). x.pattern) k every.lines in
    let answer = line_answer every k line groups c.in_ok-texts.field-0 (signs_in c.signs.result) (signs_in c.args.given.arn) (map signs_in (take k c.args.given.patterns.now))
    (c.signs.ensures ∙ ap (λ (x : LineValue). x.pattern) same) c.requires.given.arn before
    (c.in_ok-texts.ensures.answer (map (λ resource. resource.arn) every.world.resources) (sym c.requires.walks.names)) in
    let shown = subst (λ (x : Kinds). IsAnswer (line_question every k line groups) x) c.in-Shown.is answer in
    let texts = c.in-Shown.texts.items in
    let kinds = subst (AreKinds (line_question every k line groups)) (sym (map-map chars string_bytes texts)) shown.0 in (
      record {
        kinds = map string_bytes texts;
        shown = record { utf8 = all_utf8 texts; kinds = kinds; all = shown.1 };
        first = c.in_ok-first_texts-in-Shown.ensures;
      },
      λ p tell.
          are_texts every p k line groups (map string_bytes texts) (map string_bytes c.in_ok-first_texts-in-Shown.field-0.items)
          (subst (All IsUtf8) c.requires.given.names.are c.requires.given.names.utf8) at kinds c.in_ok-first_texts-in-Shown.ensures tell,
    )

pub returns-in-NotShown-clause-texts : goal.returns-in-NotShown-clause-texts
returns-in-NotShown-clause-texts c = λ line at.
    let every = every_of c.args.given.asked in
    let k = c.args.k in
    let groups = groups_of c.args.groups.now in
    let same = line_there c.args.given.asked.lines.now k c.index-lines-k.result line at in
    let before : map signs_in (take k c.args.given.patterns.now) ≡ patterns_of (take k every.lines) =
    sym (take-map signs_in k c.args.given.patterns.now) ∙ ap (take k) c.requires.given.patterns
    ∙ take-map (λ (x : LineValue). x.pattern) k every.lines in
    let answer = line_answer every k line groups c.in_ok-texts.field-0 (signs_in c.signs.result) (signs_in c.args.given.arn) (map signs_in (take k c.args.given.patterns.now))
    (c.signs.ensures ∙ ap (λ (x : LineValue). x.pattern) same) c.requires.given.arn before
    (c.in_ok-texts.ensures.answer (map (λ resource. resource.arn) every.world.resources) (sym c.requires.walks.names)) in
    subst (λ (x : Kinds). IsAnswer (line_question every k line groups) x) c.in-NotShown.is answer
