use Rattle.std.proofs.Common.{◌≡◌, ◌<◌, ◌∷◌, [], ◌∙◌, inl, inr, ℕ, All, List, None, Option, String, ap, arith, chars, length, map, subst, sym, string_bytes}
use Rattle.std.proofs.lemmas.List.{length-map}
use Rattle.std.proofs.lemmas.Result.{IfOk-weaker}
use Rattle.std.specs.Arc.{arc_value}
use Rattle.std.specs.Global.{Global}
use Rattle.std.specs.Str.{IsUtf8}
use Rattle.iam_kinds.specs.Shown.{AreKinds}
use Rattle.iam_kinds.specs.declared.kinds.Kinds.TheVariants.{NotShown, Shown}
use Rattle.iam_decision.specs.Code.Scan.{placed_value}
use Rattle.iam_decision.specs.declared.verdict.Verdict.{Verdict}
use Rattle.iam_every.specs.Code.Picked.{ActsOn, TellEach}
use Rattle.iam_every.specs.Code.Rows.{AreLineKinds}
use Rattle.iam_every.specs.Code.Told.{IsSaidFor, eligible_in, row_as}
use Rattle.iam_every.specs.Every.{LineValue, TextsPass, every_of, line_of, line_question}
use Rattle.iam_every.specs.Made.{AreShown}
use Rattle.iam_every.specs.declared.told.About.TheVariants.{Line}
use Rattle.iam_every.proofs.KnownLemmas.{get_some}
use Rattle.iam_every.proofs.LineLemmas.{line_there}
use Rattle.iam_every.proofs.MadeLemmas.{all_utf8, of_texts, spelled}
use Rattle.iam_every.proofs.RowLemmas.{rows_shown, rows_unshown}
use Rattle.iam_every.proofs.SceneLemmas.{concerned_in}
use Rattle.iam_every.proofs.told.said_of_line.Goals as goal

pub returns-in-Shown-clause-said : goal.returns-in-Shown-clause-said
returns-in-Shown-clause-said c =
    let given = c.args.given in
    let every = every_of given.asked in
    let p = given.p in
    let k = c.args.k in
    let scene = c.args.scene in
    let texts = c.as_slice-in-Shown.result.now in
    let below : k < length every.lines = omega (arith, c.requires.line, length-map given.asked.lines.now line_of) in
    let (line, at) = get_some every.lines k below in
    let is = c.requires.scene line at in
    let chosen = ap (map placed_value) c.as_slice.ensures.value ∙ c.in_ok-concerned.ensures in
    let names = subst (All IsUtf8) c.requires.given.names.are c.requires.given.names.utf8 in
    IfOk-weaker c.said_of_texts.result _
    (λ said. (action : List ℕ) → TellEach (ActsOn action) (eligible_in scene) c.args.acts.now → IsSaidFor every p (Line k) action said.items)
    (λ said joined action act.
    let concerned = concerned_in every.world p line.unnamed scene action c.args.acts.now c.as_slice.result.now is act chosen in
    let told : AreLineKinds every p action k line (Shown c.in-Shown.texts) =
    subst (AreLineKinds every p action k line) c.in-Shown.is (c.in_ok-texts.ensures.kinds line is.applicable action at (is.asks action) concerned) in
    let question = line_question every k line told.groups in
    let kinds : AreKinds question (map chars (map string_bytes texts)) =
    subst (λ (xs : List (String Global)). AreKinds question (map chars (map string_bytes xs))) (sym c.as_slice-in-Shown.ensures.value)
    (subst (AreKinds question) (spelled c.in-Shown.texts.items) told.answer.0) in
    let rows = map (row_as action) said.items in
    let are = joined action line at is act in
    let shown : AreShown question (map string_bytes texts) = record { utf8 = all_utf8 texts; kinds = kinds; all = told.answer.1 } in (
      rows_shown every p action k line told.groups (map string_bytes texts) rows names (all_utf8 texts) at told.are kinds
          (of_texts every p action k line (map string_bytes texts) rows are),
      (line, at, inr (record { groups = told.groups; own = told.own; texts = map string_bytes texts; shown = shown; are = are })),
    ))
    c.said_of_texts.ensures.said

pub returns-clause-said : goal.returns-clause-said
returns-clause-said c =
    let given = c.args.given in
    let every = every_of given.asked in
    let p = given.p in
    let k = c.args.k in
    let scene = c.args.scene in
    let below : k < length every.lines = omega (arith, c.requires.line, length-map given.asked.lines.now line_of) in
    let (line, at) = get_some every.lines k below in
    let is = c.requires.scene line at in
    let chosen = ap (map placed_value) c.as_slice.ensures.value ∙ c.in_ok-concerned.ensures in
    let unshown = arc_value c.in_ok-unshown-in-NotShown.unshown in
    let text : string_bytes unshown.resource ≡ line.text =
    c.in_ok-unshown-in-NotShown.ensures.resource
    ∙ ap (λ (x : LineValue). x.text) (line_there given.asked.lines.now k c.index-given-k.result line at) in
    IfOk-weaker c.alone.result _
    (λ said. (action : List ℕ) → TellEach (ActsOn action) (eligible_in scene) c.args.acts.now → IsSaidFor every p (Line k) action said.items)
    (λ said alone action act.
    let concerned = concerned_in every.world p line.unnamed scene action c.args.acts.now c.as_slice.result.now is act chosen in
    let told : AreLineKinds every p action k line NotShown =
    subst (AreLineKinds every p action k line) c.in-NotShown.is (c.in_ok-texts.ensures.kinds line is.applicable action at (is.asks action) concerned) in
    let rows = map (row_as action) said.items in
    let same : rows ≡ record { action = action; resource = line.text; verdict = None } ∷ [] =
    ap (map (row_as action)) alone ∙ ap (λ (t : List ℕ). record { action = action; resource = t; verdict = unshown.verdict } ∷ []) text
    ∙ ap (λ (v : Option Verdict). record { action = action; resource = line.text; verdict = v } ∷ []) c.in_ok-unshown-in-NotShown.ensures.verdict in
    let passes : TextsPass every p action k line = record { at = at; groups = told.groups; own = told.own; passes = told.answer } in
    (rows_unshown every p action k line told.groups rows at told.own told.answer same, (line, at, inl (passes, same))))
    c.alone.ensures
