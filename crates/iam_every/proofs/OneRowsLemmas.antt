-- There is one list of the rows of a principal, and one report.
use Rattle.std.proofs.Common.{◌≡◌, ◌++◌, ◌∷◌, [], ◌∙◌, ◌⊎◌, inl, inr, ℕ, All, Contains, List, Option, Some, arith, ap, chars, codes, length, map, refl, subst, sym}
use Rattle.std.proofs.lemmas.List.Elements.{All-contains}
use Rattle.std.specs.List.{AllZip, flat_map, range_with_len, slice_get}
use Rattle.std.specs.Str.{IsUtf8}
use Rattle.iam_glob.specs.declared.sign.Sign.{Sign}
use Rattle.iam_kinds.specs.Kinds.{folded_question}
use Rattle.iam_kinds.specs.Laws.{OneListOfKinds, OneListOfKindsFold}
use Rattle.iam_kinds.specs.Shown.{AreKindsFold}
use Rattle.iam_kinds.specs.States.{PassesLimit}
use Rattle.iam_decision.specs.Matched.{Selects}
use Rattle.iam_decision.specs.declared.verdict.Decision.{Decision}
use Rattle.iam_decision.specs.declared.verdict.Verdict.{Verdict}
use Rattle.iam_world.specs.World.{PrincipalValue, ResourceValue, WorldValue}
use Rattle.iam_layers.specs.Cell.{IsVerdictAt, principal_text}
use Rattle.iam_layers.specs.Laws.{OneRequest, OneVerdictAt}
use Rattle.iam_layers.specs.Unnamed.{IsUnnamedVerdict, world_and}
use Rattle.iam_layers.specs.declared.unnamed.Unnamed.{Unnamed}
use Rattle.iam_layers.specs.declared.unnamed.Unnamed.TheVariants.{Like}
use Rattle.iam_row.specs.Piece.{closing_text, opening_text}
use Rattle.iam_every.specs.Every.{ActionsPass, EveryValue, IsFirst, IsMatched, LineValue, RowValue, TextsPass, line_question}
use Rattle.iam_every.specs.Made.{AreAsked, AreJoined, AreMade, AreOfAction, AreOfLine, AreOfResource, AreOfStar, AreOfText, AreOfTexts, AreShown, AreShownActions, IsRowIf, IsRowOf, unshown_row}
use Rattle.iam_every.specs.Names.{action_question}
use Rattle.iam_every.specs.Report.{AreWanted, IsWanted, NamedRow, NoReportTooLong, OneEveryReport, rows_text}
use Rattle.iam_every.specs.Rows.{OneListOfRows}
use Rattle.iam_every.proofs.AtLemmas.{one_list_of_groups_at}
use Rattle.iam_every.proofs.FirstLemmas.{one_selected, one_zipped}
use Rattle.iam_every.proofs.LineLemmas.{one_first, same_text}
use Rattle.iam_every.proofs.ListLemmas.{behind, here}
use Rattle.iam_every.proofs.NamesLemmas.{one_said, one_some}
use Rattle.iam_every.proofs.OneLemmas.{one_list_of_action_groups_at}

-- what the rows stand on has one answer
pub record Given : Type 0 where
  pub request : OneRequest
  pub verdict : OneVerdictAt
  pub kinds : OneListOfKinds
  pub actions : OneListOfKindsFold

-- ---- parts
one_joined : {X : Type 0} (Made : X → List RowValue → Type 0) → ((x : X) (rows others : List RowValue) → Made x rows → Made x others → rows ≡ others)
    → (xs : List X) (rows others : List RowValue) → AreJoined Made xs rows → AreJoined Made xs others → rows ≡ others
one_joined Made alone [] rows others h k = h ∙ sym k
one_joined Made alone (x ∷ xs) rows others (one, rest, first, are, is) (other, more, too, were, same) =
    is ∙ ap (λ l. l ++ rest) (alone x one other first too) ∙ ap (λ l. other ++ l) (one_joined Made alone xs rest more are were) ∙ sym same

one_row_if : (Due : Type 0) (P : RowValue → Type 0) → ((row other : RowValue) → P row → P other → row ≡ other) → (rows others : List RowValue)
    → IsRowIf Due P rows → IsRowIf Due P others → rows ≡ others
one_row_if Due P alone rows others (inl (due, (row, holds, is))) (inl (too, (other, does, same))) =
    is ∙ ap (λ (x : RowValue). x ∷ []) (alone row other holds does) ∙ sym same
one_row_if Due P alone rows others (inl (due, h)) (inr (never, k)) = absurd (never due)
one_row_if Due P alone rows others (inr (never, h)) (inl (due, k)) = absurd (never due)
one_row_if Due P alone rows others (inr (never, is)) (inr (nor, same)) = is ∙ sym same

pub one_verdict : OneVerdictAt → (world : WorldValue) (p : ℕ) (unnamed : Unnamed) (action text : List ℕ) (verdict other : Verdict)
    → IsUnnamedVerdict world p unnamed action text verdict → IsUnnamedVerdict world p unnamed action text other → verdict ≡ other
one_verdict one world p unnamed action text verdict other (resource, said, is) (found, told, too) =
    let same : found ≡ resource = one_said world unnamed text found resource told said in
    let At : ResourceValue → Type 0 = λ r. IsVerdictAt (world_and world action r) p (length world.actions) (length world.resources) other in
    one (world_and world action resource) p (length world.actions) (length world.resources) verdict other is (subst At same too)

row_is : (world : WorldValue) (p : ℕ) (unnamed : Unnamed) (action text : List ℕ) (row : RowValue) (of : IsRowOf world p unnamed action text row)
    → row ≡ record { action = action; resource = text; verdict = Some of.verdict }
row_is world p unnamed action text row of =
    ap (λ (x : List ℕ). record row { action = x }) of.for_action ∙ ap (λ (x : List ℕ). record row { action = action; resource = x }) of.for_text
    ∙ ap (λ (x : Option Verdict). record row { action = action; resource = text; verdict = x }) of.verdict_is

one_row_of : OneVerdictAt → (world : WorldValue) (p : ℕ) (unnamed : Unnamed) (action text : List ℕ) (row other : RowValue)
    → IsRowOf world p unnamed action text row → IsRowOf world p unnamed action text other → row ≡ other
one_row_of one world p unnamed action text row other of too =
    row_is world p unnamed action text row of
    ∙ ap (λ (v : Verdict). record { action = action; resource = text; verdict = Some v })
    (one_verdict one world p unnamed action text of.verdict too.verdict of.right too.right) ∙ sym (row_is world p unnamed action text other too)

-- texts of the same characters
one_spelling : (texts others : List (List ℕ)) → ((text : List ℕ) → Contains texts text → IsUtf8 text) → ((text : List ℕ) → Contains others text → IsUtf8 text)
    → map chars texts ≡ map chars others → texts ≡ others
one_spelling [] [] utf8 too same = refl
one_spelling [] (text ∷ others) utf8 too same = absurd (let wrong : ⊥ = cc in wrong)
one_spelling (text ∷ texts) [] utf8 too same = absurd (let wrong : ⊥ = cc in wrong)
one_spelling (text ∷ texts) (other ∷ others) utf8 too same =
    let first : chars text ≡ chars other = cc in
    let rest : map chars texts ≡ map chars others = cc in
    ap (λ (t : List ℕ). t ∷ texts) (same_text text other (utf8 text (here text texts)) (too other (here other others)) first)
    ∙ ap (λ l. other ∷ l)
    (one_spelling texts others (λ t among. utf8 t (behind text t texts among)) (λ t among. too t (behind other t others among)) rest)

pub spelled_alike : (texts others : List (List ℕ)) → All IsUtf8 texts → All IsUtf8 others → map chars texts ≡ map chars others → texts ≡ others
spelled_alike texts others utf8 too =
    one_spelling texts others (λ text among. All-contains IsUtf8 texts text utf8 among) (λ text among. All-contains IsUtf8 others text too among)

-- ---- the rows for an action
one_of_resource : OneVerdictAt → (every : EveryValue) (p : ℕ) (action : List ℕ) (r : ℕ) (rows others : List RowValue)
    → AreOfResource every p action r rows → AreOfResource every p action r others → rows ≡ others
one_of_resource one every p action r rows others =
    one_row_if (IsMatched every.world every.lines r) _ (λ row other (resource, at, of) (found, there, too).
    let same : found ≡ resource = one_some (slice_get every.world.resources r) found resource there at in
    one_row_of one every.world p (Like r) action resource.arn row other of
    (subst (λ (x : ResourceValue). IsRowOf every.world p (Like r) action x.arn other) same too)) rows others

one_of_star : OneVerdictAt → (every : EveryValue) (p : ℕ) (action : List ℕ) (rows others : List RowValue) → AreOfStar every p action rows
    → AreOfStar every p action others → rows ≡ others
one_of_star one every p action rows others =
    one_row_if _ _ (λ row other (k, line, first, of) (j, found, too, its).
    let star = codes "*" in
    let number : j ≡ k = one_first every.lines star j k found line too first in
    let same : found ≡ line =
    one_some (slice_get every.lines k) found line (subst (λ n. slice_get every.lines n ≡ Some found) number too.at) first.at in
    one_row_of one every.world p line.unnamed action star row other of
    (subst (λ (x : LineValue). IsRowOf every.world p x.unnamed action star other) same its)) rows others

one_of_text : OneVerdictAt → (every : EveryValue) (p : ℕ) (action : List ℕ) (k : ℕ) (line : LineValue) (text : List ℕ) (rows others : List RowValue)
    → AreOfText every p action k line text rows → AreOfText every p action k line text others → rows ≡ others
one_of_text one every p action k line text rows others =
    one_row_if (IsFirst every.lines text k line) (IsRowOf every.world p line.unnamed action text)
    (one_row_of one every.world p line.unnamed action text) rows others

-- what passes a limit is not shown
never_both : Given → (every : EveryValue) (p : ℕ) (action : List ℕ) (k : ℕ) (line : LineValue) (rows : List RowValue) → TextsPass every p action k line
    → ¬ AreOfTexts every p action k line rows
never_both g every p action k line rows passes of =
    let same = one_list_of_groups_at g.request every.world p line.unnamed action passes.groups of.groups passes.own of.own in
    of.shown.all (subst (λ (gs : List (List (List Sign))). PassesLimit (line_question every k line gs)) same passes.passes)

one_of_texts : Given → (every : EveryValue) (p : ℕ) (action : List ℕ) (k : ℕ) (line : LineValue) (rows others : List RowValue)
    → AreOfTexts every p action k line rows → AreOfTexts every p action k line others → rows ≡ others
one_of_texts g every p action k line rows others of too =
    let same = one_list_of_groups_at g.request every.world p line.unnamed action too.groups of.groups too.own of.own in
    let shown : AreShown (line_question every k line of.groups) too.texts =
    subst (λ (gs : List (List (List Sign))). AreShown (line_question every k line gs) too.texts) same too.shown in
    let kinds = g.kinds (line_question every k line of.groups) (map chars too.texts) (map chars of.texts) shown.kinds of.shown.kinds in
    let texts : too.texts ≡ of.texts = spelled_alike too.texts of.texts shown.utf8 of.shown.utf8 kinds in
    one_joined (AreOfText every p action k line) (one_of_text g.verdict every p action k line) of.texts rows others of.are
    (subst (λ (l : List (List ℕ)). AreJoined (AreOfText every p action k line) l others) texts too.are)

abbrev Way : EveryValue → ℕ → List ℕ → ℕ → LineValue → List RowValue → Type 0
Way every p action k line rows =
    (TextsPass every p action k line × (rows ≡ unshown_row action line ∷ [])) ⊎ AreOfTexts every p action k line rows

one_way : Given → (every : EveryValue) (p : ℕ) (action : List ℕ) (k : ℕ) (line : LineValue) (rows others : List RowValue)
    → Way every p action k line rows → Way every p action k line others → rows ≡ others
one_way g every p action k line rows others (inl (passes, is)) (inl (too, same)) = is ∙ sym same
one_way g every p action k line rows others (inl (passes, is)) (inr of) = absurd (never_both g every p action k line others passes of)
one_way g every p action k line rows others (inr of) (inl (passes, is)) = absurd (never_both g every p action k line rows passes of)
one_way g every p action k line rows others (inr of) (inr its) = one_of_texts g every p action k line rows others of its

one_of_line : Given → (every : EveryValue) (p : ℕ) (action : List ℕ) (k : ℕ) (rows others : List RowValue) → AreOfLine every p action k rows
    → AreOfLine every p action k others → rows ≡ others
one_of_line g every p action k rows others (line, at, how) (found, there, too) =
    let same : found ≡ line = one_some (slice_get every.lines k) found line there at in
    one_way g every p action k line rows others how (subst (λ (x : LineValue). Way every p action k x others) same too)

one_of_action : Given → (every : EveryValue) (p : ℕ) (action : List ℕ) (rows others : List RowValue) → AreOfAction every p action rows
    → AreOfAction every p action others → rows ≡ others
one_of_action g every p action rows others of too =
    let named = one_joined (AreOfResource every p action) (one_of_resource g.verdict every p action) (range_with_len 0 (length every.world.resources))
    of.named too.named of.are_named too.are_named in
    let star = one_of_star g.verdict every p action of.star too.star of.is_star too.is_star in
    let lined = one_joined (AreOfLine every p action) (one_of_line g every p action) (range_with_len 0 (length every.lines))
    of.lined too.lined of.are_lined too.are_lined in
    of.are ∙ ap (λ l. (l ++ of.star) ++ of.lined) named ∙ ap (λ l. (too.named ++ l) ++ of.lined) star
    ∙ ap (λ l. (too.named ++ too.star) ++ l) lined ∙ sym too.are

-- ---- the actions
one_shown : Given → (every : EveryValue) (p : ℕ) (pattern : List Sign) (actions others : List (List ℕ)) → AreShownActions every p pattern actions
    → AreShownActions every p pattern others → actions ≡ others
one_shown g every p pattern actions others of too =
    let same = one_list_of_action_groups_at every p too.groups of.groups too.own of.own in
    let question = action_question of.groups pattern in
    let shown = subst (λ (gs : List (List (List Sign))). AreKindsFold (action_question gs pattern) (map chars others)) same too.shown.kinds in
    spelled_alike actions others of.shown.utf8 too.shown.utf8 (g.actions question (map chars actions) (map chars others) of.shown.kinds shown)

one_asked : Given → (every : EveryValue) (p : ℕ) (actions others : List (List ℕ)) → AreAsked every p actions → AreAsked every p others → actions ≡ others
one_asked g every p actions others (inl (none, is)) (inl (too, same)) = is ∙ sym same
one_asked g every p actions others (inl (none, is)) (inr (pattern, some, shown)) = absurd (let wrong : ⊥ = cc in wrong)
one_asked g every p actions others (inr (pattern, some, shown)) (inl (none, is)) = absurd (let wrong : ⊥ = cc in wrong)
one_asked g every p actions others (inr (pattern, some, shown)) (inr (other, too, its)) =
    let same = one_some every.actions other pattern too some in
    one_shown g every p pattern actions others shown (subst (λ (x : List Sign). AreShownActions every p x others) same its)

-- where the kinds of actions pass a limit none are asked
never_asked : (every : EveryValue) (p : ℕ) (actions : List (List ℕ)) → ActionsPass every p → ¬ AreAsked every p actions
never_asked every p actions passes (inl (none, is)) =
    let some = passes.is in let wrong : ⊥ = cc in wrong
never_asked every p actions passes (inr (pattern, some, of)) =
    let same = one_list_of_action_groups_at every p passes.groups of.groups passes.own of.own in
    let alike = one_some every.actions passes.pattern pattern passes.is some in
    of.shown.all (subst (λ (x : List Sign). PassesLimit (folded_question (action_question of.groups x))) alike
    (subst (λ (gs : List (List (List Sign))). PassesLimit (folded_question (action_question gs passes.pattern))) same passes.passes))

-- ---- the rows
one_made : Given → (every : EveryValue) (p : ℕ) (rows others : List RowValue) → AreMade every p rows → AreMade every p others → rows ≡ others
one_made g every p rows others (inl (passes, is)) (inl (too, same)) = is ∙ sym same
one_made g every p rows others (inl (passes, is)) (inr (actions, asked, are)) = absurd (never_asked every p actions passes asked)
one_made g every p rows others (inr (actions, asked, are)) (inl (passes, is)) = absurd (never_asked every p actions passes asked)
one_made g every p rows others (inr (actions, asked, are)) (inr (found, too, were)) =
    let same = one_asked g every p found actions too asked in
    one_joined (AreOfAction every p) (one_of_action g every p) actions rows others are
    (subst (λ (l : List (List ℕ)). AreJoined (AreOfAction every p) l others) same were)

pub one_list_of_rows : Given → OneListOfRows
one_list_of_rows g every p one other h k = one_made g every p one other h.made k.made

-- ---- the report
one_wanted : Given → (every : EveryValue) (decisions : List Decision) (p : ℕ) (one other : List NamedRow) → AreWanted every decisions p one
    → AreWanted every decisions p other → one ≡ other
one_wanted g every decisions p one other (rows, chosen, are, selected, (principal, at, is)) (others, found, were, too, (further, there, same)) =
    let all : rows ≡ others = one_list_of_rows g every p rows others are were in
    let some : chosen ≡ found = one_selected (IsWanted decisions) others chosen found
    (subst (λ (l : List RowValue). Selects (IsWanted decisions) l chosen) all selected) too in
    let who : principal ≡ further = one_some (slice_get every.world.principals p) principal further at there in
    let named : PrincipalValue → List RowValue → List NamedRow = λ x l. map (λ row. record { principal = principal_text x; row = row }) l in
    is ∙ ap (named principal) some ∙ ap (λ (x : PrincipalValue). named x found) who ∙ sym same

one_lists : Given → (every : EveryValue) (decisions : List Decision) (principals : List ℕ) (one other : List (List NamedRow))
    → AllZip (AreWanted every decisions) principals one → AllZip (AreWanted every decisions) principals other → one ≡ other
one_lists g every decisions principals one other = one_zipped (AreWanted every decisions) principals one other (one_wanted g every decisions)

pub one_every_report : Given → OneEveryReport
one_every_report g format brief every principals decisions one other h k =
    let same = one_lists g every decisions principals h.lists k.lists h.are k.are in
    let text : List (List NamedRow) → List ℕ =
    λ lists. opening_text format brief ++ (rows_text format brief 0 (flat_map (λ listed. listed) lists) ++ closing_text format) in
    h.is ∙ ap text same ∙ sym k.is

pub no_report_too_long : Given → NoReportTooLong
no_report_too_long g format brief every principals decisions text h (lists, are, long) =
    let same = ap (λ (l : List (List NamedRow)). length (flat_map (λ listed. listed) l)) (one_lists g every decisions principals h.lists lists h.are are) in
    let few = h.few in
    omega (arith, same, few, long)
