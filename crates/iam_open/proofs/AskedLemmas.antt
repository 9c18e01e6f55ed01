-- Which requests are selected.
use Rattle.std.proofs.Common.{◌≡◌, ◌∙◌, ℕ, ap, subst, sym}
use Rattle.std.specs.List.{slice_get}
use Rattle.iam_layers.specs.Cell.{IsCell, principal_text}
use Rattle.iam_layers.specs.Laws.{OneTriple}
use Rattle.iam_layers.proofs.VerdictLemmas.{one_some}
use Rattle.iam_open.specs.Asked.{AskedValue, IsSelected}
use Rattle.iam_open.proofs.RowLemmas.{texts_same}
use Rattle.iam_row.specs.Report.{CellTexts, HasTexts}
use Rattle.iam_row.specs.Selects.{Selects}
use Rattle.iam_world.specs.World.{ResourceValue, WorldValue}

-- a principal, an action and a resource have one list of texts
same_texts : (world : WorldValue) (p a r : ℕ) (one other : CellTexts) → HasTexts world p a r one → HasTexts world p a r other → one ≡ other
same_texts world p a r one other x y =
    let (q, at_q, is_q) = x.principal in
    let (s, at_s, is_s) = y.principal in
    let (u, at_u, is_u) = x.resource in
    let (v, at_v, is_v) = y.resource in
    texts_same one other (is_q ∙ ap principal_text (one_some (slice_get world.principals p) q s at_q at_s) ∙ sym is_s)
    (one_some (slice_get world.actions a) one.action other.action x.action y.action)
    (is_u ∙ ap (λ (z : ResourceValue). z.arn) (one_some (slice_get world.resources r) u v at_u at_v) ∙ sym is_v)

-- a request is selected where its texts are
pub selected_texts : OneTriple → (asked : AskedValue) (world : WorldValue) (cell p a r : ℕ) (texts : CellTexts) → IsCell world cell p a r
    → HasTexts world p a r texts → IsSelected asked world cell → Selects asked.selection texts
selected_texts triples asked world cell p a r texts is has (other, (q, b, s, there, others), selects) =
    let same = triples world cell q b s p a r there is in
    let here : HasTexts world p a r other =
    subst (λ x. HasTexts world p a x other) same.2 (subst (λ x. HasTexts world p x s other) same.1 (subst (λ x. HasTexts world x b s other) same.0 others)) in
    subst (λ (t : CellTexts). Selects asked.selection t) (same_texts world p a r other texts here has) selects

pub texts_selected : (asked : AskedValue) (world : WorldValue) (cell p a r : ℕ) (texts : CellTexts) → IsCell world cell p a r
    → HasTexts world p a r texts → Selects asked.selection texts → IsSelected asked world cell
texts_selected asked world cell p a r texts is has selects = (texts, (p, a, r, is, has), selects)
