-- What is decided on a batch of actions is the decision on each of them.
use Rattle.std.proofs.Common.{◌≡◌, inl, inr, ◌*◌, ◌+◌, ◌<◌, ℕ, Bool, true, false, Bor, List, [], ◌∷◌, ◌++◌, All, Some, get_or, length, map, refl, ap, ◌∙◌, sym, subst, arith}
use Rattle.std.proofs.lemmas.List.{length-map}
use Rattle.std.proofs.lemmas.Option.{slice_get-get_or, slice_get_within}
use Rattle.std.proofs.lemmas.Slice.Zip.{AllZip-long}
use Rattle.std.specs.List.{slice_get}
use Rattle.iam_match.specs.Statement.{request_for}
use Rattle.iam_decision.specs.Code.Found.{AllowsIn, DeniesIn, GrantsIn}
use Rattle.iam_decision.specs.Decision.{IsDecided}
use Rattle.iam_decision.specs.Living.{ActingAreFound, AreActing, FoundDecide, LivingValue}
use Rattle.iam_decision.specs.declared.frame.Frame.{Frame}
use Rattle.iam_decision.specs.declared.living.Matched.{Matched}
use Rattle.iam_decision.specs.declared.verdict.Decision.{Decision}
use Rattle.iam_classes.specs.Batch.{AreDecided, AreFoundIn, RowsFind}
use Rattle.iam_classes.specs.declared.lanes.Decided.{Decided}
use Rattle.iam_layers.specs.Cell.{IsAction, IsDecisionAt}
use Rattle.iam_world.specs.World.{WorldValue}
use Rattle.iam_index.specs.Elements.{AreActRows}
use Rattle.iam_index.proofs.ListLemmas.{at_more, is_asked}
use Rattle.iam_classes.specs.Span.{AreDecidedFrom, IsDecidedAt, IsSpan, count_of}
use Rattle.iam_classes.specs.declared.span.Span.{Span}

-- the statements that act by their rows are those that act
found_acting : (world : WorldValue) (a : ℕ) (text : List ℕ) (living : List LivingValue) (rows : List (Bor (List Bool))) (found : List Matched)
    → IsAction world a text → AreActRows world living rows → AreFoundIn (map (λ l. l.matched) living) rows a found → AreActing text living found
found_acting world a text [] [] found asked zip are = ([], refl, are)
found_acting world a text [] (row ∷ rows) found asked zip are = absurd are
found_acting world a text (s ∷ living) [] found asked zip are = absurd are
found_acting world a text (s ∷ living) (row ∷ rows) found asked (tells, zip) (inl (acts, (rest, is, more))) =
    let (kept, selected, same) = found_acting world a text living rows rest asked zip more in
    (s ∷ kept, inl ((tells a true text acts asked).0 refl, (kept, refl, selected)), is ∙ ap (λ (z : List Matched). s.matched ∷ z) same)
found_acting world a text (s ∷ living) (row ∷ rows) found asked (tells, zip) (inr (idle, more)) =
    let (kept, selected, same) = found_acting world a text living rows found asked zip more in
    (kept, inr ((λ acts. let wrong : false ≡ true = (tells a false text idle asked).1 acts in cc), selected), same)

-- what is decided on the requests of a principal for a resource is the decision on each of its actions
pub decided_is : (world : WorldValue) (p r number k : ℕ) (decided : Decided) (d : Decision)
    → FoundDecide → ActingAreFound → RowsFind → IsDecidedAt world p r number decided → k < 64 → 64 * number + k < length world.actions
    → ((frame : Frame) (statements : List Matched) (rows : List (Bor (List Bool))) (from count : ℕ) (found : List Matched)
    → AreDecided frame statements rows from count decided → k < count → AreFoundIn statements rows (from + k) found
    → IsDecided (DeniesIn found) (AllowsIn found) (GrantsIn found) frame d)
    → IsDecisionAt world p (64 * number + k) r d
decided_is world p r number k decided d decide acting finds (own, (applicable, access, accessed, shared), batch) few below says =
    let a = 64 * number + k in
    let action = get_or world.actions a [] in
    let asked = slice_get-get_or world.actions a [] below in
    let statements : List Matched = map (λ l. l.matched) own.living in
    let count = count_of world number in
    let inside : k < count = omega (arith, few, below) in
    let lengths : length batch.rows ≡ length statements =
    AllZip-long _ own.living batch.rows batch.tell ∙ omega (arith, length-map own.living (λ l. l.matched)) in
    let reach : All (λ row. a < length row.now) batch.rows = λ i row at. omega (arith, batch.reach i row at, inside) in
    let (found, are) = finds statements batch.rows a lengths reach in
    let acts = found_acting world a action own.living batch.rows found asked batch.tell are in
    let matched = acting world.actions applicable access action own found (is_asked world a action asked) shared acts in
    let F : Frame → Type 0 = λ f. IsDecided (DeniesIn found) (AllowsIn found) (GrantsIn found) f d in (
      applicable,
      request_for access action,
      (access, action, accessed, asked, refl),
      decide applicable (request_for access action) found d matched
          (subst F shared.frame (says own.frame statements batch.rows (64 * number) count found batch.are inside are)),
    )

-- one resource more
pub decided_next : (world : WorldValue) (p number r : ℕ) (span : Span) (new : List Decided) (decided : Decided) → span.principal ≡ p → span.number ≡ number
    → span.from + length span.decided.items ≡ r → new ≡ span.decided.items ++ decided ∷ [] → IsSpan world span → IsDecidedAt world p r number decided
    → AreDecidedFrom world span.principal span.number span.from new
decided_next world p number r span new decided same_p same_number next same right is =
    let old = span.decided.items in
    let P : ℕ → Type 0 = λ n. IsDecidedAt world n (span.from + length old) span.number decided in
    let N : ℕ → Type 0 = λ n. IsDecidedAt world p (span.from + length old) n decided in
    let R : ℕ → Type 0 = λ n. IsDecidedAt world p n number decided in
    let here = subst P (sym same_p) (subst N (sym same_number) (subst R (sym next) is)) in
    let A : List Decided → Type 0 = λ ds. AreDecidedFrom world span.principal span.number span.from ds in
    let all = at_more (λ i d. IsDecidedAt world span.principal (span.from + i) span.number d) old decided here right in
    subst A (sym same) all

-- of no resource
pub none_decided : (world : WorldValue) (p number from : ℕ) (all : List Decided) → all ≡ [] → AreDecidedFrom world p number from all
none_decided world p number from all none i decided at =
    let A : List Decided → Type 0 = λ ds. slice_get ds i ≡ Some decided in
    let within = slice_get_within [] i decided (subst A none at) in
    absurd (omega (arith, within))
