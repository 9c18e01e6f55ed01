-- The tails of tiles that follow one another, put together.
use Rattle.std.proofs.Common.{◌≡◌, ℕ, zero, suc, ◌+◌, Bool, true, false, Some, List, [], ◌∷◌, ◌++◌, length, map, sum, refl, sym, ap, ◌∙◌, subst, arith}
use Rattle.std.specs.List.{flat_map, slice_get}
use Rattle.std.proofs.lemmas.List.{length-map, map-append}
use Rattle.std.proofs.lemmas.Option.{slice_get_within}
use Rattle.std.proofs.lemmas.List.Concat.{flat_map-cons}
use Rattle.std.proofs.lemmas.List.Sums.{sum_by-cons}
use Rattle.iam_decision.specs.declared.verdict.Decision.{Decision}
use Rattle.iam_decision.specs.declared.verdict.Verdict.{Verdict}
use Rattle.iam_row.specs.Piece.{IsQuotedOf, back_of, brief_tail, front_of, full_tail, tail_of, text_of}
use Rattle.iam_row.specs.Report.{IsReport, brief_layout, full_layout}
use Rattle.iam_row.specs.declared.quoted.Format.{Format}
use Rattle.iam_row.specs.declared.quoted.Format.TheVariants.{Csv, Json}
use Rattle.iam_row.specs.declared.quoted.Quoted.{Quoted}
use Rattle.iam_row.specs.declared.tail.Tail.{Tail}
use Rattle.iam_layers.specs.Cell.{IsDecisionOf, IsVerdictOf}
use Rattle.iam_world.specs.World.{WorldValue, world_cells}
use Rattle.iam_matrix.specs.Report.{IsMatrixReport}
use Rattle.iam_matrix.specs.Code.Tiles.{AreEntries, AreTails, AreTailsOf, Chain}
use Rattle.iam_matrix.proofs.Tiles.{join_entries, no_entries, whole}

pub chain_tails : {X : Type 0} (Is : ℕ → X → Type 0) (tail : X → Tail) (from : ℕ) (lengths : List ℕ) (outputs : List (List Tail))
    → Chain (λ f n output. AreTails Is tail f n output) from lengths outputs
    → AreTails Is tail from (sum lengths) (flat_map (λ tile. tile) outputs)
chain_tails Is tail from [] [] c = ([], no_entries Is from, refl)
chain_tails Is tail from [] (output ∷ outputs) c = absurd c
chain_tails Is tail from (n ∷ lengths) [] c = absurd c
chain_tails Is tail from (n ∷ lengths) (output ∷ outputs) ((xs, a, e), c) =
    let rest = chain_tails Is tail (from + n) lengths outputs c in
    let all = join_entries Is from n (sum lengths) xs rest.0 a rest.1 in
    let sums : n + sum lengths ≡ sum (n ∷ lengths) = omega (arith, sum_by-cons (λ (x : ℕ). x) n lengths) in
    let P : ℕ → Type 0 = λ k. AreEntries Is from k (xs ++ rest.0) in (
      xs ++ rest.0,
      subst P sums all,
      flat_map-cons (λ (tile : List Tail). tile) output outputs ∙ ap (λ l. l ++ flat_map (λ tile. tile) outputs) e ∙ ap (λ l. map tail xs ++ l) rest.2
          ∙ sym (map-append tail xs rest.0),
    )

-- what became another thing was there before
map_back : {A B : Type 0} (f : A → B) (xs : List A) (i : ℕ) (y : B) → slice_get (map f xs) i ≡ Some y → (x : A) × (slice_get xs i ≡ Some x) × (f x ≡ y)
map_back f [] i y at = let within = slice_get_within [] i y at in absurd (omega (arith, within))
map_back f (x ∷ xs) zero y at = let same : f x ≡ y = cc in (x, refl, same)
map_back f (x ∷ xs) (suc i) y at = map_back f xs i y at

-- the decisions of verdicts
decided : (world : WorldValue) (from count : ℕ) (verdicts : List Verdict) → AreEntries (IsVerdictOf world) from count verdicts
    → AreEntries (IsDecisionOf world) from count (map (λ v. v.decision) verdicts)
decided world from count verdicts are = record {
  count_is = length-map verdicts (λ v. v.decision) ∙ are.count_is;
  each = λ i d at.
      let (v, there, same) = map_back (λ (v : Verdict). v.decision) verdicts i d at in
      let (p, a, r, is, (applicable, request, asked, holds)) = are.each i v there in
      let D : Decision → Type 0 = λ e. IsDecisionOf world (from + i) e in
      subst D same (p, a, r, is, (applicable, request, asked, holds.decided));
}

brief_is : (format : Format) (v : Verdict) → tail_of format true v ≡ brief_tail format v.decision
unfolding front_of back_of
brief_is Csv v = refl
brief_is Json v = refl

brief_tails : (format : Format) (verdicts : List Verdict)
    → map (tail_of format true) verdicts ≡ map (brief_tail format) (map (λ (v : Verdict). v.decision) verdicts)
brief_tails format [] = refl
brief_tails format (v ∷ verdicts) =
    ap (λ t. t ∷ map (tail_of format true) verdicts) (brief_is format v) ∙ ap (λ l. brief_tail format v.decision ∷ l) (brief_tails format verdicts)

-- the tails of verdicts on these cells
pub tails_of : (format : Format) (brief : Bool) (world : WorldValue) (from count : ℕ) (verdicts : List Verdict) (tails : List Tail)
    → AreEntries (IsVerdictOf world) from count verdicts → tails ≡ map (tail_of format brief) verdicts → AreTailsOf format brief world from count tails
tails_of format false world from count verdicts tails are is = (verdicts, are, is)
tails_of format true world from count verdicts tails are is =
    (map (λ v. v.decision) verdicts, decided world from count verdicts are, is ∙ brief_tails format verdicts)

-- there are as many tails as cells
pub count_tails : (format : Format) (brief : Bool) (world : WorldValue) (lengths : List ℕ) (outputs : List (List Tail))
    → Chain (λ f n output. AreTailsOf format brief world f n output) 0 lengths outputs → length (flat_map (λ tile. tile) outputs) ≡ sum lengths
count_tails format false world lengths outputs c =
    let all = chain_tails (IsVerdictOf world) (full_tail format) 0 lengths outputs c in ap length all.2 ∙ length-map all.0 (full_tail format) ∙ all.1.count_is
count_tails format true world lengths outputs c =
    let all = chain_tails (IsDecisionOf world) (brief_tail format) 0 lengths outputs c in ap length all.2 ∙ length-map all.0 (brief_tail format) ∙ all.1.count_is

-- the report of all tiles, by the laws of reports, which the caller hands in
pub report : (brief : Bool) (world : WorldValue) (quoted : Quoted) (lengths : List ℕ) (outputs : List (List Tail))
    → ((q : Quoted) (verdicts : List Verdict) → IsQuotedOf world q → length verdicts ≡ world_cells world
    → IsReport full_layout q.format world verdicts (text_of (record { quoted = q; brief = false; tails = map (full_tail q.format) verdicts })))
    → ((q : Quoted) (decisions : List Decision) → IsQuotedOf world q → length decisions ≡ world_cells world
    → IsReport brief_layout q.format world decisions (text_of (record { quoted = q; brief = true; tails = map (brief_tail q.format) decisions })))
    → IsQuotedOf world quoted → sum lengths ≡ world_cells world → Chain (λ f n output. AreTailsOf quoted.format brief world f n output) 0 lengths outputs
    → IsMatrixReport quoted.format brief world (text_of (record { quoted = quoted; brief = brief; tails = flat_map (λ tile. tile) outputs }))
report false world quoted lengths outputs full bare same e c =
    let all = chain_tails (IsVerdictOf world) (full_tail quoted.format) 0 lengths outputs c in
    let P : List Tail → Type 0 = λ tails. IsReport full_layout quoted.format world all.0 (text_of (record { quoted = quoted; brief = false; tails = tails })) in
    (all.0, whole IsVerdictOf world lengths all.0 e all.1, subst P (sym all.2) (full quoted all.0 same (all.1.count_is ∙ e)))
report true world quoted lengths outputs full bare same e c =
    let all = chain_tails (IsDecisionOf world) (brief_tail quoted.format) 0 lengths outputs c in
    let P : List Tail → Type 0 = λ tails. IsReport brief_layout quoted.format world all.0 (text_of (record { quoted = quoted; brief = true; tails = tails })) in
    (all.0, whole IsDecisionOf world lengths all.0 e all.1, subst P (sym all.2) (bare quoted all.0 same (all.1.count_is ∙ e)))
