-- The rows that are asked for, as a walk over cells finds them.
use Rattle.std.proofs.Common.{◌≡◌, ℕ, ◌+◌, ◌-◌, ◌<◌, ◌≤◌, Bool, List, [], ◌∷◌, ◌++◌, inl, inr, sym, subst, ◌∙◌, append-nil, arith}
use Rattle.std.specs.List.{AllZip}
use Rattle.std.proofs.lemmas.Slice.Zip.{all_zipped_more}
use Rattle.iam_decision.specs.declared.verdict.Verdict.{Verdict}
use Rattle.iam_world.specs.World.{WorldValue}
use Rattle.iam_selection.specs.Report.{AreAsked}
use Rattle.iam_selection.specs.Selection.{IsAsked, IsPassed, IsSelected, SelectionValue}
use Rattle.iam_selection.specs.Code.Listing.{Adds, IsEntryOf}
use Rattle.iam_selection.proofs.Picks.{picked_none, picked_not, picked_one, picked_to}

-- the cells from one to another are not selected
pub walk_past : (selection : SelectionValue) (world : WorldValue) (from here next : ℕ) (cells : List ℕ) → from ≤ here → here ≤ next
    → AreAsked selection world from (here - from) cells → ((cell : ℕ) → here ≤ cell → cell < next → ¬ IsSelected selection world cell)
    → AreAsked selection world from (next - from) cells
walk_past selection world from here next cells least more are not =
    let none = picked_none (IsAsked selection world) (IsPassed selection world) here (next - here)
    (λ cell above below. inl (not cell above (omega (arith, below, more)))) in
    subst (AreAsked selection world from (next - from)) (append-nil cells)
    (picked_to (IsAsked selection world) (IsPassed selection world) from here next cells [] least more are none)

-- the cell is selected, and added where it is wanted
pub record Walked (brief : Bool) (selection : SelectionValue) (world : WorldValue) (from next : ℕ) (cells : List ℕ) (entries : List Verdict) : Type 0 where
  pub picked : AreAsked selection world from (next - from) cells
  pub zipped : AllZip (IsEntryOf brief world) cells entries

pub walk_on : (brief : Bool) (selection : SelectionValue) (world : WorldValue) (from here next : ℕ) (cells more : List ℕ) (entries others : List Verdict)
    → from ≤ here → next ≡ here + 1 → IsSelected selection world here → AreAsked selection world from (here - from) cells → AllZip (IsEntryOf brief world) cells entries
    → Adds brief selection world here cells more entries others → Walked brief selection world from next more others
walk_on brief selection world from here next cells more entries others least behind selected are zip (decision, is, added) =
    let up : here ≤ next = omega (arith, behind) in
    let one : 1 ≡ next - here = omega (arith, behind) in
    let Is = IsAsked selection world in
    let Passes = IsPassed selection world in
    elim added [
      | inl (wanted, e, (entry, holds, f)) ↦
          let asked : IsAsked selection world here = record { selected = selected; decision = decision; is = is; wanted = wanted } in
          record {
            picked =
                subst (AreAsked selection world from (next - from)) (sym e)
                (picked_to Is Passes from here next cells (here ∷ []) least up are
                (subst (λ n. AreAsked selection world here n (here ∷ [])) one (picked_one Is Passes here asked)));
            zipped =
                subst (λ ys. AllZip (IsEntryOf brief world) more ys) (sym f)
                (subst (λ xs. AllZip (IsEntryOf brief world) xs (entries ++ entry ∷ [])) (sym e) (all_zipped_more (IsEntryOf brief world) cells entries here entry zip holds));
          }
      | inr (unwanted, e, f) ↦
          record {
            picked =
                subst (AreAsked selection world from (next - from)) (append-nil cells ∙ sym e)
                (picked_to Is Passes from here next cells [] least up are
                (subst (λ n. AreAsked selection world here n []) one (picked_not Is Passes here (inr (decision, is, unwanted)))));
            zipped = subst (λ ys. AllZip (IsEntryOf brief world) more ys) (sym f) (subst (λ xs. AllZip (IsEntryOf brief world) xs entries) (sym e) zip);
          }
    ]
