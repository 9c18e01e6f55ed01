-- Slots, changed one at a time.
use Rattle.std.proofs.Common.{◌≡◌, inl, inr, ℕ, zero, suc, List, [], ◌∷◌, Option, Some, sym, subst}
use Rattle.std.proofs.Math.ListN.{set}
use Rattle.iam_columns.specs.Slots.{AllAre, AreEmpty, GainsOnly, Keeps}

pub gains_set : {T : Type 0} (slots : List (Option T)) (i : ℕ) (kept : T) → GainsOnly slots (set slots i (Some kept)) kept
gains_set [] i kept j other at = inr at
gains_set (s ∷ slots) zero kept zero other at = let same : other ≡ kept = cc in inl same
gains_set (s ∷ slots) zero kept (suc j) other at = inr at
gains_set (s ∷ slots) (suc i) kept zero other at = inr at
gains_set (s ∷ slots) (suc i) kept (suc j) other at = gains_set slots i kept j other at

-- what has a property, where nothing is kept, more is kept, and another property follows
pub all_empty : {T : Type 0} (P : T → Type 0) (slots : List (Option T)) → AreEmpty slots → AllAre P slots
all_empty P slots empty i kept at = absurd (empty i kept at)

pub all_gained : {T : Type 0} (P : T → Type 0) (old new : List (Option T)) (more : T) → GainsOnly old new more → AllAre P old → P more → AllAre P new
all_gained P old new more gains all one i kept at =
    elim (gains i kept at) [ inl same ↦ subst P (sym same) one | inr there ↦ all i kept there ]

pub all_weaker : {T : Type 0} (P Q : T → Type 0) (slots : List (Option T)) → ((kept : T) → P kept → Q kept) → AllAre P slots → AllAre Q slots
all_weaker P Q slots weaker all i kept at = weaker kept (all i kept at)
