-- What a call on the work owes to the table and the deques, and what its seat gains.
use Rattle.std.proofs.Common.{◌≡◌, ℕ, ◌*◌, ◌/◌, ◌%◌, ◌^◌, ◌<◌, List, length, map, replicate, [], ◌∷◌, All, refl, sym, ap, ◌∙◌, subst, Global}
use Rattle.std.proofs.lemmas.List.Elements.{All-head, All-tail}
use Rattle.std.specs.Int.RustNames.{bit_or}
use Rattle.atomic_table.specs.Table.{Me, Allows}
use Rattle.atomic_table.specs.Seated.{TableId}
use Rattle.iam_work.specs.declared.view.MarkView.{MarkView}
use Rattle.iam_work.specs.declared.view.DequeView.{DequeView}
use Rattle.iam_work.specs.declared.marks.Plan.{Plan}
use Rattle.iam_work.specs.Work.{WorkId, SeatView, work_id}
use Rattle.iam_work.specs.Code.Words.{IsRuled, tells_mark}
use Rattle.iam_work.specs.Code.Fields.{RunPass, seat_view, pass_deque, pass_taken, IsReady, IsNew}
use Rattle.iam_work.proofs.Steps as steps

-- a seat of this work has its table, its deques, and as many grains and seats
pub record SameWork (t table : TableId) (v : MarkView) (mine theirs : List ((ℕ × ℕ) × Global)) (many all : ℕ) : Type 0 where
  pub here : t ≡ table
  pub deques : mine ≡ theirs
  pub grains : v.grains ≡ many
  pub seats : v.all ≡ all

pub same_work : (t table : TableId) (v : MarkView) (number : ℕ) (own : DequeView) (passes : List RunPass) (deques : List ((ℕ × ℕ) × Global)) (grains all : ℕ) (old : SeatView) (work : WorkId)
    → seat_view t v number own passes ≡ old → old.work ≡ work → work_id table deques grains all ≡ work → SameWork t table v (map pass_deque passes) deques grains all
same_work t table v number own passes deques grains all old work shown of_work is =
    let e : work_id t (map pass_deque passes) v.grains v.all ≡ work_id table deques grains all = ap (λ s. s.work) shown ∙ of_work ∙ sym is in
    record { here = ap (λ w. w.marks) e; deques = ap (λ w. w.deques) e; grains = ap (λ w. w.grains) e; seats = ap (λ w. w.seats) e }

pub allows_mark : (key plan : Plan) → key ≡ plan → (slots id : ℕ) (me : Me (Unit {0}) MarkView) → 0 < me.0.seats → (grain : ℕ) → grain < plan.grains
    → Allows (IsRuled key.grains key.seats) slots id me (grain / 64) (λ n. bit_or n (1 * 2 ^ (grain % 64) % 2 ^ 64)) (λ n after. tells_mark (grain / 64) (1 * 2 ^ (grain % 64) % 2 ^ 64) me.0 n after.0 × (after.1 ≡ me.1))
allows_mark key plan key_is slots id me seat grain inside =
    let P : Plan → Type 0 = λ k. Allows (IsRuled k.grains k.seats) slots id me (grain / 64) (λ n. bit_or n (1 * 2 ^ (grain % 64) % 2 ^ 64)) (λ n after. tells_mark (grain / 64) (1 * 2 ^ (grain % 64) % 2 ^ 64) me.0 n after.0 × (after.1 ≡ me.1)) in
    subst P (sym key_is) (steps.marks plan.grains plan.seats slots id me seat grain inside)

-- new passes have taken nothing
pub none_taken : (grains : ℕ) (passes : List RunPass) → All (IsNew grains) passes → map pass_taken passes ≡ replicate (length passes) []
none_taken grains [] all = refl
none_taken grains (p ∷ ps) all =
    let first = All-head (IsNew grains) p ps all in
    let rest = none_taken grains ps (All-tail (IsNew grains) p ps all) in
    λ i. (first.2 i).taken ∷ rest i

-- a new pass knows the grains
pub new_ready : (grains : ℕ) (p : RunPass) → IsNew grains p → IsReady grains p
new_ready grains p new = (new.0, new.1, ap (λ (v : DequeView). v.grains) new.2)
